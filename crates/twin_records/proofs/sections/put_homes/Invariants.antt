use mathlib.Core.List.{[], ◌∷◌}
use Rattle.twin_records.specs.Texts.{record_text}
use Rattle.twin_records.proofs.TextsWritten.{Texts}
use Rattle.chart_records.specs.Places.{home_at}
use Rattle.twin_records.proofs.sections.put_homes.Given as goal

abbrev pub invariant-loop-state : goal.invariant-loop-state
invariant-loop-state l = Texts (λ i. record_text 34 (home_at l.s l.shape i ∷ [])) 16 l.initial.out l.at l.out l.next l.state
