use mathlib.Core.List.{◌∷◌}
use Rattle.records.specs.Bytes.{bytes2}
use Rattle.twin_records.specs.Texts.{record_text}
use Rattle.twin_records.proofs.TextsWritten.{Texts}
use Rattle.chart_records.specs.Places.{initial_at}
use Rattle.twin_records.proofs.sections.put_initials.Given as goal

abbrev pub invariant-loop-c : goal.invariant-loop-c
invariant-loop-c l = Texts (λ i. record_text 33 (0 ∷ bytes2 (initial_at l.s l.fn.shape i))) 16 l.initial.out l.at l.out l.next l.c
