use mathlib.Core.List.{map}
use Rattle.model.specs.AutomataTable.{write_clock}
use Rattle.model.specs.Translation.{clocks_of}
use Rattle.chart_records.specs.Places.{transition_at}
use Rattle.twin_records.specs.Texts.{section}
use Rattle.twin_records.proofs.TextsWritten.{Texts}
use Rattle.twin_records.proofs.clocks.put_transition_clocks.Given as goal

abbrev pub invariant-loop-t : goal.invariant-loop-t
invariant-loop-t l = Texts (λ i. section 37 (map write_clock (clocks_of (transition_at l.s l.shape i).trigger))) 16 l.initial.out l.at l.out l.next l.t
