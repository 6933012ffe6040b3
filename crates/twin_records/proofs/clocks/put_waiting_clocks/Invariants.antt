use mathlib.Core.List.{map}
use Rattle.model.specs.ChartSet.{read_charts}
use Rattle.model.specs.AutomataTable.{write_clock}
use Rattle.model.specs.Translation.{waiting_clocks}
use Rattle.twin_records.specs.Texts.{section}
use Rattle.twin_records.proofs.TextsWritten.{Texts}
use Rattle.twin_records.proofs.clocks.put_waiting_clocks.Given as goal

abbrev pub invariant-loop-state : goal.invariant-loop-state
invariant-loop-state l = Texts (λ i. section 37 (map write_clock (waiting_clocks (read_charts l.s) i))) 16 l.initial.out l.at l.out l.next l.state
