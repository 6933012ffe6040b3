use Rattle.twin_records.specs.Texts.{record_text}
use Rattle.twin_records.proofs.TextsWritten.{Texts}
use Rattle.model.specs.AutomataTable.{write_variable}
use Rattle.chart_records.specs.Places.{variable_at}
use Rattle.twin_records.proofs.sections.put_variables.Given as goal

abbrev pub invariant-loop-v : goal.invariant-loop-v
invariant-loop-v l = Texts (λ i. record_text 38 (write_variable (variable_at l.s l.shape i))) 16 l.initial.out l.at l.out l.next l.v
