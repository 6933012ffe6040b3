use Rattle.twin_records.specs.Texts.{record_text}
use Rattle.twin_records.proofs.TextsWritten.{Texts}
use Rattle.expressions.specs.Nodes.{node_at, write_node}
use Rattle.chart_records.specs.Places.{node_part}
use Rattle.twin_records.proofs.sections.put_nodes.Given as goal

abbrev pub invariant-loop-n : goal.invariant-loop-n
invariant-loop-n l = Texts (λ i. record_text 39 (write_node (node_at (node_part l.s l.shape) i))) 16 l.initial.out l.at l.out l.next l.n
