use Rattle.model.specs.ChartSet.{read_charts}
use Rattle.model.specs.Translation.{from_transition}
use Rattle.twin_records.specs.Texts.{edge_text}
use Rattle.twin_records.proofs.TextsWritten.{Texts}
use Rattle.twin_records.proofs.edges.put_transition_edges.Given as goal

abbrev pub invariant-loop-t : goal.invariant-loop-t
invariant-loop-t l = Texts (λ i. edge_text (read_charts l.s) (from_transition i)) 16 l.initial.out l.at l.out l.next l.t
