use Rattle.prelude.specs.Lists.{gather}
use Rattle.model.specs.ChartSet.{read_charts}
use Rattle.model.specs.Translation.{idle_origins}
use Rattle.twin_records.specs.Texts.{edge_text}
use Rattle.twin_records.proofs.TextsWritten.{Texts}
use Rattle.twin_records.proofs.edges.put_idle_edges.Given as goal

abbrev pub invariant-loop-state : goal.invariant-loop-state
invariant-loop-state l = Texts (λ i. gather (edge_text (read_charts l.s)) (idle_origins (read_charts l.s) i)) 32 l.initial.out l.at l.out l.next l.state
