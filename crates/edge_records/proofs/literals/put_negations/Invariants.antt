use Prim.Native.Nat.{◌+◌}
use Rattle.model.specs.ChartSet.{read_charts}
use Rattle.twin_records.proofs.TextsWritten.{Texts}
use Rattle.edge_records.proofs.TextsEdges.{nots_text}
use Rattle.edge_records.proofs.literals.put_negations.Given as goal

abbrev pub invariant-loop-j : goal.invariant-loop-j
invariant-loop-j l = Texts (λ q. nots_text (read_charts l.s) l.edge l.state (q + 1)) 16 l.initial.out l.at l.out l.next l.j
