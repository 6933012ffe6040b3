use Prim.Native.Nat.{ℕ, ◌<◌}
use Rattle.expressions.specs.Nodes.{node_at}
use Rattle.expressions.proofs.Uses.{Counted}
use Rattle.guard_writer.specs.Measures.{OwnAll, Passes}
use Rattle.guard_writer.proofs.measures.all_bytes.Given as goal

abbrev pub invariant-loop-n : goal.invariant-loop-n
invariant-loop-n l = Counted (node_at l.nodes) l.size l.initial.uses l.uses l.n × OwnAll (node_at l.nodes) l.n l.bytes × ((m : ℕ) → m < l.n → Passes (node_at l.nodes) m)
