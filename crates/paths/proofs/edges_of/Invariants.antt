use Rattle.paths.proofs.EdgesHeld.{Held}
use Rattle.paths.proofs.edges_of.Given as goal

abbrev pub invariant-loop-e : goal.invariant-loop-e
invariant-loop-e l = Held l.s l.shape.charts l.e l.edges
