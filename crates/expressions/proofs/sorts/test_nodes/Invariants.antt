use Rattle.expressions.specs.Nodes.{node_at}
use Rattle.expressions.specs.Sorts.{node_named, node_fits}
use Rattle.prelude.proofs.Loops.{Flagged}
use Rattle.expressions.proofs.Uses.{Counted}
use Rattle.expressions.proofs.sorts.test_nodes.Given as goal

abbrev pub invariant-loop-n : goal.invariant-loop-n
invariant-loop-n l = Counted (node_at l.nodes) l.size l.initial.uses l.uses l.n
    × Flagged (node_named (node_at l.nodes) l.size l.variables) l.size l.tests.named l.n
    × Flagged (node_fits (node_at l.nodes)) l.size l.tests.fit l.n
