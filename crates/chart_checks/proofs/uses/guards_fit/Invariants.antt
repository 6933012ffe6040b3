use Rattle.expressions.specs.Nodes.{node_at}
use Rattle.prelude.proofs.Loops.{Flagged}
use Rattle.chart_records.specs.Places.{node_part}
use Rattle.chart_checks.specs.Used.{guard_at, truths}
use Rattle.chart_checks.proofs.Used.{Gathered}
use Rattle.chart_checks.proofs.uses.guards_fit.Given as goal

abbrev pub invariant-loop-t : goal.invariant-loop-t
invariant-loop-t l =
    Gathered (guard_at l.s l.shape) l.shape.transitions l.initial.uses l.uses l.t
    × Flagged (λ t. truths (node_at (node_part l.s l.shape)) (guard_at l.s l.shape t)) l.shape.transitions l.fit l.t
