use Rattle.std.proofs.Common.{◌+◌, ◌*◌}
use Rattle.expressions.proofs.WholeRecords.{LeftTo}
use Rattle.expressions.proofs.values.+comparison_at_condition_number_below_operation_truth_below.Given as goal

abbrev pub decreases-comparison_at : goal.decreases-comparison_at
decreases-comparison_at l = 3 * l.at + 1

abbrev pub decreases-condition : goal.decreases-condition
decreases-condition l = 3 * l.start + 2

abbrev pub decreases-number_below : goal.decreases-number_below
decreases-number_below l = 3 * l.at

abbrev pub decreases-operation : goal.decreases-operation
decreases-operation l = 3 * l.at + 2

abbrev pub decreases-truth_below : goal.decreases-truth_below
decreases-truth_below l = 3 * l.at

-- The loop goes down from record to record.
abbrev pub invariant-condition-loop-left : goal.invariant-condition-loop-left
invariant-condition-loop-left l = LeftTo l.nodes l.vars l.start l.at l.flip l.code

abbrev pub decreases-condition-loop-left : goal.decreases-condition-loop-left
decreases-condition-loop-left l = l.at
