use Rattle.std.proofs.Common.{◌+◌, ◌*◌}
use Rattle.expressions.proofs.values.+chosen_compared_computed_decided_number_outcome_operand_number_operand_truth_truth_outcome.Given as goal

abbrev pub decreases-chosen : goal.decreases-chosen
decreases-chosen l = 3 * l.n + 1

abbrev pub decreases-compared : goal.decreases-compared
decreases-compared l = 3 * l.n + 1

abbrev pub decreases-computed : goal.decreases-computed
decreases-computed l = 3 * l.n + 1

abbrev pub decreases-decided : goal.decreases-decided
decreases-decided l = 3 * l.n + 1

abbrev pub decreases-number_outcome : goal.decreases-number_outcome
decreases-number_outcome l = 3 * l.n + 2

abbrev pub decreases-operand_number : goal.decreases-operand_number
decreases-operand_number l = 3 * l.n

abbrev pub decreases-operand_truth : goal.decreases-operand_truth
decreases-operand_truth l = 3 * l.n

abbrev pub decreases-truth_outcome : goal.decreases-truth_outcome
decreases-truth_outcome l = 3 * l.n + 2
