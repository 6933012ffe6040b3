-- Each member's measure comes from its node: an operand's is below it, and a member that writes operands of node n stands between node n and its operands.
use Rattle.std.proofs.Common.{◌*◌, ◌+◌}
use Rattle.guard_writer.proofs.trees.+tree.Given as goal

abbrev pub decreases-put_binary : goal.decreases-put_binary
decreases-put_binary l = 3 * l.n + 1

abbrev pub decreases-put_choice : goal.decreases-put_choice
decreases-put_choice l = 3 * l.n + 1

abbrev pub decreases-put_negation : goal.decreases-put_negation
decreases-put_negation l = 3 * l.n + 1

abbrev pub decreases-put_operand : goal.decreases-put_operand
decreases-put_operand l = 3 * l.n

abbrev pub decreases-put_node : goal.decreases-put_node
decreases-put_node l = 3 * l.n + 2
