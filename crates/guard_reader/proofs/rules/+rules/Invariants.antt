-- Each rule goes on from a place behind the one before it, or goes down a rule at its own. In the loop the tree so far goes on from the one that it began with,
-- whatever was lent.
use mathlib.Core.List.{List}
use Prim.Native.Nat.{ℕ, ◌+◌, ◌-◌, ◌*◌}
use lib.ListN.{length}
use Rattle.guard_reader.proofs.Readings.{Reading}
use Rattle.guard_reader.proofs.rules.+rules.Given as goal

abbrev pub decreases-operand : goal.decreases-operand
decreases-operand l = 3 * (length l.text.now - l.at)

abbrev pub decreases-binary : goal.decreases-binary
decreases-binary l = 3 * (length l.text.now - l.at) + 1

abbrev pub decreases-choice : goal.decreases-choice
decreases-choice l = 3 * (length l.text.now - l.at) + 2

abbrev pub invariant-binary-loop-s : goal.invariant-binary-loop-s
invariant-binary-loop-s l = (before : List ℕ) → Reading l.text l.at l.k l.size before l.initial.nodes l.initial.left → Reading l.text l.at l.k l.size before l.nodes l.left

abbrev pub decreases-binary-loop-s : goal.decreases-binary-loop-s
decreases-binary-loop-s l = length l.text - l.left.next
