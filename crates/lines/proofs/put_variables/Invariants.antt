use mathlib.Core.Path.{◌≡◌}
use Prim.Native.Nat.{◌+◌, ◌*◌, ◌≤◌}
use lib.ListN.{length, take}
use Rattle.records.specs.Wrote.{Wrote}
use Rattle.lines.specs.Text.{variables_text}
use Rattle.lines.proofs.put_variables.Given as goal

abbrev pub invariant-loop-v : goal.invariant-loop-v
invariant-loop-v l = (l.next ≤ l.at + 7 * l.v-index) × (length l.out ≡ length l.initial.out) × Wrote l.initial.out l.at (variables_text (take l.v-index l.v-items)) l.out l.next
