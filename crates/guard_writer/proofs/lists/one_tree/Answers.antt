use mathlib.Core.Path.{◌≡◌, sym, ap, ◌∙◌}
use mathlib.Core.Bool.{true, ◌&&◌}
use Prim.Native.Nat.{ℕ}
use native.Mathlib.Omega.{arith}
use borrow.Author.Tests.{lt-ltb}
use lib.Dec.{ltb}
use lib.ListN.{length, replicate, length-replicate}
use Rattle.expressions.specs.Nodes.{node_at}
use Rattle.expressions.specs.Uses.{all_operands}
use Rattle.expressions.proofs.Uses.{adds-length}
use Rattle.guard_writer.proofs.Listed.{uses-right}
use Rattle.guard_writer.proofs.lists.one_tree.Goals as goal

pub all_due-requires : goal.all_due-requires
all_due-requires c =
    omega (arith, c.requires.0, ap length c.requires.2 ∙ adds-length (replicate 1024 0) (all_operands (node_at c.args.nodes.now) c.args.size) ∙ length-replicate {A = ℕ} 1024 0)

pub returns : goal.returns
returns c =
    let size = c.args.size in
    let node = node_at c.args.nodes.now in
    let some : true ≡ ltb 0 size = sym (lt-ltb 0 size (omega arith)) in
    let used = c.all_due.ensures ∙ uses-right node size c.args.uses.now c.requires.0 c.requires.2 in
    λ i. some i && c.requires.1 i && c.is_truth.ensures i && used i
