use mathlib.Core.Path.{◌≡◌, refl, sym, ◌∙◌}
use mathlib.Core.Bool.{Bool, true, false}
use mathlib.Core.Option.{none}
use mathlib.Core.List.{List}
use Prim.Native.Nat.{ℕ, ◌/◌, ◌≤◌, ◌<◌}
use borrow.Author.Tests.{le-ltb}
use lib.Dec.{ltb}
use lib.ListN.{length}
use Rattle.std.specs.Prelude.{IfSome}
use Rattle.std.specs.Bool.{then_some}
use Rattle.prelude.specs.Lists.{all, upto}
use Rattle.expressions.specs.Nodes.{node_at}
use Rattle.expressions.specs.Sorts.{nodes_named}
use Rattle.guards.specs.Lists.{is_known, is_one_tree, list_refusal}
use Rattle.guard_writer.specs.Measures.{Passes, Fits}
use Rattle.guard_writer.proofs.Listed.{all-passed}
use Rattle.guard_writer.proofs.Lines.{line-own}
use Rattle.guard_writer.proofs.Owns.{all_known, all_named_lem, all_fit}
use Rattle.guard_writer.proofs.measures.tree_bytes.Goals as goal

passed : (s : List ℕ) → length s / 16 ≤ 1024 → ((n : ℕ) → n < length s / 16 → Passes (node_at s) n) → is_one_tree (node_at s) (length s / 16) ≡ true → none ≡ list_refusal (node_at s) (length s / 16)
passed s few p one =
    let size = length s / 16 in
    all-passed (ltb 1024 size) (all (is_known (node_at s) size) (upto size)) (nodes_named (node_at s) size 64) (is_one_tree (node_at s) size) (le-ltb 1024 size few) (all_known (node_at s) size p) (all_named_lem (node_at s) size p) one

then_told : (b : Bool) (n : ℕ) (P : ℕ → Type 0) → (b ≡ true → P n) → IfSome (then_some b n) P
then_told true n P f = f refl
then_told false n P f = tt

pub one_tree-requires : goal.one_tree-requires
one_tree-requires c =
    let s = c.args.nodes.now in
    let b = c.in_ok-bytes.ensures in
    (c.if-whole-gt-NODES.false, sym (all_fit (node_at s) (length s / 16) b.1), b.2)

pub returns : goal.returns
returns c =
    let s = c.args.nodes.now in
    let b = c.in_ok-bytes in
    rw c.then_some.ensures (
    then_told c.one_tree.result b.bytes (Fits s)
    (λ t.
    let e = passed s c.if-whole-gt-NODES.false b.ensures.1 (sym c.one_tree.ensures ∙ t) in
    record { accepted = e; enough = line-own s e b.bytes b.ensures.0 })
    )
