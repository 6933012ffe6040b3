-- The tree of a node by those of its operands, at any depth above the node's number. Assumes nothing.
use mathlib.Core.Path.{◌≡◌, refl, ap, ◌∙◌, fun_ext}
use mathlib.Core.Bool.{Bool, true, false, cond}
use Prim.Native.Nat.{ℕ, zero, suc, ◌-◌, ◌<◌}
use native.Mathlib.Omega.{arith}
use borrow.Author.Tests.{lt-ltb, ltb-true}
use lib.Dec.{ltb}
use lib.IntN.{pos}
use Rattle.expressions.specs.Nodes.{Node}
use Rattle.guards.specs.Trees.{Tree, constant}
use Rattle.guards.specs.Lists.{tree_by, tree_at}

module _ (node : ℕ → Node) where
  -- the tree of operand a of node n
  abbrev pub operand_tree : ℕ → ℕ → ℕ → Tree
  operand_tree d n a = cond (ltb a n) (tree_at node d a) (constant (pos 0))

  pub operand_tree-lower : (d n a : ℕ) → a < n → operand_tree d n a ≡ tree_at node d a
  operand_tree-lower d n a l = ap (λ b. cond b (tree_at node d a) (constant (pos 0))) (lt-ltb a n l)

  pub tree_at-node : (d n : ℕ) (x : Node) → n < d → node n ≡ x → tree_at node d n ≡ tree_by (operand_tree (d - 1) n) x
  unfolding tree_at
  tree_at-node zero n x l e = absurd (omega arith)
  tree_at-node (suc d) n x l e = ap (tree_by (operand_tree d n)) e ∙ ap (λ c. tree_by (operand_tree c n) x) (let h : d ≡ suc d - 1 = omega arith in h)

  pub tree_at-deep : (d e n : ℕ) → n < d → n < e → tree_at node d n ≡ tree_at node e n
  unfolding tree_at
  tree_at-deep zero e n l m = absurd (omega arith)
  tree_at-deep (suc d) zero n l m = absurd (omega arith)
  tree_at-deep (suc d) (suc e) n l m =
      ap (λ f. tree_by f (node n)) (fun_ext (λ a. go (ltb a n) (λ t. let h : a < n = ltb-true a n t in tree_at-deep d e a (omega arith) (omega arith))))
    where
      go : {x y : Tree} (t : Bool) → (t ≡ true → x ≡ y) → cond t x (constant (pos 0)) ≡ cond t y (constant (pos 0))
      go true h = h refl
      go false h = refl
