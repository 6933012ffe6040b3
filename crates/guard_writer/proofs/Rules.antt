-- The tree of a node by the rule for one node: any depth above the node's number gives it. Assumes nothing.
use mathlib.Core.Path.{◌≡◌, refl, sym, ap, ◌∙◌}
use mathlib.Core.Bool.{Bool, true, false, cond}
use mathlib.Core.List.{[], ◌∷◌, ◌++◌}
use Prim.Native.Nat.{ℕ, zero, suc, ◌<◌, ◌≤◌}
use native.Mathlib.Omega.{arith}
use borrow.Author.Tests.{ltb-true, lt-ltb, le-ltb}
use lib.Dec.{ltb}
use lib.IntN.{pos}
use Rattle.expressions.specs.Nodes.{Node}
use Rattle.guards.specs.Trees.{Tree, constant, level}
use Rattle.guards.specs.Texts.{text_of, text_in}
use Rattle.guards.specs.Lists.{tree_by, tree_at, tree_of}
use Rattle.guard_writer.specs.Operands.{operand_tree}
use Rattle.guard_writer.proofs.Texts.{bare, enclosed}

below-same : (f g : ℕ → Tree) (n a : ℕ) → (a < n → f a ≡ g a) → cond (ltb a n) (f a) (constant (pos 0)) ≡ cond (ltb a n) (g a) (constant (pos 0))
below-same f g n a e = go (ltb a n) (λ t. e (ltb-true a n t))
  where
    go : (t : Bool) → (t ≡ true → f a ≡ g a) → cond t (f a) (constant (pos 0)) ≡ cond t (g a) (constant (pos 0))
    go true h = h refl
    go false h = refl

module _ (node : ℕ → Node) where
  deep : (d e n : ℕ) → n < d → n < e → tree_at node d n ≡ tree_at node e n
  unfolding tree_at
  deep zero e n h k = absurd (omega arith)
  deep (suc d) zero n h k = absurd (omega arith)
  deep (suc d) (suc e) n h k = λ i. tree_by (λ a. below-same (tree_at node d) (tree_at node e) n a (λ l. deep d e a (omega arith) (omega arith)) i) (node n)

  pub tree-rule : (n : ℕ) → tree_of node n ≡ tree_by (operand_tree node n) (node n)
  unfolding tree_at
  tree-rule n = λ i. tree_by (λ a. below-same (tree_at node n) (tree_of node) n a (λ l. deep n (suc a) a l (omega arith)) i) (node n)

  pub lower-operand : (n a : ℕ) → a < n → tree_of node a ≡ operand_tree node n a
  lower-operand n a h = sym (ap (λ t. cond t (tree_of node a) (constant (pos 0))) (lt-ltb a n h))

  pub no_operand : (n a : ℕ) → n ≤ a → constant (pos 0) ≡ operand_tree node n a
  no_operand n a h = sym (ap (λ t. cond t (tree_of node a) (constant (pos 0))) (le-ltb a n h))

  -- the text of operand a of node n in a place that takes levels up to k
  module _ (n k a : ℕ) (h : a < n) where
    pub bare-operand : level (tree_of node a) ≤ k → text_of (tree_of node a) ≡ text_in k (operand_tree node n a)
    bare-operand l = bare k (tree_of node a) l ∙ ap (text_in k) (lower-operand n a h)

    pub enclosed-operand : k < level (tree_of node a) → 40 ∷ text_of (tree_of node a) ++ (41 ∷ []) ≡ text_in k (operand_tree node n a)
    enclosed-operand l = enclosed k (tree_of node a) l ∙ ap (text_in k) (lower-operand n a h)
