-- A list of nodes that is one guard: its tests, and its tree. Assumes nothing: these are definitions.
use Rattle.std.specs.Prelude.{Bool, not, cond, ◌&&◌, ◌||◌, [], ◌∷◌, ℕ, zero, suc, ◌-◌, ltb, eqb, pos}
use Rattle.std.proofs.Math.Option.{Option}
use Rattle.prelude.specs.Lists.{all, upto, Lists}
use Rattle.records.specs.Refusal.{Refusal, wrong_amounts, broken_code, dangling_number, broken_node, lowest}
use Rattle.model.specs.Limits.{most_variables, most_nodes}
use Rattle.expressions.specs.Nodes as N
use Rattle.expressions.specs.Nodes.{Node}
use Rattle.expressions.specs.Sorts.{sort_of, is_number, is_truth, nodes_named, operands_fit, operand_uses, Sorts}
use Rattle.guards.specs.Trees.{Tree, arithmetic, comparison, both, either, constant, variable, negation, binary, choice}

-- ---- "The writer's 5, 6, 8 are asked of the whole list, lowest number first."

module _ (node : ℕ → Node) (size : ℕ) where
  abbrev pub is_known : ℕ → Bool
  is_known n = is_number (sort_of (node n)) || is_truth (sort_of (node n))

  -- 8: the root, which is the last, is used by none; every other node is used "exactly once as an operand"
  abbrev pub used_rightly : ℕ → Bool
  used_rightly k = eqb (operand_uses node size k) (cond (eqb (suc k) size) 0 1)

  abbrev pub is_one_tree : Bool
  is_one_tree = ltb 0 size && operands_fit node size && is_truth (sort_of (node (size - 1))) && all used_rightly (upto size)

  abbrev pub list_refusal : Option Refusal
  list_refusal =
      lowest
      ((wrong_amounts, ltb most_nodes size)
      ∷ (broken_code, not (all is_known (upto size)))
      ∷ (dangling_number, not (nodes_named node size most_variables))
      ∷ (broken_node, not is_one_tree)
      ∷ [])

-- ---- the tree of a node, given those of its operands; of no accepted list is an operator unknown

module _ (tree : ℕ → Tree) where
  abbrev pub tree_by : Node → Tree
  tree_by (N.constant z) = constant z
  tree_by (N.variable v) = variable v
  tree_by (N.arithmetic o a b) = binary (arithmetic o) (tree a) (tree b)
  tree_by (N.choice t a b) = choice (tree t) (tree a) (tree b)
  tree_by (N.comparison o a b) = binary (comparison o) (tree a) (tree b)
  tree_by (N.negation a) = negation (tree a)
  tree_by (N.both a b) = binary both (tree a) (tree b)
  tree_by (N.either a b) = binary either (tree a) (tree b)
  tree_by N.unknown = constant (pos 0)

-- Operands are lower than their node; one that is not counts as 0, which no accepted list has. So a depth above the node's number is enough.
module _ (node : ℕ → Node) where
  unfoldable pub tree_at : ℕ → ℕ → Tree
  tree_at zero n = constant (pos 0)
  tree_at (suc d) n = tree_by (λ a. cond (ltb a n) (tree_at d a) (constant (pos 0))) (node n)

  abbrev pub tree_of : ℕ → Tree
  tree_of n = tree_at (suc n) n

-- what a proof that computes with these opens
unfoldable pub GuardLists : Type 0
unfolding lowest tree_at Lists Sorts
GuardLists = Unit
