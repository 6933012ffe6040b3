-- Sorts, order and use of nodes, which refusals 6, 8 and 11 ask of. Assumes nothing: these are definitions.
use Rattle.std.specs.Prelude.{Bool, true, false, ◌&&◌, List, [], ◌∷◌, map, ℕ, ltb, eqb}
use Rattle.prelude.specs.Lists.{all, count, gather, upto, Lists}
use Rattle.expressions.specs.Nodes.{Node, constant, variable, arithmetic, choice, comparison, negation, both, either, unknown}

pub data Sort : Type 0 where
  a_number a_truth neither : Sort

abbrev pub sort_of : Node → Sort
sort_of (constant z) = a_number
sort_of (variable v) = a_number
sort_of (arithmetic o a b) = a_number
sort_of (choice t a b) = a_number
sort_of (comparison o a b) = a_truth
sort_of (negation a) = a_truth
sort_of (both a b) = a_truth
sort_of (either a b) = a_truth
sort_of unknown = neither

abbrev pub is_number : Sort → Bool
is_number a_number = true
is_number a_truth = false
is_number neither = false

abbrev pub is_truth : Sort → Bool
is_truth a_number = false
is_truth a_truth = true
is_truth neither = false

abbrev pub same_sort : Sort → Sort → Bool
same_sort a_number s = is_number s
same_sort a_truth s = is_truth s
same_sort neither s = false

-- the operands of a node, left to right, each with the sort that it must have
abbrev pub operands : Node → List (ℕ × Sort)
operands (constant z) = []
operands (variable v) = []
operands (arithmetic o a b) = (a, a_number) ∷ (b, a_number) ∷ []
operands (choice t a b) = (t, a_truth) ∷ (a, a_number) ∷ (b, a_number) ∷ []
operands (comparison o a b) = (a, a_number) ∷ (b, a_number) ∷ []
operands (negation a) = (a, a_truth) ∷ []
operands (both a b) = (a, a_truth) ∷ (b, a_truth) ∷ []
operands (either a b) = (a, a_truth) ∷ (b, a_truth) ∷ []
operands unknown = []

-- "2 variable (2-3 its number)"
abbrev pub variables_of : Node → List ℕ
variables_of (constant z) = []
variables_of (variable v) = v ∷ []
variables_of (arithmetic o a b) = []
variables_of (choice t a b) = []
variables_of (comparison o a b) = []
variables_of (negation a) = []
variables_of (both a b) = []
variables_of (either a b) = []
variables_of unknown = []

-- One node's part in the tests below: the names in it, an operand of node n, and its operands.
module _ (node : ℕ → Node) where
  abbrev pub node_named : ℕ → ℕ → ℕ → Bool
  node_named size variables n = all (λ o. ltb o.0 size) (operands (node n)) && all (λ v. ltb v variables) (variables_of (node n))

  abbrev pub operand_fits : ℕ → ℕ × Sort → Bool
  operand_fits n o = ltb o.0 n && same_sort o.1 (sort_of (node o.0))

  abbrev pub node_fits : ℕ → Bool
  node_fits n = all (operand_fits n) (operands (node n))

-- Of `size` nodes.
module _ (node : ℕ → Node) (size : ℕ) where
  -- 6: every operand is a node, and every variable one of so many
  abbrev pub nodes_named : ℕ → Bool
  nodes_named variables = all (node_named node size variables) (upto size)

  -- 8, 11: every operand is lower than its node, and of the right sort
  abbrev pub operands_fit : Bool
  operands_fit = all (node_fits node) (upto size)

  -- 8, 11: how often node k is an operand, over all operand places
  abbrev pub operand_uses : ℕ → ℕ
  operand_uses k = count (λ n. eqb n k) (gather (λ n. map (λ o. o.0) (operands (node n))) (upto size))

unfoldable pub Sorts : Type 0
unfolding Lists
Sorts = Unit
