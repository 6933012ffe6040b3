-- Uses of nodes, counted up to 2: what "exactly once" and "twice" ask. Assumes nothing: these are definitions.
use Rattle.std.specs.Prelude.{List, [], ◌∷◌, map, ℕ, ◌+◌, min, get_or, set}
use Rattle.prelude.specs.Lists.{gather, upto}
use Rattle.expressions.specs.Nodes.{Node}
use Rattle.expressions.specs.Sorts.{operands}

-- the operands of a node, and of the first `size` nodes, which `operand_uses` counts
abbrev pub operand_numbers : Node → List ℕ
operand_numbers x = map (λ o. o.0) (operands x)

abbrev pub all_operands : (ℕ → Node) → ℕ → List ℕ
all_operands node size = gather (λ n. operand_numbers (node n)) (upto size)

-- one use of node k more, and one of each of several; a node that has no place is not counted
abbrev pub add_use : List ℕ → ℕ → List ℕ
add_use uses k = set uses k (min 2 (get_or uses k 0 + 1))

unfoldable pub add_uses : List ℕ → List ℕ → List ℕ
add_uses uses [] = uses
add_uses uses (k ∷ ks) = add_uses (add_use uses k) ks
