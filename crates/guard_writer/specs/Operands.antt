-- Operands of a node as the writer meets them, and how near a text must end. Assumes nothing: these are definitions.
use Rattle.std.specs.Prelude.{cond, List, ℕ, ◌+◌, ◌<◌, ◌^◌, ltb, pos, length}
use Rattle.expressions.specs.Nodes.{Node}
use Rattle.guards.specs.Trees.{Tree, constant}
use Rattle.guards.specs.Lists.{tree_of}

-- the tree of operand a of node n; one that is not lower counts as 0
abbrev pub operand_tree : (ℕ → Node) → ℕ → ℕ → Tree
operand_tree node n a = cond (ltb a n) (tree_of node a) (constant (pos 0))

-- the place behind a text is a number of 64 bits, with room for what is counted on the way
pub record Near (at : ℕ) (text : List ℕ) : Type 0 where
  pub near : at + length text < 2 ^ 61
