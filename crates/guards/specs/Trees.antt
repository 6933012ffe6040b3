-- The tree of a guard: how tightly its operators bind, its sorts, and its nodes in the reader's numbering. Assumes nothing: these are definitions.
use Rattle.std.specs.Prelude.{Bool, true, false, not, cond, ◌&&◌, List, [], ◌∷◌, ◌++◌, ℕ, ◌+◌, ◌-◌, ◌^◌, ltb, leb, ℤ}
use Rattle.std.specs.Int.Signed.{mag}
use Rattle.prelude.specs.Lists.{gather}
use Rattle.arithmetic.specs.Operators.{Arithmetic, sum, difference, product, quotient, remainder, Comparison}
use Rattle.expressions.specs.Nodes as N
use Rattle.expressions.specs.Nodes.{Node, write_node}

-- an operator that stands between its two operands
pub data Binary : Type 0 where
  arithmetic : Arithmetic → Binary
  comparison : Comparison → Binary
  both either : Binary

pub data Tree : Type 0 where
  constant : ℤ → Tree
  variable : ℕ → Tree
  negation : Tree → Tree
  binary : Binary → Tree → Tree → Tree
  choice : Tree → Tree → Tree → Tree

-- ---- "Binding, tightest first: `!`; `*` `/` `%`; `+` `-`; `<` `<=` `==`; `&&`; `||`; `? :`": levels 1 to 7, and 0 for what has no operator

abbrev pub arithmetic_level : Arithmetic → ℕ
arithmetic_level product = 2
arithmetic_level quotient = 2
arithmetic_level remainder = 2
arithmetic_level sum = 3
arithmetic_level difference = 3

abbrev pub binary_level : Binary → ℕ
binary_level (arithmetic o) = arithmetic_level o
binary_level (comparison o) = 4
binary_level both = 5
binary_level either = 6

abbrev pub level : Tree → ℕ
level (constant z) = 0
level (variable v) = 0
level (negation t) = 1
level (binary o a b) = binary_level o
level (choice t a b) = 7

-- ---- sorts

abbrev pub gives_truth : Binary → Bool
gives_truth (arithmetic o) = false
gives_truth (comparison o) = true
gives_truth both = true
gives_truth either = true

abbrev pub takes_truths : Binary → Bool
takes_truths (arithmetic o) = false
takes_truths (comparison o) = false
takes_truths both = true
takes_truths either = true

-- a tree that is no truth is a number
abbrev pub is_truth : Tree → Bool
is_truth (constant z) = false
is_truth (variable v) = false
is_truth (negation t) = true
is_truth (binary o a b) = gives_truth o
is_truth (choice t a b) = false

-- two operands, both truths or both numbers as the operator takes them
abbrev pub pair_fits : Bool → Bool → Bool → Bool
pair_fits truths x y = cond truths (x && y) (not x && not y)

-- 23: every operand has the sort that its operator takes
unfoldable pub fits : Tree → Bool
fits (constant z) = true
fits (variable v) = true
fits (negation t) = fits t && is_truth t
fits (binary o a b) = fits a && fits b && pair_fits (takes_truths o) (is_truth a) (is_truth b)
fits (choice t a b) = fits t && fits a && fits b && is_truth t && pair_fits false (is_truth a) (is_truth b)

-- ---- "Nodes are numbered operands first, left to right."

unfoldable pub node_count : Tree → ℕ
node_count (constant z) = 1
node_count (variable v) = 1
node_count (negation t) = node_count t + 1
node_count (binary o a b) = node_count a + node_count b + 1
node_count (choice t a b) = node_count t + node_count a + node_count b + 1

abbrev pub binary_node : Binary → ℕ → ℕ → Node
binary_node (arithmetic o) a b = N.arithmetic o a b
binary_node (comparison o) a b = N.comparison o a b
binary_node both a b = N.both a b
binary_node either a b = N.either a b

-- the nodes of a tree, numbered from n on; the last is its root
unfoldable pub nodes_from : ℕ → Tree → List Node
unfolding node_count
nodes_from n (constant z) = N.constant z ∷ []
nodes_from n (variable v) = N.variable v ∷ []
nodes_from n (negation t) = nodes_from n t ++ (N.negation (n + node_count t - 1) ∷ [])
nodes_from n (binary o a b) =
    let m = n + node_count a in
    nodes_from n a ++ nodes_from m b ++ (binary_node o (m - 1) (m + node_count b - 1) ∷ [])
nodes_from n (choice t a b) =
    let m = n + node_count t in
    let k = m + node_count a in
    nodes_from n t ++ nodes_from m a ++ nodes_from k b ++ (N.choice (m - 1) (k - 1) (k + node_count b - 1) ∷ [])

-- "records of kind 5", whole
abbrev pub node_record : Node → List ℕ
node_record x = 5 ∷ write_node x

abbrev pub records_of : List Node → List ℕ
records_of xs = gather node_record xs

-- a tree that a line can hold: constants of 32 bits, variables v0 to v63
unfoldable pub is_writable : Tree → Bool
is_writable (constant z) = ltb (mag z) (2 ^ 31)
is_writable (variable v) = leb v 63
is_writable (negation t) = is_writable t
is_writable (binary o a b) = is_writable a && is_writable b
is_writable (choice t a b) = is_writable t && is_writable a && is_writable b
