-- The line that is written of a tree: no spaces, and parentheses only where the place takes no operator as loose as the tree's. Assumes nothing: these are
-- definitions.
use Rattle.std.specs.Prelude.{cond, List, [], ◌∷◌, ◌++◌, ℕ, ◌-◌, leb}
use Prim.Native.Char.{code}
use Rattle.arithmetic.specs.Operators.{Arithmetic, sum, difference, product, quotient, remainder, Comparison, equal, less, at_most}
use Rattle.model.specs.Replay.{decimal, signed_decimal}
use Rattle.lines.specs.Ascii.{ascii}
use Rattle.guards.specs.Trees.{Binary, arithmetic, comparison, both, either, Tree, constant, variable, negation, binary, choice, binary_level, level}

abbrev pub arithmetic_sign : Arithmetic → List ℕ
arithmetic_sign sum = ascii "+"
arithmetic_sign difference = ascii "-"
arithmetic_sign product = ascii "*"
arithmetic_sign quotient = ascii "/"
arithmetic_sign remainder = ascii "%"

abbrev pub comparison_sign : Comparison → List ℕ
comparison_sign equal = ascii "=="
comparison_sign less = ascii "<"
comparison_sign at_most = ascii "<="

abbrev pub sign : Binary → List ℕ
sign (arithmetic o) = arithmetic_sign o
sign (comparison o) = comparison_sign o
sign both = ascii "&&"
sign either = ascii "||"

-- a tree's text in a place that takes levels up to k
abbrev pub placed : ℕ → ℕ → List ℕ → List ℕ
placed k l text = cond (leb l k) text (code "(" ∷ text ++ (code ")" ∷ []))

-- the left operand may have its operator's level, the right one binds tighter; a choice stands bare between `?` and `:` and behind it
unfoldable pub text_of : Tree → List ℕ
text_of (constant z) = signed_decimal z
text_of (variable v) = code "v" ∷ decimal v
text_of (negation t) = code "!" ∷ placed 1 (level t) (text_of t)
text_of (binary o a b) = placed (binary_level o) (level a) (text_of a) ++ sign o ++ placed (binary_level o - 1) (level b) (text_of b)
text_of (choice t a b) = placed 6 (level t) (text_of t) ++ (code "?" ∷ text_of a) ++ (code ":" ∷ text_of b)

abbrev pub text_in : ℕ → Tree → List ℕ
text_in k t = placed k (level t) (text_of t)
