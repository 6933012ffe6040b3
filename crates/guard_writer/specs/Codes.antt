-- Operators by the codes of their records: how tightly each binds, which sort it gives, and how it is written. Assumes nothing: these are definitions.
use Rattle.std.specs.Prelude.{Bool, false, ◌&&◌, Option, Some, None, List, [], ◌∷◌, ℕ, leb}
use Rattle.prelude.specs.Lists.{case_of}
use Rattle.arithmetic.specs.Operators.{sum, difference, product, quotient, remainder, equal, less, at_most}
use Rattle.expressions.specs.Sorts.{Sort, a_number, a_truth, neither}
use Rattle.guards.specs.Trees.{Binary, arithmetic, comparison, both, either}

-- 0 for what has no operator
abbrev pub code_level : ℕ → ℕ
code_level code = case_of code ((3, 3) ∷ (4, 3) ∷ (5, 2) ∷ (6, 2) ∷ (7, 2) ∷ (8, 7) ∷ (16, 4) ∷ (17, 4) ∷ (18, 4) ∷ (19, 1) ∷ (20, 5) ∷ (21, 6) ∷ []) 0

-- whether it gives a sort
abbrev pub code_sort : ℕ → Sort → Bool
code_sort code a_number = leb 1 code && leb code 8
code_sort code a_truth = leb 16 code && leb code 21
code_sort code neither = false

-- of a code of levels 2 to 6; of any other the last
abbrev pub code_binary : ℕ → Binary
code_binary code =
    case_of code
    ((3, arithmetic sum)
    ∷ (4, arithmetic difference)
    ∷ (5, arithmetic product)
    ∷ (6, arithmetic quotient)
    ∷ (7, arithmetic remainder)
    ∷ (16, comparison equal)
    ∷ (17, comparison less)
    ∷ (18, comparison at_most)
    ∷ (20, both)
    ∷ [])
    either

-- its sign: a byte, and a second one, if it has one
abbrev pub first_byte : ℕ → ℕ
first_byte code = case_of code ((3, 43) ∷ (4, 45) ∷ (5, 42) ∷ (6, 47) ∷ (7, 37) ∷ (16, 61) ∷ (17, 60) ∷ (18, 60) ∷ (20, 38) ∷ []) 124

abbrev pub second_byte : ℕ → Option ℕ
second_byte code = case_of code ((3, None) ∷ (4, None) ∷ (5, None) ∷ (6, None) ∷ (7, None) ∷ (16, Some 61) ∷ (17, None) ∷ (18, Some 61) ∷ (20, Some 38) ∷ []) (Some 124)

abbrev pub sign_bytes : ℕ → Option ℕ → List ℕ
sign_bytes first None = first ∷ []
sign_bytes first (Some second) = first ∷ second ∷ []
