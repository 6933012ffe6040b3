-- The operators of two numbers, and their codes in a node's record. Assumes nothing: these are definitions.
use Rattle.std.specs.Prelude.{[], ◌∷◌, ℕ}
use Rattle.prelude.specs.Lists.{case_of}

pub data Arithmetic : Type 0 where
  sum difference product quotient remainder : Arithmetic

pub data Comparison : Type 0 where
  equal less at_most : Comparison

abbrev pub arithmetic_code : Arithmetic → ℕ
arithmetic_code sum = 3
arithmetic_code difference = 4
arithmetic_code product = 5
arithmetic_code quotient = 6
arithmetic_code remainder = 7

abbrev pub comparison_code : Comparison → ℕ
comparison_code equal = 16
comparison_code less = 17
comparison_code at_most = 18

-- operators of the codes 3 to 7, and relations of 16 to 18
abbrev pub arithmetic_of : ℕ → Arithmetic
arithmetic_of code = case_of code ((3, sum) ∷ (4, difference) ∷ (5, product) ∷ (6, quotient) ∷ []) remainder

abbrev pub comparison_of : ℕ → Comparison
comparison_of code = case_of code ((16, equal) ∷ (17, less) ∷ []) at_most
