-- "Values": what an operator of two numbers comes to. Assumes nothing: these are definitions.
use Rattle.std.specs.Prelude.{Bool, cond, ◌&&◌, ◌^◌, ltb, eqb, ℤ, ◌+ℤ◌, ◌-ℤ◌, ◌*ℤ◌, nat_abs}
use Rattle.std.specs.Int.Signed.{lt_z, le_z, quot_z, rem_z, mag}
use Rattle.records.specs.Refusal.{Out, val, fault, out_of_range, zero_divisor, ◌>>◌, fault_if}
use Rattle.arithmetic.specs.Operators.{Arithmetic, sum, difference, product, quotient, remainder, Comparison, equal, less, at_most}

-- "A number outside −2,147,483,648 to 2,147,483,647": `mag z` is z, or −(z + 1) where z is negative.
abbrev pub in_range : ℤ → Out ℤ
in_range z = cond (ltb (mag z) (2 ^ 31)) (val z) (fault out_of_range)

abbrev pub is_zero : ℤ → Bool
is_zero z = eqb (nat_abs z) 0

-- "quotient toward zero", "remainder with the dividend's sign"
abbrev pub quotient_of : ℤ → ℤ → ℤ
quotient_of a b = quot_z a b

abbrev pub remainder_of : ℤ → ℤ → ℤ
remainder_of a b = rem_z a b

-- "A number outside .. and a zero divisor are faults."
abbrev pub compute : Arithmetic → ℤ → ℤ → Out ℤ
compute sum a b = in_range (a +ℤ b)
compute difference a b = in_range (a -ℤ b)
compute product a b = in_range (a *ℤ b)
compute quotient a b = fault_if (is_zero b) zero_divisor >> in_range (quotient_of a b)
compute remainder a b = fault_if (is_zero b) zero_divisor >> in_range (remainder_of a b)

abbrev pub compare : Comparison → ℤ → ℤ → Bool
compare equal a b = le_z a b && le_z b a
compare less a b = lt_z a b
compare at_most a b = le_z a b
