-- Outcomes as the code holds them, each as one number: a number of 32 bits is itself, false 0, true 1, and the faults come after, in the table's order.
-- Assumes nothing: these are definitions.
use Rattle.std.specs.Prelude.{◌≡◌, Bool, cond, ℕ, ◌+◌, ◌-◌, ◌<◌, ◌^◌, ℤ, pos}
use Rattle.std.specs.Int.Signed.{mag}
use Rattle.records.specs.Refusal.{Refusal, refusal_number, out_of_range, zero_divisor, Out, val, fault}

abbrev pub fault_of : Bool → Refusal
fault_of range = cond range out_of_range zero_divisor

-- 15 is the first of the faults
abbrev pub number_code : Out ℤ → ℤ
number_code (val z) = z
number_code (fault w) = pos (4294967296 + (refusal_number w - 15))

abbrev pub truth_code : Out Bool → ℕ
truth_code (val t) = cond t 1 0
truth_code (fault w) = 2 + (refusal_number w - 15)

-- What a node can come to: a value, of which P holds, or one of two faults.
pub data Reached {A : Type 0} (P : A → Type 0) : Out A → Type 0 where
  value : {a : A} → P a → Reached P (val a)
  range : Reached P (fault out_of_range)
  divisor : Reached P (fault zero_divisor)

-- z is the outcome's code. Numbers have 32 bits, so that one comparison tells a number from a fault.
pub record StandsFor (z : ℤ) (o : Out ℤ) : Type 0 where
  pub code : z ≡ number_code o
  pub reached : Reached (λ a. mag a < 2 ^ 31) o

pub record TruthStandsFor (t : ℕ) (o : Out Bool) : Type 0 where
  pub code : t ≡ truth_code o
  pub reached : Reached (λ a. Unit {0}) o

-- two numbers of 32 bits
pub record BothNarrow (a b : ℤ) : Type 0 where
  pub first : mag a < 2 ^ 31
  pub second : mag b < 2 ^ 31
