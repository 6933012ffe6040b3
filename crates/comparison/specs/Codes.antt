-- Answers as single numbers, for tests in other languages. Assumes nothing: these are definitions.
use Rattle.std.specs.Prelude.{Bool, true, false, List, ℕ, ◌+◌, ◌^◌, ℤ, pos, replicate}
use Rattle.std.proofs.Math.Option.{Option, some, none}
use Rattle.records.specs.Refusal.{Refusal, refusal_number, Out, val, fault}

-- a fault's number, above the numbers of 32 bits
abbrev pub reason_code : Refusal → ℤ
reason_code w = pos (2 ^ 32 + refusal_number w)

abbrev pub number_code : Out ℤ → ℤ
number_code (val z) = z
number_code (fault w) = reason_code w

abbrev pub truth_code : Out Bool → ℤ
truth_code (val true) = pos 1
truth_code (val false) = pos 0
truth_code (fault w) = reason_code w

abbrev pub refusal_code : Option Refusal → ℕ
refusal_code none = 0
refusal_code (some w) = refusal_number w

-- nine numbers where nothing is refused, else zeros
abbrev pub blank_if_refused : Option Refusal → List ℕ → List ℕ
blank_if_refused none ns = ns
blank_if_refused (some w) ns = replicate 9 0
