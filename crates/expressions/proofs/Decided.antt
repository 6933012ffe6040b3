-- And, or: what the first operand's outcome leaves to the second. Assumes nothing.
use mathlib.Core.Path.{◌≡◌, sym, ap, ◌∙◌}
use mathlib.Core.Bool.{Bool, true, false, cond, not}
use Prim.Native.Nat.{ℕ}
use native.Mathlib.Omega.{arith}
use lib.Dec.{eqb}
use Rattle.records.specs.Refusal.{Out, val}
use Rattle.arithmetic.specs.Outcomes.{truth_code, Reached, value, range, divisor, TruthStandsFor}
use Rattle.arithmetic.proofs.Outcomes.{truth-in, of-truth, of-fault}
use Rattle.expressions.specs.OperandValues.{decide}

module _ {t : ℕ} {o : Out Bool} (s : TruthStandsFor t o) where
  -- the truth that does not decide leaves it to the second operand, and any other outcome stays
  pub undecided : (d : Bool) (y : Out Bool) → t ≡ cond (not d) 1 0 → y ≡ decide d o y
  undecided true y e = ap (λ u. decide true u y) (sym (ap (λ x. val (eqb x 1)) e) ∙ truth-in s (omega arith))
  undecided false y e = ap (λ u. decide false u y) (sym (ap (λ x. val (eqb x 1)) e) ∙ truth-in s (omega arith))

  pub stays : (d : Bool) (y : Out Bool) → (t ≡ cond (not d) 1 0 → ⊥) → TruthStandsFor t (decide d o y)
  stays d y n = go d n s.code s.reached
    where
      go : (d : Bool) {p : Out Bool} → (t ≡ cond (not d) 1 0 → ⊥) → t ≡ truth_code p → Reached (λ a. Unit {0}) p → TruthStandsFor t (decide d p y)
      go true n e (value {a = true} _) = of-truth true e
      go true n e (value {a = false} _) = absurd (n e)
      go false n e (value {a = true} _) = absurd (n e)
      go false n e (value {a = false} _) = of-truth false e
      go true n e range = of-fault true e
      go false n e range = of-fault true e
      go true n e divisor = of-fault false e
      go false n e divisor = of-fault false e
