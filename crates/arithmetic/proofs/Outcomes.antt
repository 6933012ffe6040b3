-- Which number stands for which outcome, and what one comparison tells of it. Assumes nothing.
use mathlib.Core.Path.{◌≡◌, refl, sym, ap, ◌∙◌, subst}
use mathlib.Core.Bool.{Bool, true, false, cond}
use Prim.Native.Nat.{ℕ, ◌-◌, ◌≤◌, ◌<◌, ◌^◌}
use native.Mathlib.Omega.{arith}
use borrow.Author.Tests.{le-ltb}
use lib.Dec.{T, eqb, ltb}
use lib.IntN.{ℤ, pos, negsuc}
use lib.Signed.{lt_z, le_z, mag}
use mir.Facts.{to_z-of_z}
use mir.Syntax.{w64}
use mir.Val.{to_z, of_z}
use Rattle.records.specs.Refusal.{Out, val, fault, out_of_range, zero_divisor, ◌>>=◌, choose}
use Rattle.arithmetic.specs.Outcomes.{fault_of, number_code, truth_code, Reached, value, range, divisor, StandsFor, TruthStandsFor}

-- ---- numbers

pub stands_same : {z : ℤ} {o p : Out ℤ} → StandsFor z o → o ≡ p → StandsFor z p
stands_same {z} s e = subst (StandsFor z) e s

pub stands_at : {y z : ℤ} {o : Out ℤ} → y ≡ z → StandsFor z o → StandsFor y o
stands_at e s = record { code = e ∙ s.code; reached = s.reached }

-- what a call hands back, in 64 bits
pub held : {z : ℤ} {o : Out ℤ} → mag z < 2 ^ 63 → StandsFor z o → StandsFor (to_z w64 (of_z w64 z)) o
held f s = stands_at (to_z-of_z {w = w64} (record { sfits = f })) s

pub handed : {z : ℤ} {o p : Out ℤ} → mag z < 2 ^ 63 → StandsFor z o → o ≡ p → StandsFor (to_z w64 (of_z w64 z)) p
handed f s e = stands_same (held f s) e

pub of_number : (z : ℤ) → mag z < 2 ^ 31 → StandsFor z (val z)
of_number z l = record { code = refl; reached = value l }

pub of_zero : StandsFor (pos 0) (val (pos 0))
of_zero = of_number (pos 0) (omega arith)

pub of_range : StandsFor (pos 4294967296) (fault out_of_range)
of_range = record { code = refl; reached = range }

pub of-divisor : StandsFor (pos 4294967297) (fault zero_divisor)
of-divisor = record { code = refl; reached = divisor }

-- a number of 32 bits is none of the faults'
narrow-low : (z : ℤ) → mag z < 2 ^ 31 → lt_z (pos 2147483647) z ≡ false
narrow-low (pos n) l = le-ltb 2147483647 n (omega arith)
narrow-low (negsuc n) l = refl

low-in : {z : ℤ} {o : Out ℤ} → z ≡ number_code o → Reached (λ a. mag a < 2 ^ 31) o → lt_z (pos 2147483647) z ≡ false → (mag z < 2 ^ 31) × (val z ≡ o)
low-in e (value l) h = (subst (λ x. mag x < 2 ^ 31) (sym e) l, ap val e)
low-in e range h = absurd (subst T (sym (ap (lt_z (pos 2147483647)) e) ∙ h) tt)
low-in e divisor h = absurd (subst T (sym (ap (lt_z (pos 2147483647)) e) ∙ h) tt)

high-in : {z : ℤ} {o : Out ℤ} → z ≡ number_code o → Reached (λ a. mag a < 2 ^ 31) o → lt_z (pos 2147483647) z ≡ true → fault (fault_of (le_z z (pos 4294967296))) ≡ o
high-in e (value {a = a} l) h = absurd (subst T (sym h ∙ ap (lt_z (pos 2147483647)) e ∙ narrow-low a l) tt)
high-in e range h = ap (λ x. fault (fault_of (le_z x (pos 4294967296)))) e
high-in e divisor h = ap (λ x. fault (fault_of (le_z x (pos 4294967296)))) e

-- a number that is none of the faults', and one that is
module _ {z : ℤ} {o : Out ℤ} (s : StandsFor z o) where
  pub number_small : lt_z (pos 2147483647) z ≡ false → mag z < 2 ^ 31
  number_small h = (low-in s.code s.reached h).0

  pub number_in : lt_z (pos 2147483647) z ≡ false → val z ≡ o
  number_in h = (low-in s.code s.reached h).1

  pub fault-in : lt_z (pos 2147483647) z ≡ true → fault (fault_of (le_z z (pos 4294967296))) ≡ o
  fault-in h = high-in s.code s.reached h

  pub fault-stands : lt_z (pos 2147483647) z ≡ true → StandsFor z (fault (fault_of (le_z z (pos 4294967296))))
  fault-stands h = stands_same s (sym (fault-in h))

  -- a fault ends what comes after it, and so does one after a number
  pub first-fault : {B : Type 0} → lt_z (pos 2147483647) z ≡ true → (f : ℤ → Out B) → fault (fault_of (le_z z (pos 4294967296))) ≡ (o >>= f)
  first-fault h f = ap (λ u. u >>= f) (fault-in h)

  pub second-fault : {B : Type 0} {x : ℤ} {p : Out ℤ} → val x ≡ p → lt_z (pos 2147483647) z ≡ true → (f : ℤ → ℤ → Out B) → fault (fault_of (le_z z (pos 4294967296))) ≡ (p >>= λ u. (o >>= λ w. f u w))
  second-fault {x = x} e h f = first-fault h (f x) ∙ ap (λ u. u >>= λ v. (o >>= λ w. f v w)) e

-- two numbers, one by one
pub both-in : {B : Type 0} (f : ℤ → ℤ → Out B) {x y : ℤ} {o p : Out ℤ} → val x ≡ o → val y ≡ p → f x y ≡ (o >>= λ u. (p >>= λ w. f u w))
both-in f e g i = e i >>= λ u. (g i >>= λ w. f u w)

-- ---- truths

pub truth-same : {t : ℕ} {o p : Out Bool} → TruthStandsFor t o → o ≡ p → TruthStandsFor t p
truth-same {t} s e = subst (TruthStandsFor t) e s

pub of-truth : {t : ℕ} (b : Bool) → t ≡ cond b 1 0 → TruthStandsFor t (val b)
of-truth b e = record { code = e; reached = value tt }

pub of-fault : {t : ℕ} (b : Bool) → t ≡ cond b 2 3 → TruthStandsFor t (fault (fault_of b))
of-fault true e = record { code = e; reached = range }
of-fault false e = record { code = e; reached = divisor }

module _ {t : ℕ} {o : Out Bool} (s : TruthStandsFor t o) where
  pub truth-in : t ≤ 1 → val (eqb t 1) ≡ o
  truth-in l = go s.code s.reached
    where
      go : {p : Out Bool} → t ≡ truth_code p → Reached (λ a. Unit {0}) p → val (eqb t 1) ≡ p
      go e (value {a = true} _) = ap (λ x. val (eqb x 1)) e
      go e (value {a = false} _) = ap (λ x. val (eqb x 1)) e
      go e range = absurd (omega arith)
      go e divisor = absurd (omega arith)

  pub truth-fault-in : 1 < t → fault (fault_of (eqb t 2)) ≡ o
  truth-fault-in l = go s.code s.reached
    where
      go : {p : Out Bool} → t ≡ truth_code p → Reached (λ a. Unit {0}) p → fault (fault_of (eqb t 2)) ≡ p
      go e (value {a = true} _) = absurd (omega arith)
      go e (value {a = false} _) = absurd (omega arith)
      go e range = ap (λ x. fault (fault_of (eqb x 2))) e
      go e divisor = ap (λ x. fault (fault_of (eqb x 2))) e

  -- a truth is turned, and a fault passes
  pub turned : TruthStandsFor (cond (ltb t 2) (1 - t) t) (choose o (val false) (val true))
  turned = go s.code s.reached
    where
      go : {p : Out Bool} → t ≡ truth_code p → Reached (λ a. Unit {0}) p → TruthStandsFor (cond (ltb t 2) (1 - t) t) (choose p (val false) (val true))
      go e (value {a = true} _) = of-truth false (ap (λ x. cond (ltb x 2) (1 - x) x) e)
      go e (value {a = false} _) = of-truth true (ap (λ x. cond (ltb x 2) (1 - x) x) e)
      go e range = of-fault true (ap (λ x. cond (ltb x 2) (1 - x) x) e)
      go e divisor = of-fault false (ap (λ x. cond (ltb x 2) (1 - x) x) e)
