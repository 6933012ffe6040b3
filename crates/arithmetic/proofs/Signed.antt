-- Division of two 32-bit numbers in 64 bits: no quotient or remainder leaves 64 bits, and the result's bits stand for the result; and the range of 32 bits. Assumes nothing.
use mathlib.Core.Path.{◌≡◌, sym, ap, ◌∙◌, subst}
use mathlib.Core.Bool.{true, false}
use Prim.Native.Nat.{ℕ, zero, suc, ◌/◌, ◌≤◌, ◌<◌, ◌^◌}
use native.Mathlib.Nat.{le_trans, div-le_self}
use native.Mathlib.Omega.{arith}
use borrow.Author.Tests.{leb-true, le-ltb, ne_eqb, leb-false}
use lib.Dec.{T, ltb, eqb-suc-zero}
use lib.IntN.{ℤ, pos, negsuc, neg_ℤ, nat_abs}
use lib.Signed.{le_z, mag, quot_z, rem_z, mag_rem, nat_abs-le}
use mir.Facts.{to_z-of_z, sfits_widen}
use mir.Syntax.{w32, w64}
use mir.Val.{SFits, to_z, of_z}
use Rattle.arithmetic.specs.Arithmetic.{is_zero}
use Rattle.arithmetic.specs.Outcomes.{BothNarrow}

-- ---- the range of 32 bits by two comparisons

pub between-range : (z : ℤ) → le_z (negsuc 2147483647) z ≡ true → le_z z (pos 2147483647) ≡ true → mag z < 2 ^ 31
between-range (pos n) a b = let l : n ≤ 2147483647 = leb-true n 2147483647 b in omega arith
between-range (negsuc n) a b = let l : n ≤ 2147483647 = leb-true n 2147483647 a in omega arith

pub below : (z : ℤ) → le_z (negsuc 2147483647) z ≡ false → ltb (mag z) (2 ^ 31) ≡ false
below (pos n) a = absurd (subst T a tt)
below (negsuc n) a = le-ltb n (2 ^ 31) (let l : 2147483647 < n = leb-false n 2147483647 a in omega arith)

pub above-range : (z : ℤ) → le_z z (pos 2147483647) ≡ false → ltb (mag z) (2 ^ 31) ≡ false
above-range (pos n) a = le-ltb n (2 ^ 31) (let l : 2147483647 < n = leb-false n 2147483647 a in omega arith)
above-range (negsuc n) a = absurd (subst T a tt)

-- ---- how large a result can be

mag-neg : (n : ℕ) → mag (neg_ℤ (pos n)) ≤ n
mag-neg zero = omega arith
mag-neg (suc n) = omega arith

mag-quotient : (a b : ℤ) → mag (quot_z a b) ≤ nat_abs a
mag-quotient (pos a) (pos b) = div-le_self a b
mag-quotient (pos a) (negsuc b) = le_trans (mag-neg (a / suc b)) (div-le_self a (suc b))
mag-quotient (negsuc a) (pos b) = le_trans (mag-neg (suc a / b)) (div-le_self (suc a) b)
mag-quotient (negsuc a) (negsuc b) = div-le_self (suc a) (suc b)

-- two numbers of 32 bits come to one of 64
abbrev pub Narrow : (ℤ → ℤ → ℤ) → Type 0
Narrow f = (a b : ℤ) → mag a < 2 ^ 31 → mag b < 2 ^ 31 → mag (f a b) < 2 ^ 63

pub quotient-narrow : Narrow quot_z
quotient-narrow a b p q = let l : mag (quot_z a b) ≤ nat_abs a = mag-quotient a b in let m : nat_abs a ≤ 2 ^ 31 = nat_abs-le a p in omega arith

pub remainder-narrow : Narrow rem_z
remainder-narrow a b p q = let l : mag (rem_z a b) ≤ mag a = mag_rem a b in omega arith

-- ---- the same of bits: what 64 bits hold of a and b

wider : {a : ℤ} → mag a < 2 ^ 31 → SFits w64 a
wider l = sfits_widen {w = w32} tt (record { sfits = l })

pub read : (a : ℤ) → mag a < 2 ^ 31 → to_z w64 (of_z w64 a) ≡ a
read a l = to_z-of_z (wider l)

module _ (f : ℤ → ℤ → ℤ) {a b : ℤ} (p : BothNarrow a b) where
  abbrev worked : ℤ
  worked = f (to_z w64 (of_z w64 a)) (to_z w64 (of_z w64 b))

  same : worked ≡ f a b
  same i = f (read a p.first i) (read b p.second i)

  pub fits-wide : Narrow f → SFits w64 worked
  fits-wide narrow = record { sfits = subst (λ z. mag z < 2 ^ 63) (sym same) (narrow a b p.first p.second) }

  pub wide-result : Narrow f → to_z w64 (of_z w64 worked) ≡ f a b
  wide-result narrow = to_z-of_z (fits-wide narrow) ∙ same

-- ---- a divisor that is 0, and one that is not

pub zero_bits : {z : ℤ} → SFits w64 z → of_z w64 z ≡ 0 → is_zero z ≡ true
zero_bits s e = ap is_zero (sym (to_z-of_z s) ∙ ap (to_z w64) e)

pub other-bits : (z : ℤ) → (of_z w64 z ≡ 0 → ⊥) → is_zero z ≡ false
other-bits (pos n) h = ne_eqb n 0 h
other-bits (negsuc n) h = eqb-suc-zero n
