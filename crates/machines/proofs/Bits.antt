-- What 16 bits hold of a signed number. Assumes nothing.
use mathlib.Core.Path.{◌≡◌, refl, sym, ap, ◌∙◌}
use mathlib.Core.Bool.{Bool, true, false}
use borrow.Author.Tests.{eqb-true, eqb-false, ne_eqb}
use lib.Dec.{eqb, eqb-suc-zero}
use lib.IntN.{ℤ, pos, negsuc}
use mir.Facts.{to_z-of_z}
use mir.Syntax.{w16}
use mir.Val.{SFits, to_z, of_z}
use Rattle.arithmetic.specs.Arithmetic.{is_zero}

zero_bits : {z : ℤ} → SFits w16 z → of_z w16 z ≡ 0 → is_zero z ≡ true
zero_bits s e = ap is_zero (sym (to_z-of_z s) ∙ ap (to_z w16) e)

other-bits : (z : ℤ) → (of_z w16 z ≡ 0 → ⊥) → is_zero z ≡ false
other-bits (pos n) h = ne_eqb n 0 h
other-bits (negsuc n) h = eqb-suc-zero n

-- the bits are 0 of 0 alone
pub bits-zero : {z : ℤ} → SFits w16 z → eqb (of_z w16 z) 0 ≡ is_zero z
bits-zero {z} s = go (eqb (of_z w16 z) 0) refl where
  go : (b : Bool) → eqb (of_z w16 z) 0 ≡ b → b ≡ is_zero z
  go true e = sym (zero_bits {z = z} s (eqb-true (of_z w16 z) 0 e))
  go false e = sym (other-bits z (eqb-false (of_z w16 z) 0 e))
