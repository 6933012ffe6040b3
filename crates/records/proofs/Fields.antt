-- Writes past the end, and two's complement. Assumes nothing.
use mathlib.Core.Path.{◌≡◌, refl, sym, ap, ◌∙◌}
use mathlib.Core.Bool.{Bool, true, false, cond}
use mathlib.Core.List.{List, [], ◌∷◌}
use Prim.Native.Nat.{ℕ, suc, ◌-◌, ◌*◌, ◌^◌, ◌≤◌}
use native.Mathlib.Omega.{arith}
use lib.Dec.{ltb}
use lib.ListN.{length, set, length-set}
use lib.Seq.{sets, set_out}
use lib.IntN.{ℤ, pos, negsuc}
use mir.Syntax.{Width}
use mir.Val.{to_z, of_z, hbits, bits, sel}
use Rattle.records.specs.Bytes.{signed, unsigned}

pub sets-past : (vs l : List ℕ) (i : ℕ) → length l ≤ i → sets l i vs ≡ l
sets-past [] l i h = refl
sets-past (v ∷ vs) l i h = sets-past vs (set l i v) (suc i) (omega (arith, length-set l i v)) ∙ set_out l i v h

-- what `cast_signed` reads off the bits of a signed number
pub signed_bits : (w : Width) (n : ℕ) → 2 * 2 ^ hbits w ≡ 2 ^ bits w → to_z w n ≡ signed (2 ^ hbits w) n
signed_bits w n e = ap (λ m. sel (ltb n (2 ^ hbits w)) (pos n) (negsuc (m - suc n))) (sym e) ∙ by (ltb n (2 ^ hbits w)) (pos n) (negsuc (2 * 2 ^ hbits w - suc n))
  where
    by : (b : Bool) (x y : ℤ) → sel b x y ≡ cond b x y
    by true x y = refl
    by false x y = refl

-- what `cast_unsigned` gives: the bits of a signed number are the number that stands for it
pub unsigned_bits : (w : Width) (z : ℤ) → 2 * 2 ^ hbits w ≡ 2 ^ bits w → of_z w z ≡ unsigned (2 ^ hbits w) z
unsigned_bits w (pos n) e = refl
unsigned_bits w (negsuc n) e = ap (λ m. m - suc n) (sym e)
