-- Tests of a record's bytes. Assumes nothing.
use mathlib.Core.Path.{◌≡◌, refl, sym, ap, ◌∙◌}
use mathlib.Core.Bool.{Bool, ◌&&◌}
use mathlib.Core.List.{List, [], ◌∷◌}
use Prim.Native.Nat.{ℕ, zero, suc}
use lib.Dec.{eqb}
use lib.ListN.{take, drop}
use lib.Seq.{take-nil, drop-nil}
use Rattle.prelude.specs.Lists.{all}
use Rattle.records.specs.Bytes.{byte}
use Rattle.prelude.proofs.Loops.{and_one, and-two}
use Rattle.model.specs.ChartFile.{zero_bytes, unused_are_zero}

-- ---- bytes from k up to e are zero

abbrev pub zeros_from : ℕ → ℕ → List ℕ → Bool
zeros_from m k r = all (λ b. eqb b 0) (take m (drop k r))

pub zeros-next : (r : List ℕ) (k m : ℕ) → zeros_from (suc m) k r ≡ (eqb (byte r k) 0 && zeros_from m (suc k) r)
unfolding all
zeros-next [] k m = ap (λ l. all (λ b. eqb b 0) (take (suc m) l)) (drop-nil k) ∙ sym (ap (all (λ b. eqb b 0)) (take-nil m))
zeros-next (x ∷ r) zero m = refl
zeros-next (x ∷ r) (suc k) m = zeros-next r k m

-- ---- unused ranges

module _ (r : List ℕ) (x : ℕ × ℕ) where
  pub unused-one : (l : List (ℕ × ℕ)) {p : Bool} → p ≡ zero_bytes x.0 x.1 r → [] ≡ l → p ≡ unused_are_zero (x ∷ l) r
  unfolding all
  unused-one l e h = e ∙ and_one (zero_bytes x.0 x.1 r) ∙ ap (λ m. unused_are_zero (x ∷ m) r) h

  pub unused-two : (y : ℕ × ℕ) (l : List (ℕ × ℕ)) {p q : Bool} → p ≡ zero_bytes x.0 x.1 r → q ≡ zero_bytes y.0 y.1 r → y ∷ [] ≡ l → (p && q) ≡ unused_are_zero (x ∷ l) r
  unfolding all
  unused-two y l e f h = (λ i. e i && f i) ∙ and-two (zero_bytes x.0 x.1 r) (zero_bytes y.0 y.1 r) ∙ ap (λ m. unused_are_zero (x ∷ m) r) h
