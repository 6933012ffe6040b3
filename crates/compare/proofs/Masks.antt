-- The masks, one after the other. Assumes nothing.
use mathlib.Core.Path.{◌≡◌, refl, ap}
use mathlib.Core.List.{List, [], ◌∷◌, ◌++◌}
use Prim.Native.Nat.{ℕ, ◌+◌, ◌*◌}
use native.Mathlib.Numerals.{add-one}
use Rattle.records.specs.Bytes.{four}
use Rattle.compare.specs.Masks.{masks_in}

pub masks-none : (bytes : List ℕ) → masks_in 0 bytes ≡ []
unfolding masks_in
masks-none bytes = refl

pub masks-more : (n : ℕ) (bytes : List ℕ) → masks_in (n + 1) bytes ≡ masks_in n bytes ++ (four bytes (4 * n) ∷ [])
unfolding masks_in
masks-more n bytes = ap (λ k. masks_in k bytes) (add-one n)
