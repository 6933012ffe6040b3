-- The numbers of a path, one after the other. Assumes nothing.
use mathlib.Core.Path.{◌≡◌, refl, ap}
use mathlib.Core.List.{List, [], ◌∷◌, ◌++◌}
use Prim.Native.Nat.{ℕ, ◌+◌, ◌*◌}
use native.Mathlib.Numerals.{add-one}
use Rattle.records.specs.Bytes.{two}
use Rattle.lead_back.specs.Path.{numbers}

pub numbers-none : (bytes : List ℕ) → numbers 0 bytes ≡ []
unfolding numbers
numbers-none bytes = refl

pub numbers_more : (n : ℕ) (bytes : List ℕ) → numbers (n + 1) bytes ≡ numbers n bytes ++ (two bytes (2 * n) ∷ [])
unfolding numbers
numbers_more n bytes = ap (λ k. numbers k bytes) (add-one n)
