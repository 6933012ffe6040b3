-- A path as bytes. Assumes nothing: these are definitions.
use Rattle.std.specs.Prelude.{List, [], ◌∷◌, ◌++◌, ℕ, zero, suc, ◌*◌}
use Rattle.records.specs.Bytes.{two}

-- the first n numbers, "16-bit", two bytes each
unfoldable pub numbers : ℕ → List ℕ → List ℕ
numbers zero bytes = []
numbers (suc n) bytes = numbers n bytes ++ (two bytes (2 * n) ∷ [])
