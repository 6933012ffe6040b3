-- Event masks as bytes. Assumes nothing: these are definitions.
use Rattle.std.specs.Prelude.{List, [], ◌∷◌, ◌++◌, ℕ, zero, suc, ◌*◌}
use Rattle.records.specs.Bytes.{four}

-- the first n masks, four bytes each
unfoldable pub masks_in : ℕ → List ℕ → List ℕ
masks_in zero bytes = []
masks_in (suc n) bytes = masks_in n bytes ++ (four bytes (4 * n) ∷ [])
