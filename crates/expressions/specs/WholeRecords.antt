-- Of the code: records that no end cuts short. Assumes nothing: these are definitions.
use Rattle.std.specs.Prelude.{◌≡◌, List, ℕ, ◌+◌, ◌*◌, ◌≤◌, length}

-- A node's record begins at a place and is whole; then so are the records of the nodes below it.
pub record RecordAt (s : List ℕ) (at : ℕ) : Type 0 where
  pub node : ℕ
  pub begins : at ≡ 16 * node
  pub whole : at + 16 ≤ length s
