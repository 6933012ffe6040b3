-- How many bytes stand at the start of a buffer. Assumes nothing: these are definitions.
use Rattle.std.specs.Prelude.{List, ℕ, ◌≡◌, ◌≤◌, length, take}

-- `&xs[..n]` is in bounds and has n bytes; the second follows from the first
abbrev pub IsPrefixLen : ℕ → List ℕ → Type 0
IsPrefixLen n xs = (n ≤ length xs) × (n ≡ length (take n xs))
