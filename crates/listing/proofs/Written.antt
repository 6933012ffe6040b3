-- Texts that reach as far as they are long. Assumes nothing.
use mathlib.Core.List.{List}
use Prim.Native.Nat.{ℕ, ◌≤◌}
use lib.ListN.{length}
use Rattle.records.specs.Wrote.{Wrote}
use Rattle.records.proofs.Wrote.{wrote-near}
use Rattle.listing_parts.specs.Parts.{WroteNear}

pub near_of : {l m t : List ℕ} {i j : ℕ} (n : ℕ) → Wrote l i t m j → length t ≤ n → WroteNear n l i t m j
near_of n w h = record { wrote = w; near = wrote-near n w h }
