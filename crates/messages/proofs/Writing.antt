-- Two texts written one behind the other, and how far behind the start the second may end. Assumes nothing.
use mathlib.Core.List.{List, ◌++◌}
use Prim.Native.Nat.{ℕ, ◌+◌, ◌≤◌}
use native.Mathlib.Omega.{arith}
use Rattle.records.specs.Wrote.{Wrote}
use Rattle.records.proofs.Wrote.{wrote_then}

pub wrote_both : {l m r xs ys : List ℕ} {i j k : ℕ} (p q : ℕ) → Wrote l i xs m j × (j ≤ i + p) → Wrote m j ys r k × (k ≤ j + q) → Wrote l i (xs ++ ys) r k × (k ≤ i + (p + q))
wrote_both p q a b = (wrote_then a.0 b.0, omega (arith, a.1, b.1))
