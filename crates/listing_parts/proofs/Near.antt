-- Texts written one after the other, with how far they reach. Assumes nothing.
use mathlib.Core.Path.{◌≡◌, subst}
use mathlib.Core.List.{List, ◌++◌}
use Prim.Native.Nat.{ℕ, ◌+◌, ◌≤◌}
use native.Mathlib.Omega.{arith}
use Rattle.records.specs.Wrote.{Wrote, Begins}
use Rattle.records.proofs.Wrote.{wrote_then}
use Rattle.listing_parts.specs.Parts.{WroteNear}

pub near-then : {a b i j k : ℕ} {l m r xs ys : List ℕ} → WroteNear a l i xs m j → WroteNear b m j ys r k → WroteNear (a + b) l i (xs ++ ys) r k
near-then v w = record { wrote = wrote_then v.wrote w.wrote; near = omega (arith, v.near, w.near) }

-- the text by another name, and reaching no further than a bound
pub near-as : {a n i j : ℕ} {l m t u : List ℕ} → WroteNear a l i t m j → t ≡ u → a ≤ n → WroteNear n l i u m j
near-as {a} {n} {i} {j} {l} {m} v e h = record { wrote = subst (λ t. Wrote l i t m j) e v.wrote; near = omega (arith, v.near) }

pub near-begins : {n j : ℕ} {l m t : List ℕ} → WroteNear n l 0 t m j → Begins l t m j × (j ≤ n)
near-begins v = ((omega (arith, v.wrote.behind), v.wrote.written), omega (arith, v.near))
