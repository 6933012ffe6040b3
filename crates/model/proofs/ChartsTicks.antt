-- Rounding: the ticks of a time are the nearest to it, of two as near the even ones, and no others are. Assumes nothing.
use mathlib.Core.Path.{◌≡◌, refl}
use mathlib.Core.Bool.{Bool, true, false, cond}
use Prim.Native.Nat.{ℕ, ◌+◌, ◌*◌, ◌/◌, ◌%◌, ◌≤◌}
use native.Mathlib.Omega.{arith}
use lib.Dec.{eqb, eqb→eq}
use Rattle.model.specs.Charts.{even_from, ticks}
use Rattle.prelude.proofs.Bools.{of-true, eqb-ne}

-- half a tick away at most, and from an exact half to an even one
abbrev pub Nearest : (ms t : ℕ) → Type 0
Nearest ms t = (100 * t ≤ ms + 50) × (ms ≤ 100 * t + 50) × (ms % 100 ≡ 50 → t % 2 ≡ 0)

pub ticks-nearest : (ms : ℕ) → Nearest ms (ticks ms)
ticks-nearest ms = go (eqb (ms % 100) 50) refl
  where
    go : (p : Bool) → eqb (ms % 100) 50 ≡ p → Nearest ms (cond p (even_from (ms / 100)) ((ms + 50) / 100))
    go true q = let e : ms % 100 ≡ 50 = eqb→eq (ms % 100) 50 (of-true q) in (omega (arith, e), omega (arith, e), λ _. omega (arith, e))
    go false q = (omega arith, omega arith, λ e. absurd (eqb-ne q e))

pub nearest-only : (ms t u : ℕ) → Nearest ms t → Nearest ms u → t ≡ u
nearest-only ms t u m n = go (eqb (ms % 100) 50) refl
  where
    go : (p : Bool) → eqb (ms % 100) 50 ≡ p → t ≡ u
    go true q =
        let e : ms % 100 ≡ 50 = eqb→eq (ms % 100) 50 (of-true q) in
        let few : t ≤ u + 1 = omega (arith, m.0, n.1) in
        let many : u ≤ t + 1 = omega (arith, n.0, m.1) in
        omega (arith, few, many, m.2 e, n.2 e)
    go false q = omega (arith, eqb-ne {a = ms % 100} {b = 50} q, m.0, m.1, n.0, n.1)

pub ticks-only : (ms t : ℕ) → Nearest ms t → t ≡ ticks ms
ticks-only ms t n = nearest-only ms t (ticks ms) n (ticks-nearest ms)
