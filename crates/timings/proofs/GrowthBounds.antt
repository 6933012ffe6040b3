-- Tops are within bounds, and the two limits say how a clock grows. Assumes nothing.
use mathlib.Core.Path.{◌≡◌, ap}
use mathlib.Core.Bool.{cond}
use Prim.Native.Nat.{ℕ, ◌+◌, ◌≤◌, min}
use native.Mathlib.Omega.{arith}
use borrow.Author.Tests.{ne_eqb}
use lib.Dec.{eqb}
use Rattle.model.specs.Limits.{most_ticks}
use Rattle.model.specs.AutomataTable.{Timing, after, every}
use Rattle.model.specs.Automata.{top, grown}
use Rattle.timings.specs.Growth.{most_top, turn_for, cap_for, grown_to}

pub top-most : (t : Timing) (d : ℕ) → d ≤ most_ticks → top t d ≤ most_top
top-most after d h = omega arith
top-most every d h = omega arith

pub grown_to-grown : (t : Timing) (d x : ℕ) → d ≤ most_ticks → x ≤ most_top → grown_to (turn_for t d) (cap_for t d) x ≡ grown t d x
grown_to-grown after d x h l = ap (λ b. cond b 1 (min (x + 1) (top after d))) (ne_eqb x 65535 (λ e. absurd (omega arith)))
grown_to-grown every d x h l = ap (λ y. cond (eqb x (top every d)) 1 y) (let z : min (x + 1) 65535 ≡ x + 1 = omega arith in z)
