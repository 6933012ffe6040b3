use mathlib.Core.Path.{◌≡◌, sym, ap, ◌∙◌}
use Prim.Native.Nat.{ℕ, min}
use native.Mathlib.Omega.{arith}
use Rattle.model.specs.AutomataTable.{after}
use Rattle.model.specs.Automata.{top}
use Rattle.model.specs.Correspondence.{clock_for}
use Rattle.timings.specs.Growth.{timing_if}
use Rattle.alike.proofs.runs.clock_for.Goals as goal

least : (d age top' x : ℕ) → top' ≡ top after d → x ≡ min age top' → x ≡ clock_for after d age
least d age top' x t m = omega arith

pub returns-then-after : goal.returns-then-after
returns-then-after c =
    let a = c.args in
    least a.ticks a.age c.top.result c.min.result (c.top.ensures after) c.min.ensures ∙ ap (λ b. clock_for (timing_if b) a.ticks a.age) (sym c.if-after.true)
