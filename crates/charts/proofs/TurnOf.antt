-- Turns of chart sets: what the laws of turns ask of a machine. Assumes nothing.
use mathlib.Core.Path.{◌≡◌}
use mathlib.Core.Bool.{true}
use mathlib.Core.List.{List}
use Prim.Native.Nat.{ℕ, ◌+◌, ◌-◌, ◌≤◌, ◌<◌}
use native.Mathlib.Omega.{arith}
use borrow.Author.Tests.{leb-true}
use lib.Dec.{leb}
use lib.ListN.{get_or}
use Rattle.records.specs.Refusal.{val}
use Rattle.model.specs.Runs.{Run, Answer, parts, timers_possible, checked, give, stepped}
use Rattle.model.specs.ChartSet.{read_charts}
use Rattle.model.specs.Charts.{charts}
use Rattle.chart_records.specs.declared.Shape.{Shape}
use Rattle.chart_records.specs.Shape.{IsShape}
use Rattle.chart_records.proofs.PlacesRead.{length-initial}
use Rattle.machines.proofs.ChecksClauses.{all-upto}
use Rattle.machines.proofs.Turns as T
use Rattle.charts.specs.TurnOf.{Ready}
use Rattle.charts.proofs.TurnOfKept.{step_kept}

abbrev Young : ℕ → ℕ → ℕ → ℕ → Type 0
Young n cycles c age = c < n → age ≤ cycles

module _ (s : List ℕ) (sh : Shape) (is : IsShape s sh) where
  pub ready : (given : ℕ) (r : Run) → checked (charts (read_charts s)) given r ≡ val tt → Ready sh.charts (give given r)
  ready given r = T.ready (charts (read_charts s)) sh.charts (length-initial s sh is) (Young sh.charts) given r young-of
    where
      young-of : timers_possible (charts (read_charts s)) r ≡ true → (c : ℕ) → c < sh.charts → get_or r.timers c 0 ≤ r.world.cycles
      young-of e c h =
          leb-true (get_or r.timers c 0) r.world.cycles
          (all-upto (λ j. leb (get_or r.timers j 0) r.world.cycles) (parts (charts (read_charts s))) c e (omega (arith, length-initial s sh is)))

  -- a chart's turn leaves the run ready, at the next position
  pub ready-next : (r : Run) (y : Answer × Run) → Ready sh.charts r → r.world.position ≤ sh.charts → stepped (charts (read_charts s)) r ≡ val y →
      Ready sh.charts y.1 × (y.1.world.position ≡ r.world.position + 1)
  ready-next r y =
      T.ready-next (charts (read_charts s)) sh.charts (length-initial s sh is) (Young sh.charts) (λ cycles k x y h f l. omega (arith, h, f l)) r y
      (step_kept (read_charts s) (r.world.position - 1) r)
