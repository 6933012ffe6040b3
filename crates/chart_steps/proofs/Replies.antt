-- Whether a transition holds, by what stands in the file. Assumes nothing.
use mathlib.Core.Path.{◌≡◌, sym, ap, ◌∙◌}
use mathlib.Core.Bool.{true, false}
use mathlib.Core.List.{List}
use Prim.Native.Nat.{ℕ, ◌+◌, ◌*◌, ◌<◌}
use lib.IntN.{ℤ}
use Rattle.records.specs.Bytes.{two}
use Rattle.records.specs.Refusal.{val, choose}
use Rattle.model.specs.Runs.{guard_holds}
use Rattle.model.specs.ChartSet.{Trigger, read_guard, read_charts}
use Rattle.model.specs.Charts.{triggered, transition_holds}
use Rattle.chart_records.specs.declared.Shape.{Shape}
use Rattle.chart_records.specs.Shape.{IsShape}
use Rattle.chart_records.specs.Places.{first_transition, transition_at}
use Rattle.chart_records.proofs.PlacesRead.{transition-is}
use Rattle.machines.specs.Worlds.{bare_world}

-- the trigger of transition t was found
module _ (s : List ℕ) (sh : Shape) (is : IsShape s sh) (t : ℕ) (in-file : t < sh.transitions) (vars : List ℤ) (events age : ℕ) (trigger : Trigger)
    (found : trigger ≡ (transition_at s sh t).trigger) where
  abbrev guard : ℕ
  guard = two s (16 * (first_transition sh + t) + 12)

  holds_by : transition_holds (read_charts s) (bare_world vars events) age t
      ≡ choose (val (triggered trigger age events)) (guard_holds (read_charts s).nodes vars (read_guard guard)) (val false)
  holds_by =
      (λ i. choose (val (triggered (transition-is s sh is t in-file i).trigger age events)) (guard_holds (read_charts s).nodes vars (transition-is s sh is t in-file i).guard) (val false))
      ∙ sym (λ i. choose (val (triggered (found i) age events)) (guard_holds (read_charts s).nodes vars (read_guard guard)) (val false))

  pub holds_not : triggered trigger age events ≡ false → val false ≡ transition_holds (read_charts s) (bare_world vars events) age t
  holds_not e = sym (holds_by ∙ ap (λ b. choose (val b) (guard_holds (read_charts s).nodes vars (read_guard guard)) (val false)) e)

  pub holds-guard : triggered trigger age events ≡ true → (g : ℕ) → g ≡ guard →
      guard_holds (read_charts s).nodes vars (read_guard g) ≡ transition_holds (read_charts s) (bare_world vars events) age t
  holds-guard e g f =
      ap (λ k. guard_holds (read_charts s).nodes vars (read_guard k)) f
      ∙ sym (holds_by ∙ ap (λ b. choose (val b) (guard_holds (read_charts s).nodes vars (read_guard guard)) (val false)) e)
