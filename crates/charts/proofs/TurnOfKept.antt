-- What a chart's turn keeps: the position and the count, and no age grows. Assumes nothing.
use mathlib.Core.Path.{refl}
use mathlib.Core.Option.{Option, some, none}
use mathlib.Core.Bool.{Bool, true, false, cond}
use Prim.Native.Nat.{ℕ}
use native.Mathlib.Nat.{le_refl}
use lib.ListN.{get_or, set}
use Rattle.records.specs.Refusal.{Out, val, fault, ◌>>=◌}
use Rattle.prelude.specs.Owned.{of}
use Rattle.model.specs.Runs.{World, Run, actions, taken, idle}
use Rattle.model.specs.ChartSet.{ChartSet, transition}
use Rattle.model.specs.Charts.{first_that, row, transition_holds, acted, due, waited, follow, chart_step}
use Rattle.machines.specs.Turns.{KeptWorld, KeptRun}
use Rattle.machines.proofs.TurnsKept.{then-kept, actions-kept, set-zero}

module _ (cs : ChartSet) where
  acted-kept : (t : ℕ) (w : World) → KeptWorld w (acted cs t w)
  acted-kept t w =
      then-kept w
      (actions cs.nodes cs.variables (of (transition cs t).source cs.exits) w)
      (λ w₁. actions cs.nodes cs.variables (of t cs.transition_actions) w₁ >>= λ w₂. actions cs.nodes cs.variables (of (transition cs t).target cs.entries) w₂)
      (actions-kept cs.nodes cs.variables (of (transition cs t).source cs.exits) w)
      (λ w₁. then-kept w₁ (actions cs.nodes cs.variables (of t cs.transition_actions) w₁) (actions cs.nodes cs.variables (of (transition cs t).target cs.entries))
      (actions-kept cs.nodes cs.variables (of t cs.transition_actions) w₁)
      (actions-kept cs.nodes cs.variables (of (transition cs t).target cs.entries)))

  waited-kept : (state age : ℕ) (w : World) → KeptWorld w (waited cs state age w)
  waited-kept state age w = go (due cs state age)
    where
      go : (b : Bool) → KeptWorld w (cond b (actions cs.nodes cs.variables (of state cs.waiting_actions) w) (val w))
      go true = actions-kept cs.nodes cs.variables (of state cs.waiting_actions) w
      go false = (refl, refl)

  pub step_kept : (c : ℕ) (r : Run) → KeptRun r (chart_step cs c r)
  step_kept c r = go (first_that (transition_holds cs r.world (get_or r.timers c 0)) (row cs (get_or r.at c 0)))
    where
      go : (o : Out (Option ℕ)) → KeptRun r (o >>= follow cs c r)
      go (fault f) = tt
      go (val none) = by (waited cs (get_or r.at c 0) (get_or r.timers c 0) r.world) (waited-kept (get_or r.at c 0) (get_or r.timers c 0) r.world)
        where
          by : (o : Out World) → KeptWorld r.world o → KeptRun r (o >>= λ w. val (idle, record { at = r.at; timers = r.timers; world = w }))
          by (fault f) k = tt
          by (val w) k = (k.0, k.1, λ k. le_refl (get_or r.timers k 0))
      go (val (some t)) = by (acted cs t r.world) (acted-kept t r.world)
        where
          by : (o : Out World) → KeptWorld r.world o → KeptRun r (o >>= λ w. val (taken t, record { at = set r.at c (transition cs t).target; timers = set r.timers c 0; world = w }))
          by (fault f) k = tt
          by (val w) k = (k.0, k.1, set-zero r.timers c)
