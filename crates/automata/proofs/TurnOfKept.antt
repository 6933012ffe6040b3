-- What an automaton's turn keeps: the position and the count, and no clock grows. Assumes nothing.
use mathlib.Core.List.{List, [], ◌∷◌}
use Prim.Native.Nat.{ℕ, ◌≤◌}
use native.Mathlib.Nat.{le_refl}
use native.Mathlib.Omega.{arith}
use lib.ListN.{get_or, set}
use Rattle.records.specs.Refusal.{Out, val, fault, ◌>>=◌}
use Rattle.prelude.specs.Owned.{of}
use Rattle.model.specs.Runs.{World, Run, Answer, actions, taken}
use Rattle.model.specs.AutomataTable.{Automata, edge}
use Rattle.model.specs.Automata.{the_one, reset, open_edges, edge_step}
use Rattle.machines.specs.Turns.{KeptWorld, KeptRun}
use Rattle.machines.proofs.TurnsKept.{actions-kept, set-zero}

reset-kept : (ks clocks : List ℕ) (c : ℕ) → get_or (reset ks clocks) c 0 ≤ get_or clocks c 0
unfolding reset
reset-kept [] clocks c = le_refl (get_or clocks c 0)
reset-kept (k ∷ ks) clocks c = omega (arith, reset-kept ks (set clocks k 0) c, set-zero clocks k c)

module _ (au : Automata) where
  pub step_kept : (a : ℕ) (r : Run) → KeptRun r (edge_step au a r)
  step_kept a r = go (open_edges au a r)
    where
      then-taken : ℕ → World → Out (Answer × Run)
      then-taken e w = val (taken e, record { at = set r.at a (edge au e).target; timers = reset (of e au.resets) r.timers; world = w })

      then-done : ℕ → Out (Answer × Run)
      then-done e = actions au.nodes au.variables (of e au.updates) r.world >>= then-taken e

      done : (e : ℕ) (o : Out World) → KeptWorld r.world o → KeptRun r (o >>= then-taken e)
      done e (fault f) k = tt
      done e (val w) k = (k.0, k.1, reset-kept (of e au.resets) r.timers)

      one : (o : Out ℕ) → KeptRun r (o >>= then-done)
      one (fault f) = tt
      one (val e) = done e (actions au.nodes au.variables (of e au.updates) r.world) (actions-kept au.nodes au.variables (of e au.updates) r.world)

      go : (o : Out (List ℕ)) → KeptRun r (o >>= λ es. the_one es >>= then-done)
      go (fault f) = tt
      go (val es) = one (the_one es)
