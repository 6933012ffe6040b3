-- What holds between a chart set's run and its twin's at all times, and that a chart's turn keeps it. Assumes nothing.
use mathlib.Core.Path.{◌≡◌, refl, sym, ap, ◌∙◌, subst}
use mathlib.Core.Logic.{◌⊎◌, inl, inr}
use mathlib.Core.Option.{Option, some, none}
use mathlib.Core.Bool.{Bool, true, false, cond, ◌||◌}
use mathlib.Core.List.{List, [], ◌∷◌, map}
use Prim.Native.Nat.{ℕ, ◌-◌, ◌≤◌, ◌<◌, zero-le}
use native.Mathlib.Nat.{le_trans}
use native.Mathlib.Omega.{arith}
use lib.Dec.{T, eqb, eqb→eq}
use lib.ListN.{length, get_or, set, length-set}
use lib.Seq.{get_or-set_same, get_or-set_other, set-get_or}
use Rattle.prelude.specs.Lists.{any, mem}
use Rattle.records.specs.Refusal.{Out, val, fault, ◌>>=◌, choose}
use Rattle.model.specs.Limits.{most_charts, most_states, most_transitions, most_variables, most_clocks, most_priorities}
use Rattle.prelude.specs.Owned.{of}
use Rattle.model.specs.Owned.{home}
use Rattle.model.specs.Runs.{World, Run, Answer, taken, idle, time, Action, actions, present, guard_holds, no_variable, in_bounds}
use Rattle.model.specs.ChartSet as C
use Rattle.model.specs.ChartSet.{ChartSet, Trigger, transition, waits}
use Rattle.model.specs.Charts.{ticks, every_holds, triggered, due, row, transition_holds, first_that, follow, chart_step}
use Rattle.model.specs.ChartFile.{priorities_differ}
use Rattle.model.specs.AutomataTable as A
use Rattle.model.specs.AutomataTable.{Clock, edge, clock_at}
use Rattle.model.specs.Automata.{top, reset, literal_trigger_holds, condition_holds, open_edges, the_one, edge_step}
use Rattle.model.specs.Translation.{from_transition, from_idling, state_count, transition_count, edge_number, edge_of, clocks_of, clock_of, waiting_clock, literal_trigger_of, literal, updates_of, clocks_of_state, resets_of, twin}
use Rattle.model.specs.Correspondence.{clock_for, AnswersMatch}
use Rattle.prelude.proofs.Bools.{is_false, of-true, not-of, eqb-ne}
use Rattle.model.proofs.CorrespondenceTime.{timing_holds, clock_for-holds, clock_for-fresh}
use Rattle.model.proofs.ChartsRow.{row-mem}
use Rattle.model.proofs.AutomataOpen.{edge_for, first_that-mem}
use Rattle.model.proofs.TranslationOrigins.{IsOrigin, idle_for, edge-of, of-origin}
use Rattle.model.proofs.TranslationEdges.{is-idle, open_edges-first}
use Rattle.model.proofs.TranslationClocks.{ClockOf, own_at, own_in, own-once, clocks_of_state-mem, mem-clocks_of_state, length-reset, reset-out, reset-le, reset-in}
use Rattle.model.proofs.WorldDeeds.{Valued, Kept, actions-kept, acted-updates, waited-updates}

-- what an accepted set has
pub record Sound (cs : ChartSet) : Type 0 where
  pub charts_fit : length cs.initial ≤ most_charts
  pub states_fit : state_count cs ≤ most_states
  pub transitions_fit : transition_count cs ≤ most_transitions
  pub variables_fit : length cs.variables ≤ most_variables
  pub clocks_fit : length (twin cs).clocks ≤ most_clocks
  pub ticking : (k : ℕ) → k < length (twin cs).clocks → 0 < (clock_at (twin cs) k).ticks
  pub same_chart : (t : ℕ) → t < transition_count cs → home cs.homes (transition cs t).source ≡ home cs.homes (transition cs t).target
  pub targets : (t : ℕ) → t < transition_count cs → (transition cs t).target < state_count cs
  pub ranks : (t : ℕ) → t < transition_count cs → (1 ≤ (transition cs t).priority) × ((transition cs t).priority ≤ most_priorities)
  pub differ : (s : ℕ) → s < state_count cs → T (priorities_differ cs s)
  pub initials : (c : ℕ) → c < length cs.initial → (get_or cs.initial c 0 < state_count cs) × (home cs.homes (get_or cs.initial c 0) ≡ c)
  pub starts : (v : ℕ) → T (in_bounds (get_or cs.variables v no_variable) (get_or cs.variables v no_variable).start)

-- each chart in a state of its own
pub record Placed (cs : ChartSet) (at : List ℕ) : Type 0 where
  pub room : length at ≡ most_charts
  pub home : (c : ℕ) → c < length cs.initial → (get_or at c 0 < state_count cs) × (home cs.homes (get_or at c 0) ≡ c)
  pub rest : (k : ℕ) → length cs.initial ≤ k → get_or at k 0 ≡ 0

-- ages and clocks after so many cycles
pub record Timed (cs : ChartSet) (at ages clocks : List ℕ) (cycles : ℕ) : Type 0 where
  pub same : (c k : ℕ) (x : Clock) → c < length cs.initial → ClockOf cs (get_or at c 0) k x → get_or clocks k 0 ≡ clock_for x.timing x.ticks (get_or ages c 0)
  pub age_room : length ages ≡ most_charts
  pub age_low : (c : ℕ) → c < length cs.initial → get_or ages c 0 ≤ cycles
  pub age_rest : (k : ℕ) → length cs.initial ≤ k → get_or ages k 0 ≡ 0
  pub clock_room : length clocks ≡ most_clocks
  pub clock_low : (k : ℕ) → k < length (twin cs).clocks → get_or clocks k 0 ≤ top (clock_at (twin cs) k).timing (clock_at (twin cs) k).ticks
  pub clock_rest : (k : ℕ) → length (twin cs).clocks ≤ k → get_or clocks k 0 ≡ 0

pub record Alike (cs : ChartSet) (r q : Run) : Type 0 where
  pub worlds : r.world ≡ q.world
  pub ats : r.at ≡ q.at
  pub placed : Placed cs r.at
  pub valued : Valued cs.variables r.world.vars
  pub timed : Timed cs r.at r.timers q.timers r.world.cycles

-- What a chart's turn, taken in r, comes to: its answer, the twin's, and the run after it.
abbrev pub StepTaken : ChartSet → Run → Answer → Answer → Run → Type 0
StepTaken cs r (taken t) (taken e) r₁ =
    let c = r.world.position - 1 in
    (e ≡ t) × (t < transition_count cs) × ((transition cs t).source ≡ get_or r.at c 0) × (r₁.at ≡ set r.at c (transition cs t).target)
StepTaken cs r idle (taken e) r₁ =
    let s = get_or r.at (r.world.position - 1) 0 in
    ((due : Bool) × (e ≡ edge_number cs (idle_for due s)) × IsOrigin cs (idle_for due s)) × (r₁.at ≡ r.at)
StepTaken cs r (taken t) idle r₁ = ⊥
StepTaken cs r (taken t) time r₁ = ⊥
StepTaken cs r idle idle r₁ = ⊥
StepTaken cs r idle time r₁ = ⊥
StepTaken cs r time b r₁ = ⊥

-- the outcomes of one chart's turn, taken in the runs r and q
abbrev pub StepsMatch : ChartSet → Run → Run → Out (Answer × Run) → Out (Answer × Run) → Type 0
StepsMatch cs r q (fault w) (fault v) = w ≡ v
StepsMatch cs r q (val x) (val y) =
    AnswersMatch (twin cs) r q x.0 y.0
    × StepTaken cs r x.0 y.0 x.1
    × (x.1.world.cycles ≡ r.world.cycles)
    × (x.1.world.position ≡ r.world.position)
    × Alike cs x.1 y.1
StepsMatch cs r q (fault w) (val y) = ⊥
StepsMatch cs r q (val x) (fault v) = ⊥

-- ---- a chart's turn

module _ (cs : ChartSet) (ok : Sound cs) (r q : Run) (al : Alike cs r q) (c : ℕ) (c-in : c < length cs.initial) where
  -- a clock of the present state holds where its age says
  clock-holds : (k : ℕ) (x : Clock) → ClockOf cs (get_or r.at c 0) k x → eqb (get_or q.timers k 0) (clock_at (twin cs) k).ticks ≡ timing_holds x.timing x.ticks (get_or r.timers c 0)
  clock-holds k x o =
      let d : clock_at (twin cs) k ≡ x = own_at cs (get_or r.at c 0) k x o in
      rw (al.timed.same c k x c-in o, d)
      (clock_for-holds x.timing x.ticks (get_or r.timers c 0) (subst (λ z. 0 < z.ticks) d (ok.ticking k (own_in cs (get_or r.at c 0) k x o))))

  -- a trigger holds where its literal's trigger holds
  literal-trigger-holds : (t : ℕ) → T (mem t (row cs (get_or r.at c 0))) →
      literal_trigger_holds (twin cs) q (literal_trigger_of cs t (transition cs t).trigger) ≡ triggered (transition cs t).trigger (get_or r.timers c 0) r.world.events
  literal-trigger-holds t m = go (transition cs t).trigger refl
    where
      h : (t < transition_count cs) × ((transition cs t).source ≡ get_or r.at c 0)
      h = row-mem cs (get_or r.at c 0) t m

      timing : (x : Clock) → clocks_of (transition cs t).trigger ≡ x ∷ [] →
          eqb (get_or q.timers (clock_of cs t) 0) (clock_at (twin cs) (clock_of cs t)).ticks ≡ timing_holds x.timing x.ticks (get_or r.timers c 0)
      timing x e =
          clock-holds (clock_of cs t) x (inl (t, h.0, h.1, refl, e))

      go : (g : Trigger) → (transition cs t).trigger ≡ g → literal_trigger_holds (twin cs) q (literal_trigger_of cs t g) ≡ triggered g (get_or r.timers c 0) r.world.events
      go C.always e = refl
      go (C.event n) e = ap (λ w. present n w.events) (sym al.worlds)
      go (C.after ms) e = timing (record { timing = A.after; ticks = ticks ms }) (ap clocks_of e)
      go (C.every ms) e = timing (record { timing = A.every; ticks = ticks ms }) (ap clocks_of e)

  literal-holds : (t : ℕ) → T (mem t (row cs (get_or r.at c 0))) → condition_holds (twin cs) q (literal cs true t) ≡ transition_holds cs r.world (get_or r.timers c 0) t
  literal-holds t m =
      (λ i. cond (literal-trigger-holds t m i) (guard_holds cs.nodes (sym al.worlds i).vars (transition cs t).guard) (val false))
      ∙ cond-choose (triggered (transition cs t).trigger (get_or r.timers c 0) r.world.events) (guard_holds cs.nodes r.world.vars (transition cs t).guard)
    where
      cond-choose : (b : Bool) (o : Out Bool) → cond b o (val false) ≡ choose (val b) o (val false)
      cond-choose true o = refl
      cond-choose false o = refl

  module _ (here : r.world.position - 1 ≡ c) where
    in-states : get_or r.at c 0 < state_count cs
    in-states = (al.placed.home c c-in).0

    c-place : c < length r.at
    c-place = let k : length cs.initial ≤ most_charts = ok.charts_fit in let j : length r.at ≡ most_charts = al.placed.room in omega arith

    c-age : c < length r.timers
    c-age = let k : length cs.initial ≤ most_charts = ok.charts_fit in let j : length r.timers ≡ most_charts = al.timed.age_room in omega arith

    -- ---- a transition taken

    module _ (t : ℕ) (m : T (mem t (row cs (get_or r.at c 0)))) where
      t_from : (t < transition_count cs) × ((transition cs t).source ≡ get_or r.at c 0)
      t_from = row-mem cs (get_or r.at c 0) t m

      -- the target is of the chart too
      target-home : home cs.homes (transition cs t).target ≡ c
      target-home = sym (ok.same_chart t t_from.0) ∙ ap (home cs.homes) t_from.1 ∙ (al.placed.home c c-in).1

      entered-placed : Placed cs (set r.at c (transition cs t).target)
      entered-placed = record {
        room = length-set r.at c (transition cs t).target ∙ al.placed.room;
        home = λ d d-in. go d d-in (eqb d c) refl;
        rest = λ k l. get_or-set_other r.at c k (transition cs t).target 0 (λ e. omega arith) ∙ al.placed.rest k l;
      }
        where
          go : (d : ℕ) → d < length cs.initial → (p : Bool) → eqb d c ≡ p →
              (get_or (set r.at c (transition cs t).target) d 0 < state_count cs) × (home cs.homes (get_or (set r.at c (transition cs t).target) d 0) ≡ d)
          go d d-in true e =
              let dc : d ≡ c = eqb→eq d c (of-true e) in
              let z : get_or (set r.at c (transition cs t).target) d 0 ≡ (transition cs t).target = ap (λ n. get_or (set r.at c (transition cs t).target) n 0) dc ∙ get_or-set_same r.at c (transition cs t).target 0 c-place in
              (subst (λ n. n < state_count cs) (sym z) (ok.targets t t_from.0), ap (home cs.homes) z ∙ target-home ∙ sym dc)
          go d d-in false e =
              let z : get_or (set r.at c (transition cs t).target) d 0 ≡ get_or r.at d 0 = get_or-set_other r.at c d (transition cs t).target 0 (eqb-ne e) in
              (subst (λ n. n < state_count cs) (sym z) (al.placed.home d d-in).0, ap (home cs.homes) z ∙ (al.placed.home d d-in).1)

      entered-timed : Timed cs (set r.at c (transition cs t).target) (set r.timers c 0) (reset (clocks_of_state cs (transition cs t).target) q.timers) r.world.cycles
      entered-timed = record {
        same = λ d k x d-in o. clock-part d k x d-in o (eqb d c) refl;
        age_room = length-set r.timers c 0 ∙ al.timed.age_room;
        age_low = λ d d-in. age-part d d-in (eqb d c) refl;
        age_rest = λ k l. get_or-set_other r.timers c k 0 0 (λ e. omega arith) ∙ al.timed.age_rest k l;
        clock_room = length-reset (clocks_of_state cs g) q.timers ∙ al.timed.clock_room;
        clock_low = λ k l. le_trans (reset-le (clocks_of_state cs g) q.timers k) (al.timed.clock_low k l);
        clock_rest = λ k l.
            let z : get_or q.timers k 0 ≡ 0 = al.timed.clock_rest k l in
            let y : get_or (reset (clocks_of_state cs g) q.timers) k 0 ≤ get_or q.timers k 0 = reset-le (clocks_of_state cs g) q.timers k in
            omega arith;
      }
        where
          g : ℕ
          g = (transition cs t).target

          age-part : (d : ℕ) → d < length cs.initial → (p : Bool) → eqb d c ≡ p → get_or (set r.timers c 0) d 0 ≤ r.world.cycles
          age-part d d-in true e = rw (eqb→eq d c (of-true e), get_or-set_same r.timers c 0 0 c-age) zero-le
          age-part d d-in false e = rw (get_or-set_other r.timers c d 0 0 (eqb-ne e)) (al.timed.age_low d d-in)

          clock-part : (d k : ℕ) (x : Clock) → d < length cs.initial → ClockOf cs (get_or (set r.at c g) d 0) k x → (p : Bool) → eqb d c ≡ p →
              get_or (reset (clocks_of_state cs g) q.timers) k 0 ≡ clock_for x.timing x.ticks (get_or (set r.timers c 0) d 0)
          clock-part d k x d-in o true p =
              let dc : d ≡ c = eqb→eq d c (of-true p) in
              let here : get_or (set r.at c g) d 0 ≡ g = ap (λ n. get_or (set r.at c g) n 0) dc ∙ get_or-set_same r.at c g 0 c-place in
              let o' : ClockOf cs g k x = subst (λ s. ClockOf cs s k x) here o in
              reset-in (clocks_of_state cs g) q.timers k (mem-clocks_of_state cs g k x o') (omega (arith, own_in cs g k x o', ok.clocks_fit, al.timed.clock_room))
              ∙ sym (ap (clock_for x.timing x.ticks) (ap (λ n. get_or (set r.timers c 0) n 0) dc ∙ get_or-set_same r.timers c 0 0 c-age) ∙ clock_for-fresh x.timing x.ticks)
          clock-part d k x d-in o false p =
              let o' : ClockOf cs (get_or r.at d 0) k x = subst (λ s. ClockOf cs s k x) (get_or-set_other r.at c d g 0 (eqb-ne p)) o in
              reset-out (clocks_of_state cs g) q.timers k
              (is_false {b = mem k (clocks_of_state cs g)} (not-of (mem k (clocks_of_state cs g)) (λ n. other o' (clocks_of_state-mem cs g k (ok.targets t t_from.0) n))))
              ∙ al.timed.same d k x d-in o'
              ∙ ap (clock_for x.timing x.ticks) (sym (get_or-set_other r.timers c d 0 0 (eqb-ne p)))
            where
              -- a clock of the target's is no clock of another chart's state
              other : ClockOf cs (get_or r.at d 0) k x → (y : Clock) × ClockOf cs g k y → ⊥
              other o' y = eqb-ne p (sym (al.placed.home d d-in).1 ∙ ap (home cs.homes) (own-once cs (get_or r.at d 0) g k x y.0 o' y.1) ∙ target-home)

      entered : (w : World) → Kept cs.variables r.world w →
          Alike cs (record { at = set r.at c (transition cs t).target; timers = set r.timers c 0; world = w })
          (record { at = set q.at c (transition cs t).target; timers = reset (clocks_of_state cs (transition cs t).target) q.timers; world = w })
      entered w k = record {
        worlds = refl;
        ats = ap (λ l. set l c (transition cs t).target) al.ats;
        placed = entered-placed;
        valued = k.2 al.valued;
        timed = subst (λ n. Timed cs (set r.at c (transition cs t).target) (set r.timers c 0) (reset (clocks_of_state cs (transition cs t).target) q.timers) n) (sym k.0) entered-timed;
      }

    -- ---- none taken

    idled : (w : World) → Kept cs.variables r.world w →
        Alike cs (record { at = r.at; timers = r.timers; world = w }) (record { at = set q.at c (get_or r.at c 0); timers = q.timers; world = w })
    idled w k = record {
      worlds = refl;
      ats = al.ats ∙ sym (ap (λ l. set q.at c (get_or l c 0)) al.ats ∙ set-get_or q.at c 0);
      placed = al.placed;
      valued = k.2 al.valued;
      timed = subst (λ n. Timed cs r.at r.timers q.timers n) (sym k.0) al.timed;
    }

    -- ---- the twin's turn

    -- once its edge e is found, with its updates, resets and target
    along : ℕ → List Action → List ℕ → ℕ → World → Out (Answer × Run)
    along e ds ks g w = actions cs.nodes cs.variables ds w >>= λ w₁. val (taken e, record { at = set q.at c g; timers = reset ks q.timers; world = w₁ })

    along-edge : ℕ → Out (Answer × Run)
    along-edge e = along e (of e (twin cs).updates) (of e (twin cs).resets) (edge (twin cs) e).target q.world

    opened : (e : ℕ) → open_edges (twin cs) c q ≡ val (e ∷ []) → open_edges (twin cs) (q.world.position - 1) q ≡ val (e ∷ [])
    opened e op = ap (λ n. open_edges (twin cs) n q) (ap (λ w. w.position - 1) (sym al.worlds) ∙ here) ∙ op

    took : (t : ℕ) → T (mem t (row cs (get_or r.at c 0))) → open_edges (twin cs) c q ≡ val (t ∷ []) → StepsMatch cs r q (follow cs c r (some t)) (along-edge t)
    unfolding along-edge along
    took t m op =
        subst (λ z. StepsMatch cs r q (follow cs c r (some t)) z) (sym same)
        (subst (λ o. StepsMatch cs r q (o >>= λ w. val (taken t, record { at = set r.at c (transition cs t).target; timers = set r.timers c 0; world = w })) (along t (updates_of cs (from_transition t)) (resets_of cs (from_transition t)) (transition cs t).target r.world))
        (sym (acted-updates cs t r.world))
        (done (actions cs.nodes cs.variables (updates_of cs (from_transition t)) r.world) refl))
      where
        t-in : t < transition_count cs
        t-in = (row-mem cs (get_or r.at c 0) t m).0

        same : along-edge t ≡ along t (updates_of cs (from_transition t)) (resets_of cs (from_transition t)) (transition cs t).target r.world
        same = λ i. along t
            (of-origin cs (updates_of cs) (from_transition t) t-in i)
            (of-origin cs (resets_of cs) (from_transition t) t-in i)
            (edge-of cs (from_transition t) t-in i).target
            (sym al.worlds i)

        taken-from : (transition cs t).source ≡ get_or r.at (r.world.position - 1) 0
        taken-from = (row-mem cs (get_or r.at c 0) t m).1 ∙ ap (λ n. get_or r.at n 0) (sym here)

        done : (o : Out World) → actions cs.nodes cs.variables (updates_of cs (from_transition t)) r.world ≡ o →
            StepsMatch cs r q
            (o >>= λ w. val (taken t, record { at = set r.at c (transition cs t).target; timers = set r.timers c 0; world = w }))
            (o >>= λ w. val (taken t, record { at = set q.at c (transition cs t).target; timers = reset (clocks_of_state cs (transition cs t).target) q.timers; world = w }))
        done (fault w) e = refl
        done (val w) e =
            let k : Kept cs.variables r.world w = actions-kept cs.nodes cs.variables (updates_of cs (from_transition t)) r.world w e in
            ((refl, opened t op), (refl, t-in, taken-from, ap (λ n. set r.at n (transition cs t).target) (sym here)), k.0, k.1, entered t m w k)

    -- whether the waiting actions are due, by the chart
    abbrev is_due : Bool
    is_due = due cs (get_or r.at c 0) (get_or r.timers c 0)

    abbrev idle_edge : ℕ
    idle_edge = edge_number cs (idle_for is_due (get_or r.at c 0))

    undue : waits cs (get_or r.at c 0) ≡ [] → is_due ≡ false
    unfolding any
    undue w = ap (any (λ ms. every_holds (ticks ms) (get_or r.timers c 0))) w

    at-clock : (ms : ℕ) → waits cs (get_or r.at c 0) ≡ ms ∷ [] →
        eqb (get_or q.timers (waiting_clock cs (get_or r.at c 0)) 0) (clock_at (twin cs) (waiting_clock cs (get_or r.at c 0))).ticks ≡ is_due
    unfolding any
    at-clock ms w =
        clock-holds (waiting_clock cs (get_or r.at c 0)) (record { timing = A.every; ticks = ticks ms }) (inr (in-states, refl, ap (map (λ ms. record { timing = A.every; ticks = ticks ms })) w))
        ∙ or-none (every_holds (ticks ms) (get_or r.timers c 0))
        ∙ sym (ap (any (λ ms. every_holds (ticks ms) (get_or r.timers c 0))) w)
      where
        or-none : (b : Bool) → b ≡ (b || false)
        or-none true = refl
        or-none false = refl

    no-resets : (d : Bool) → resets_of cs (idle_for d (get_or r.at c 0)) ≡ []
    no-resets true = refl
    no-resets false = refl

    idle-edge : (d : Bool) → edge_of cs (idle_for d (get_or r.at c 0)) ≡ edge_of cs (from_idling (get_or r.at c 0))
    idle-edge true = refl
    idle-edge false = refl

    stayed : IsOrigin cs (idle_for is_due (get_or r.at c 0)) → open_edges (twin cs) c q ≡ val (idle_edge ∷ []) → StepsMatch cs r q (follow cs c r none) (along-edge idle_edge)
    unfolding along-edge along reset
    stayed i op =
        subst (λ z. StepsMatch cs r q (follow cs c r none) z) (sym same)
        (subst (λ o. StepsMatch cs r q (o >>= λ w. val (idle, record { at = r.at; timers = r.timers; world = w })) (along idle_edge (updates_of cs (idle_for is_due (get_or r.at c 0))) [] (get_or r.at c 0) r.world))
        (sym (waited-updates cs (get_or r.at c 0) (get_or r.timers c 0) r.world))
        (done (actions cs.nodes cs.variables (updates_of cs (idle_for is_due (get_or r.at c 0))) r.world) refl))
      where
        ed : edge (twin cs) idle_edge ≡ edge_of cs (from_idling (get_or r.at c 0))
        ed = edge-of cs (idle_for is_due (get_or r.at c 0)) i ∙ idle-edge is_due

        same : along-edge idle_edge ≡ along idle_edge (updates_of cs (idle_for is_due (get_or r.at c 0))) [] (get_or r.at c 0) r.world
        same = λ j. along idle_edge
            (of-origin cs (updates_of cs) (idle_for is_due (get_or r.at c 0)) i j)
            ((of-origin cs (resets_of cs) (idle_for is_due (get_or r.at c 0)) i ∙ no-resets is_due) j)
            (ed j).target
            (sym al.worlds j)

        source-there : (edge (twin cs) idle_edge).source ≡ get_or r.at (r.world.position - 1) 0
        source-there = ap (λ x. x.source) ed ∙ ap (λ n. get_or r.at n 0) (sym here)

        target-there : (edge (twin cs) idle_edge).target ≡ get_or r.at (r.world.position - 1) 0
        target-there = ap (λ x. x.target) ed ∙ ap (λ n. get_or r.at n 0) (sym here)

        done : (o : Out World) → actions cs.nodes cs.variables (updates_of cs (idle_for is_due (get_or r.at c 0))) r.world ≡ o →
            StepsMatch cs r q (o >>= λ w. val (idle, record { at = r.at; timers = r.timers; world = w }))
            (o >>= λ w. val (taken idle_edge, record { at = set q.at c (get_or r.at c 0); timers = q.timers; world = w }))
        done (fault w) e = refl
        done (val w) e =
            let k : Kept cs.variables r.world w = actions-kept cs.nodes cs.variables (updates_of cs (idle_for is_due (get_or r.at c 0))) r.world w e in (
              (ap (λ x. x.idles) ed, source-there, target-there, opened idle_edge op),
              ((is_due, ap (λ n. edge_number cs (idle_for is_due (get_or r.at n 0))) (sym here), subst (λ n. IsOrigin cs (idle_for is_due (get_or r.at n 0))) (sym here) i), refl),
              k.0,
              k.1,
              idled w k,
            )

    pub chart_step-edge_step : StepsMatch cs r q (chart_step cs c r) (edge_step (twin cs) c q)
    unfolding along-edge along
    chart_step-edge_step =
        go (first_that (transition_holds cs r.world (get_or r.timers c 0)) (row cs (get_or r.at c 0))) refl
        (open_edges-first cs c (get_or r.at c 0) ok.ranks (ok.differ (get_or r.at c 0) in-states) (al.placed.home c c-in).1 in-states q
        (transition_holds cs r.world (get_or r.timers c 0)) literal-holds (ap (λ l. get_or l c 0) (sym al.ats)) is_due undue at-clock)
      where
        go : (o : Out (Option ℕ)) → first_that (transition_holds cs r.world (get_or r.timers c 0)) (row cs (get_or r.at c 0)) ≡ o →
            open_edges (twin cs) c q ≡ (o >>= λ a. val (edge_for idle_edge a ∷ [])) →
            StepsMatch cs r q (o >>= follow cs c r) (open_edges (twin cs) c q >>= λ os. the_one os >>= along-edge)
        go (fault w) e op = subst (λ z. StepsMatch cs r q (fault w) (z >>= λ os. the_one os >>= along-edge)) (sym op) refl
        go (val (some t)) e op =
            subst (λ z. StepsMatch cs r q (follow cs c r (some t)) (z >>= λ os. the_one os >>= along-edge)) (sym op)
            (took t (first_that-mem (transition_holds cs r.world (get_or r.timers c 0)) (row cs (get_or r.at c 0)) t e) op)
        go (val none) e op = subst (λ z. StepsMatch cs r q (follow cs c r none) (z >>= λ os. the_one os >>= along-edge)) (sym op)
            (stayed
            (is-idle cs c (get_or r.at c 0) ok.ranks (ok.differ (get_or r.at c 0) in-states) (al.placed.home c c-in).1 in-states q
            (transition_holds cs r.world (get_or r.timers c 0)) literal-holds (ap (λ l. get_or l c 0) (sym al.ats)) is_due undue at-clock)
            op)
