-- "A chart's turn". Assumes nothing: these are definitions.
use Rattle.std.proofs.Math.Option.{Option, some, none}
use Rattle.std.specs.Prelude.{Bool, true, false, cond, ◌&&◌, List, [], ◌∷◌, ℕ, ◌+◌, ◌/◌, ◌%◌, leb, ltb, eqb, length, get_or, set}
use Rattle.prelude.specs.Lists.{any, keep, sorted, map_from, upto}
use Rattle.records.specs.Refusal.{Out, val, ◌>>=◌, choose}
use Rattle.model.specs.Limits.{most_charts}
use Rattle.prelude.specs.Owned.{of}
use Rattle.model.specs.Runs.{World, Run, present, actions, guard_holds, Answer, taken, idle, Machine, Runs}
use Rattle.model.specs.ChartSet.{Trigger, always, event, after, every, ChartSet, transition, waits, ChartSet·}

-- ---- time

-- of n and n + 1 the even one
abbrev pub even_from : ℕ → ℕ
even_from n = n + n % 2

-- "A tick is one cycle, 100 ms; ticks are milliseconds / 100 to the nearest", "with exact halves to the even tick" (request 3).
abbrev pub ticks : ℕ → ℕ
ticks ms = cond (eqb (ms % 100) 50) (even_from (ms / 100)) ((ms + 50) / 100)

-- "After d now holds at age d and at every later age until the state is left" (request 2); "every d at positive multiples of d."
abbrev pub after_holds : ℕ → ℕ → Bool
after_holds d age = leb d age

abbrev pub every_holds : ℕ → ℕ → Bool
every_holds d age = ltb 0 age && eqb (age % d) 0

abbrev pub triggered : Trigger → ℕ → ℕ → Bool
triggered always age events = true
triggered (event e) age events = present e events
triggered (after ms) age events = after_holds (ticks ms) age
triggered (every ms) age events = every_holds (ticks ms) age

-- ---- turns

-- "They are tried in that order .. the first that holds is taken."
unfoldable pub first_that : (ℕ → Out Bool) → List ℕ → Out (Option ℕ)
first_that holds [] = val none
first_that holds (t ∷ ts) = choose (holds t) (val (some t)) (first_that holds ts)

module _ (cs : ChartSet) where
  -- "For each state the leaving transitions stand in a row by priority", "smaller goes first".
  abbrev pub row : ℕ → List ℕ
  row s = sorted (λ t. (transition cs t).priority) (keep (λ t. eqb (transition cs t).source s) (upto (length cs.transitions)))

  -- "the trigger first, then the guard only if the trigger holds"
  abbrev pub transition_holds : World → ℕ → ℕ → Out Bool
  transition_holds w age t =
      choose (val (triggered (transition cs t).trigger age w.events)) (guard_holds cs.nodes w.vars (transition cs t).guard) (val false)

  -- "Then run in sequence, each seeing the last: exit actions of the source, the transition's, entry actions of the target, each group in file order."
  abbrev pub acted : ℕ → World → Out World
  acted t w = do
    w₁ ← actions cs.nodes cs.variables (of (transition cs t).source cs.exits) w
    w₂ ← actions cs.nodes cs.variables (of t cs.transition_actions) w₁
    actions cs.nodes cs.variables (of (transition cs t).target cs.entries) w₂

  -- "Place 4 is an action done while a state idles at each positive multiple of the milliseconds" (request 4): in file order
  abbrev pub due : ℕ → ℕ → Bool
  due s age = any (λ ms. every_holds (ticks ms) age) (waits cs s)

  abbrev pub waited : ℕ → ℕ → World → Out World
  waited s age w = cond (due s age) (actions cs.nodes cs.variables (of s cs.waiting_actions) w) (val w)

  -- "A state's age is 0 when it is entered, also by its own self-transition, never by idling." "With none taken the chart idles."
  abbrev pub follow : ℕ → Run → Option ℕ → Out (Answer × Run)
  follow c r (some t) = do
    w ← acted t r.world
    val (taken t, record { at = set r.at c (transition cs t).target; timers = set r.timers c 0; world = w })
  follow c r none = do
    w ← waited (get_or r.at c 0) (get_or r.timers c 0) r.world
    val (idle, record { at = r.at; timers = r.timers; world = w })

  abbrev pub chart_step : ℕ → Run → Out (Answer × Run)
  chart_step c r = first_that (transition_holds r.world (get_or r.timers c 0)) (row (get_or r.at c 0)) >>= follow c r

  -- "adds 1 to each chart's age"
  abbrev pub ages : Run → List ℕ
  ages r = map_from 0 (λ c age. cond (ltb c (length cs.initial)) (age + 1) age) r.timers

  abbrev pub charts : Machine
  charts = record {
    initial = cs.initial;
    homes = cs.homes;
    variables = cs.variables;
    timers_used = length cs.initial;
    timers_room = most_charts;
    timer_possible = λ cycles c age. leb age cycles;
    step = chart_step;
    passed = ages;
  }

-- what a proof that computes with these opens
unfoldable pub Charts : Type 0
unfolding first_that Runs ChartSet·
Charts = Unit
