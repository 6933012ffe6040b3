-- Whether runs and answers of a set and of its twin are alike, as tests that compute: what `Corresponds` and `CallMatches` say, asked place by place. Assumes
-- nothing: these are definitions.
use Rattle.std.specs.Prelude.{Bool, true, false, cond, ◌&&◌, List, ℕ, ◌-◌, ltb, eqb, ℤ, pos, length, get_or}
use Rattle.std.specs.Int.Signed.{le_z}
use Rattle.model.specs.Limits.{most_variables}
use Rattle.prelude.specs.Lists.{all, upto}
use Rattle.records.specs.Refusal.{Out, val, fault, refusal_number}
use Rattle.model.specs.Runs.{Run, Answer, taken, idle, time, Call, one_turn, whole_cycle}
use Rattle.model.specs.AutomataTable.{LiteralTrigger, always, event, clock}
use Rattle.model.specs.Calls.{chart_sets, automata_tables, turn_call, cycle_call}
use Rattle.model.specs.Correspondence.{clock_for, lent_after}
use Rattle.automata_records.specs.declared.Shape.{Shape}
use Rattle.automata_records.specs.Places.{edge_at, literal_at, clock_at}

-- ---- runs

abbrev pub values_alike : ℤ → ℤ → Bool
values_alike a b = le_z a b && le_z b a

abbrev pub variables_alike : List ℤ → List ℤ → Bool
variables_alike vars vars' = all (λ v. values_alike (get_or vars v (pos 0)) (get_or vars' v (pos 0))) (upto most_variables)

-- of so many charts
abbrev pub places_alike : ℕ → List ℕ → List ℕ → Bool
places_alike charts states locations = all (λ c. eqb (get_or states c 0) (get_or locations c 0)) (upto charts)

module _ (t : List ℕ) (sh : Shape) where
  -- clock k stands as an age says
  abbrev pub clock_alike : List ℕ → ℕ → ℕ → Bool
  clock_alike clocks age k = eqb (get_or clocks k 0) (clock_for (clock_at t sh k).timing (clock_at t sh k).ticks age)

  abbrev pub literal_trigger_alike : List ℕ → ℕ → LiteralTrigger → Bool
  literal_trigger_alike clocks age always = true
  literal_trigger_alike clocks age (event e) = true
  literal_trigger_alike clocks age (clock k) = clock_alike clocks age k

  -- the clock that literal l reads stands as the age of its chart's state says, if the literal's edge leaves its automaton's location
  abbrev pub literal_alike : List ℕ → List ℕ → List ℕ → ℕ → Bool
  literal_alike ages locations clocks l =
      let e = edge_at t sh (literal_at t sh l).0 in
      cond (eqb (get_or locations e.automaton 0) e.source) (literal_trigger_alike clocks (get_or ages e.automaton 0) (literal_at t sh l).1.trigger) true

  abbrev pub timers_alike : List ℕ → List ℕ → List ℕ → Bool
  timers_alike ages locations clocks = all (literal_alike ages locations clocks) (upto sh.literals)

  abbrev pub runs_alike : Run → Run → Bool
  runs_alike r q =
      variables_alike r.world.vars q.world.vars
      && eqb r.world.events q.world.events
      && eqb r.world.position q.world.position
      && eqb r.world.cycles q.world.cycles
      && places_alike sh.automata r.at q.at
      && timers_alike r.timers q.at q.timers

  -- ---- answers

  -- e is an idle edge with both ends at location l
  abbrev pub idle_at : ℕ → ℕ → Bool
  idle_at e l = ltb e sh.edges && (edge_at t sh e).idles && eqb (edge_at t sh e).source l && eqb (edge_at t sh e).target l

  -- of a turn whose chart was in a state
  abbrev pub answers_alike : ℕ → Answer → Answer → Bool
  answers_alike state (taken x) (taken e) = eqb e x
  answers_alike state idle (taken e) = idle_at e state
  answers_alike state time time = true
  answers_alike state time (taken e) = false
  answers_alike state (taken x) idle = false
  answers_alike state (taken x) time = false
  answers_alike state idle idle = false
  answers_alike state idle time = false
  answers_alike state time idle = false

-- a refusal or fault of number n
abbrev pub fails_as : {A : Type 0} → ℕ → Out A → Bool
fails_as n (val a) = false
fails_as n (fault w) = eqb n (refusal_number w)

abbrev pub outs_alike : {A : Type 0} → (A → A → Bool) → Out A → Out A → Bool
outs_alike alike (val a) (val b) = alike a b
outs_alike alike (val a) (fault v) = false
outs_alike alike (fault w) o = fails_as (refusal_number w) o

-- the state of the present position's chart
abbrev pub state_at : Run → ℕ
state_at r = get_or r.at (r.world.position - 1) 0

-- ---- calls

module _ (s t : List ℕ) (sh : Shape) where
  abbrev pub replies_alike : Call → Run → Run → Bool
  replies_alike (one_turn given) r q = outs_alike (answers_alike t sh (state_at r)) (turn_call chart_sets s given r).answer (turn_call automata_tables t given q).answer
  replies_alike (whole_cycle given) r q = outs_alike (λ _ _. true) (cycle_call chart_sets s given r).answer (cycle_call automata_tables t given q).answer

  -- a call's answers are alike, and so are the runs that it leaves
  abbrev pub call_alike : Call → Run → Run → Bool
  call_alike c r q = replies_alike c r q && runs_alike t sh (lent_after chart_sets s c r) (lent_after automata_tables t c q)

-- what a call on both sides comes to: whether it was alike, and the runs that it leaves
pub record Pair : Type 0 where
  pub alike : Bool
  pub run : Run
  pub twin : Run

abbrev pub called : List ℕ → List ℕ → Shape → Call → Run → Run → Pair
called s t sh c r q = record { alike = call_alike s t sh c r q; run = lent_after chart_sets s c r; twin = lent_after automata_tables t c q }

-- call k: a turn where its kind is 0, a cycle otherwise and where it has none
abbrev pub call_for : Bool → ℕ → Call
call_for true events = one_turn events
call_for false events = whole_cycle events

abbrev pub is_turn : List ℕ → ℕ → Bool
is_turn kinds k = ltb k (length kinds) && eqb (get_or kinds k 0) 0
