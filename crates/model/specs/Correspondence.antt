-- Corresponding runs, and demand 3 as one statement about every accepted set and every list of calls. Assumes nothing: these are definitions.
use Rattle.std.specs.Prelude.{◌≡◌, true, cond, List, [], ◌∷◌, ℕ, ◌+◌, ◌-◌, ◌%◌, ◌<◌, min, T, ltb, eqb, length, get_or, take}
use Rattle.prelude.specs.Lists.{all, gather, mem}
use Rattle.records.specs.Refusal.{Out, val, fault, refusal_number}
use Rattle.prelude.specs.Owned.{of}
use Rattle.model.specs.Runs.{Run, give, Answer, taken, idle, time, Call, one_turn, whole_cycle, Trace, done, stopped, turned}
use Rattle.model.specs.ChartSet.{ChartSet, read_charts}
use Rattle.model.specs.AutomataTable.{Automata, Timing, after, every, LiteralTrigger, always, event, clock, clock_at, edge, read_automata}
use Rattle.model.specs.Automata.{top, leaving, open_edges}
use Rattle.model.specs.Translation.{translate}
use Rattle.model.specs.Calls.{Format, chart_sets, automata_tables, start_call, turn_call, cycle_call, call_trace}

-- ---- corresponding runs

-- "an after-clock stands at the smaller of a and its top, an every-clock at 0 if a is 0, else at (a − 1) mod ticks + 1"
abbrev pub clock_for : Timing → ℕ → ℕ → ℕ
clock_for after d age = min age (top after d)
clock_for every d age = cond (eqb age 0) 0 ((age - 1) % d + 1)

abbrev pub clock_read : LiteralTrigger → List ℕ
clock_read always = []
clock_read (event e) = []
clock_read (clock k) = k ∷ []

-- a location's clocks, "which are those that literals of edges leaving it read"
abbrev pub clocks_read : Automata → ℕ → ℕ → List ℕ
clocks_read au a l = gather (λ e. gather (λ x. clock_read x.trigger) (of e au.literals)) (leaving au a l)

pub record Corresponds (cs : ChartSet) (au : Automata) (r q : Run) : Type 0 where
  -- "position, cycle count, variables and present events are equal"
  pub worlds : r.world ≡ q.world
  -- "each automaton's location has the number of its chart's present state"
  pub places : (c : ℕ) → c < length cs.initial → get_or r.at c 0 ≡ get_or q.at c 0
  -- "and that state's age corresponds to its clocks"
  pub timers : (c : ℕ) → c < length cs.initial → (k : ℕ) → T (mem k (clocks_read au c (get_or q.at c 0))) →
      get_or q.timers k 0 ≡ clock_for (clock_at au k).timing (clock_at au k).ticks (get_or r.timers c 0)

-- ---- one turn, one call, all calls

-- The answers of one turn, taken in the runs r and q. "Where the chart answers transition t, the twin answers edge t; where the chart idles, the twin takes
-- an idle edge with both ends at the location of the chart's state; time goes with time"; and that edge is the one open edge.
abbrev pub AnswersMatch : Automata → Run → Run → Answer → Answer → Type 0
AnswersMatch au r q (taken t) (taken e) = (e ≡ t) × (open_edges au (q.world.position - 1) q ≡ val (e ∷ []))
AnswersMatch au r q idle (taken e) =
    let c = r.world.position - 1 in
    ((edge au e).idles ≡ true)
    × ((edge au e).source ≡ get_or r.at c 0)
    × ((edge au e).target ≡ get_or r.at c 0)
    × (open_edges au (q.world.position - 1) q ≡ val (e ∷ []))
AnswersMatch au r q time time = Unit
AnswersMatch au r q time (taken e) = ⊥
AnswersMatch au r q (taken t) idle = ⊥
AnswersMatch au r q (taken t) time = ⊥
AnswersMatch au r q idle idle = ⊥
AnswersMatch au r q idle time = ⊥
AnswersMatch au r q time idle = ⊥

-- The turns of a cycle, one by one: their answers match, and the runs correspond after each.
unfoldable pub TracesMatch : ChartSet → Automata → Trace → Trace → Type 0
TracesMatch cs au done done = Unit
TracesMatch cs au (stopped w) (stopped v) = refusal_number w ≡ refusal_number v
TracesMatch cs au (turned r₀ a r₁ t) (turned q₀ b q₁ u) = AnswersMatch au r₀ q₀ a b × Corresponds cs au r₁ q₁ × TracesMatch cs au t u
TracesMatch cs au done (stopped v) = ⊥
TracesMatch cs au done (turned q₀ b q₁ u) = ⊥
TracesMatch cs au (stopped w) done = ⊥
TracesMatch cs au (stopped w) (turned q₀ b q₁ u) = ⊥
TracesMatch cs au (turned r₀ a r₁ t) done = ⊥
TracesMatch cs au (turned r₀ a r₁ t) (stopped v) = ⊥

-- What two calls came to: both answered, and the answers match; or "a refusal or fault with the same number".
abbrev pub OutsMatch : {A : Type 0} → (A → A → Type 0) → Out A → Out A → Type 0
OutsMatch match (val a) (val b) = match a b
OutsMatch match (fault w) (fault v) = refusal_number w ≡ refusal_number v
OutsMatch match (val a) (fault v) = ⊥
OutsMatch match (fault w) (val b) = ⊥

-- One call on a set s and on a table t, lent the runs r and q.
abbrev pub CallMatches : List ℕ → List ℕ → Call → Run → Run → Type 0
-- A turn: its answers match in the runs in which it was taken, the events given.
CallMatches s t (one_turn given) r q =
    OutsMatch (AnswersMatch (read_automata t) (give given r) (give given q)) (turn_call chart_sets s given r).answer (turn_call automata_tables t given q).answer
-- A cycle: "done with done", and its turns match one by one, up to a fault too.
CallMatches s t (whole_cycle given) r q =
    OutsMatch (λ _ _. Unit) (cycle_call chart_sets s given r).answer (cycle_call automata_tables t given q).answer
    × TracesMatch (read_charts s) (read_automata t) (call_trace chart_sets s (whole_cycle given) r) (call_trace automata_tables t (whole_cycle given) q)

-- the run that a call leaves
abbrev pub lent_after : Format → List ℕ → Call → Run → Run
lent_after f s (one_turn given) r = (turn_call f s given r).lent
lent_after f s (whole_cycle given) r = (cycle_call f s given r).lent

-- the run that a list of calls leaves: "each call gets the run that the last one left"
unfoldable pub after_calls : Format → List ℕ → List Call → Run → Run
after_calls f s [] r = r
after_calls f s (c ∷ calls) r = after_calls f s calls (lent_after f s c r)

-- A list of calls: the runs correspond at the start and after every call, the calls' answers match, and "each call gets the run that the last one left".
unfoldable pub MoveAlike : List ℕ → List ℕ → List Call → Run → Run → Type 0
MoveAlike s t [] r q = Corresponds (read_charts s) (read_automata t) r q
MoveAlike s t (c ∷ calls) r q =
    Corresponds (read_charts s) (read_automata t) r q × CallMatches s t c r q × MoveAlike s t calls (lent_after chart_sets s c r) (lent_after automata_tables t c q)

-- ---- demand 3

-- Of any bytes that are translated, n bytes of the buffer being the twin: both files start fresh runs, whatever was lent, and any list of calls moves
-- them alike.
abbrev pub Demand₃ : Type 0
Demand₃ =
    (s buffer : List ℕ) → T (all (λ b. ltb b 256) s) → (n : ℕ) (out : List ℕ) → translate s buffer ≡ record { answer = val n; lent = out } →
    (calls : List Call) (r q : Run) →
    ((start_call chart_sets s r).answer ≡ val tt)
    × ((start_call automata_tables (take n out) q).answer ≡ val tt)
    × MoveAlike s (take n out) calls (start_call chart_sets s r).lent (start_call automata_tables (take n out) q).lent
