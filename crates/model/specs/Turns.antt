-- A turn and a cycle of any machine, and what a call goes through, turn by turn. Assumes nothing: these are definitions.
use Rattle.std.specs.Prelude.{cond, ℕ, zero, suc, ◌+◌, ◌-◌, leb}
use Rattle.records.specs.Refusal.{Refusal, Out, val, fault, ◌>>=◌, ◌>>◌}
use Rattle.model.specs.World.{Run}
use Rattle.model.specs.Machine.{Answer, time, Machine, give, moved, parts}
use Rattle.model.specs.Checks.{checked}

module _ (m : Machine) where
  -- "Position n + 1 empties the events, adds 1 to each chart's age and to the cycle count."
  abbrev pub time_passed : Run → Run
  time_passed r = record {
    at = r.at;
    timers = m.passed r;
    world = record { vars = r.world.vars; events = 0; position = 1; cycles = r.world.cycles + 1 };
  }

  -- "A cycle has positions 1 to n, one per chart, and n + 1, where time passes."
  abbrev pub stepped : Run → Out (Answer × Run)
  stepped r =
      cond (leb r.world.position (parts m))
      (m.step (r.world.position - 1) r >>= λ x. val (x.0, moved x.1))
      (val (time, time_passed r))

  abbrev pub turn : ℕ → Run → Out (Answer × Run)
  turn input_events r = checked m input_events r >> stepped (give input_events r)

-- ---- calls

-- "A call takes one turn, or a cycle", with its input events.
pub data Call : Type 0 where
  one_turn : ℕ → Call
  whole_cycle : ℕ → Call

abbrev pub input_events : Call → ℕ
input_events (one_turn events) = events
input_events (whole_cycle events) = events

-- What a call goes through: for each turn the run in which it was taken, its answer, and the run after it.
pub data Trace : Type 0 where
  done : Trace
  stopped : Refusal → Trace
  turned : Run → Answer → Run → Trace → Trace

-- a turn taken in r₀, and then the rest
abbrev pub onto : Run → Out (Answer × Run) → (Run → Trace) → Trace
onto r₀ (fault w) rest = stopped w
onto r₀ (val x) rest = turned r₀ x.0 x.1 (rest x.1)

abbrev pub unless_stopped : Out (Unit {0}) → Trace → Trace
unless_stopped (fault w) t = stopped w
unless_stopped (val u) t = t

module _ (m : Machine) where
  -- so many turns
  unfoldable pub turns : ℕ → Run → Trace
  turns zero r = done
  turns (suc k) r = onto r (stepped m r) (turns k)

  -- "a cycle: the turns from the present position up to n + 1"
  abbrev pub turns_of : Call → Run → ℕ
  turns_of (one_turn input_events) r = 1
  turns_of (whole_cycle input_events) r = parts m + 2 - r.world.position

  abbrev pub trace : Call → Run → Trace
  trace c r = unless_stopped (checked m (input_events c) r) (turns (turns_of c r) (give (input_events c) r))

-- the run after all turns, from r on
unfoldable pub ended : Run → Trace → Out Run
ended r done = val r
ended r (stopped w) = fault w
ended r (turned r₀ a r₁ t) = ended r₁ t

abbrev pub cycle : Machine → ℕ → Run → Out (Unit {0} × Run)
cycle m input_events r = ended r (trace m (whole_cycle input_events) r) >>= λ r₁. val (tt, r₁)
