-- A set of charts, or a table of automata, as calls see it, and the run that it starts with. The paper says it once ("events and count go as for charts"), and so does this. Assumes nothing: these are definitions.
use Rattle.std.specs.Prelude.{Bool, cond, List, map, ℕ, ◌+◌, eqb, length, replicate, pos}
use Rattle.prelude.specs.Lists.{padded}
use Rattle.records.specs.Refusal.{Out}
use Rattle.model.specs.Limits.{most_charts, most_variables}
use Rattle.model.specs.World.{Variable, Run, set_events}

-- ---- machines

-- "A turn's answer is the transition or edge taken, idling, or time."
pub data Answer : Type 0 where
  taken : ℕ → Answer
  idle : Answer
  time : Answer

-- A part is a chart or an automaton; a place is one of its states or locations; a timer is a chart's age or a clock.
pub record Machine : Type 0 where
  -- of each part its initial place, of each place its part
  pub initial : List ℕ
  pub homes : List ℕ
  pub variables : List Variable
  -- the timers in use, the timers that a run has room for, and the values that timer k may have after so many cycles
  pub timers_used : ℕ
  pub timers_room : ℕ
  pub timer_possible : (cycles k value : ℕ) → Bool
  -- a part's turn: its answer, and the run after it, the position not yet moved
  pub step : (part : ℕ) → Run → Out (Answer × Run)
  -- the timers after time passed
  pub passed : Run → List ℕ

-- "Input events are given at position 1."
abbrev pub give : ℕ → Run → Run
give given r = record {
  at = r.at;
  timers = r.timers;
  world = set_events (cond (eqb r.world.position 1) given r.world.events) r.world;
}

-- the next position
abbrev pub moved : Run → Run
moved r = record {
  at = r.at;
  timers = r.timers;
  world = record { vars = r.world.vars; events = r.world.events; position = r.world.position + 1; cycles = r.world.cycles };
}

module _ (m : Machine) where
  abbrev pub parts : ℕ
  parts = length m.initial

  -- "A run starts in the initial states, variables at start, no events, ages and count 0, position 1."
  abbrev pub start : Run
  start = record {
    at = padded most_charts 0 m.initial;
    timers = replicate m.timers_room 0;
    world = record { vars = padded most_variables (pos 0) (map (λ v. v.start) m.variables); events = 0; position = 1; cycles = 0 };
  }
