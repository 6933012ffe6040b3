-- The code's run as the model's. Its arrays have their places by their types, as the model's check 12 asks of a lent run. Assumes nothing: these
-- are definitions.
use Rattle.std.specs.Prelude.{◌≡◌, cond, List, ℕ, ◌≤◌, ◌<◌, ltb, ℤ, length, get_or}
use Rattle.model.specs.Limits.{most_charts, most_variables, most_clocks}
use Rattle.model.specs.Runs.{Run}
use Rattle.model.specs.Automata.{top, grown}
use Rattle.automata_records.specs.declared.Shape.{Shape}
use Rattle.automata_records.specs.Places.{clock_at}
use Rattle.timings.specs.Growth.{most_top, turn_for, cap_for}
use Rattle.machines.specs.Worlds.{moment, run_in}
use Rattle.automata.specs.declared.runs.Run as declared-run
use Rattle.automata.specs.declared.runs.Limits.{Limits}

-- the places that its arrays have by their types
abbrev pub Sized : List ℕ → List ℕ → List ℤ → Type 0
Sized at clocks vars = (length at ≡ most_charts) × (length clocks ≡ most_clocks) × (length vars ≡ most_variables)

abbrev pub run_of : declared-run.Run → Run
run_of r = run_in r.locations r.clocks r.variables r.events (moment r.position r.cycles)

-- clock k's top, and what a place of a run's clocks has after time passed, as the file's bytes say
abbrev pub top_at : List ℕ → Shape → ℕ → ℕ
top_at s sh k = top (clock_at s sh k).timing (clock_at s sh k).ticks

abbrev pub grown_at : List ℕ → Shape → ℕ → ℕ → ℕ
grown_at s sh k x = cond (ltb k sh.clocks) (grown (clock_at s sh k).timing (clock_at s sh k).ticks x) x

-- no clock in use is over the highest top, so that each has room for one more
abbrev pub ClocksPossible : ℕ → List ℕ → Type 0
ClocksPossible count clocks = (k : ℕ) → k < count → get_or clocks k 0 ≤ most_top

-- of so many clocks in use each place has its limit; the places behind them stay
abbrev pub turn_at : List ℕ → Shape → ℕ → ℕ → ℕ
turn_at s sh k x = cond (ltb k sh.clocks) (turn_for (clock_at s sh k).timing (clock_at s sh k).ticks) x

abbrev pub cap_at : List ℕ → Shape → ℕ → ℕ → ℕ
cap_at s sh k x = cond (ltb k sh.clocks) (cap_for (clock_at s sh k).timing (clock_at s sh k).ticks) x

pub record HasLimits (s : List ℕ) (sh : Shape) (limits : Limits) : Type 0 where
  pub turns : (k : ℕ) → k < sh.clocks → get_or limits.turn k 0 ≡ turn_for (clock_at s sh k).timing (clock_at s sh k).ticks
  pub caps : (k : ℕ) → k < sh.clocks → get_or limits.cap k 0 ≡ cap_for (clock_at s sh k).timing (clock_at s sh k).ticks
