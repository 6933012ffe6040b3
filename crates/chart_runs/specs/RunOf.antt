-- The code's run as the model's. Its arrays have their places by their types, as the model's check 12 asks of a lent run. Assumes nothing: these
-- are definitions.
use Rattle.std.specs.Prelude.{cond, ℕ, ◌+◌, ◌-◌, ◌≤◌, ◌<◌, ltb, get_or}
use Rattle.model.specs.Limits.{most_cycles}
use Rattle.model.specs.Runs.{Run}
pub use Rattle.machines.specs.Checks.{before_of}
use Rattle.machines.specs.Worlds.{moment, run_in}
use Rattle.chart_runs.specs.declared.Run as declared-run

abbrev pub run_of : declared-run.Run → Run
run_of r = run_in r.states r.ages r.variables r.events (moment r.position r.cycles)

-- a cycle may still be done, and no chart's age is over the count of those done: so ages and count have room for one more
abbrev pub AgesPossible : ℕ → Run → Type 0
AgesPossible charts r = (r.world.cycles ≤ most_cycles - 1) × ((c : ℕ) → c < charts → get_or r.timers c 0 ≤ r.world.cycles)

-- the age of a place after time passed
abbrev pub aged : ℕ → ℕ → ℕ → ℕ
aged charts c age = cond (ltb c charts) (age + 1) age
