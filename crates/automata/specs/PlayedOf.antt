-- What the code answers of many cycles, as the outcome of the call. Assumes nothing: these are definitions.
use Rattle.std.specs.Prelude.{◌≡◌, ℕ, ◌≤◌, T}
use Rattle.model.specs.Outcome.{Outcome}
use Rattle.model.specs.Runs as M
use Rattle.answers.specs.Answers.{cycles_of}
use Rattle.machines.specs.Playing as Playing
use Rattle.automata.specs.declared.plays.Played.{Played}
use Rattle.automata.specs.RunOf.{run_of}

-- the count, or why not even the first cycle was done, and the lent run afterwards
abbrev pub played_of : Played → Outcome ℕ M.Run
played_of p = record { answer = cycles_of p.answer; lent = run_of p.run }

-- A run that can go on: possible, and between cycles.
pub record BetweenCycles (m : M.Machine) (r : M.Run) : Type 0 where
  pub fit : T (M.possible m r)
  pub position : r.world.position ≡ 1
  pub events : r.world.events ≡ 0

-- how many cycles were played, and the run after them
pub record PlayedTo (p : Playing.Played) (count : ℕ) (r : M.Run) : Type 0 where
  pub number : count ≡ p.count
  pub run : r ≡ p.run
  pub few : count ≤ 1_000_000
