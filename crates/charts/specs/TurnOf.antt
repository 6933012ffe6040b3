-- What turns and cycles answer, as outcomes of the model's calls. Assumes nothing: these are definitions.
use Rattle.std.specs.Prelude.{ℕ, ◌≤◌, ◌<◌}
use Rattle.model.specs.Outcome.{Outcome}
use Rattle.model.specs.Runs as M
use Rattle.answers.specs.Answers.{answer_of, ending_of}
use Rattle.machines.specs.Turns as R
pub use Rattle.machines.specs.Turns.{after, finish}
use Rattle.charts.specs.declared.turns.Turned.{Turned}
use Rattle.charts.specs.declared.cycles.Called.{Called}
use Rattle.chart_runs.specs.RunOf.{run_of}

-- a turn's answer, and the lent run afterwards
abbrev pub turn_of : Turned → Outcome M.Answer M.Run
turn_of t = record { answer = answer_of t.answer; lent = run_of t.run }

abbrev pub called_of : Called → Outcome (Unit {0}) M.Run
called_of t = record { answer = ending_of t.answer; lent = run_of t.run }

-- A run in the midst of a cycle: its position is one of so many charts' or time's, and time can pass.
abbrev pub Ready : ℕ → M.Run → Type 0
Ready charts r = R.Ready charts (λ cycles c age. c < charts → age ≤ cycles) r
