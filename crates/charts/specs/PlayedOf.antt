-- What the code answers of many cycles, as the outcome of the call. Assumes nothing: these are definitions.
use Rattle.std.specs.Prelude.{ℕ}
use Rattle.model.specs.Outcome.{Outcome}
use Rattle.model.specs.Runs as M
use Rattle.charts.specs.declared.plays.Played.{Played}
use Rattle.answers.specs.Answers.{cycles_of}
use Rattle.chart_runs.specs.RunOf.{run_of}

-- the count, or why not even the first cycle was done, and the lent run afterwards
abbrev pub played_of : Played → Outcome ℕ M.Run
played_of p = record { answer = cycles_of p.answer; lent = run_of p.run }
