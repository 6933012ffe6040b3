use mathlib.Core.Path.{sym, ap, ◌∙◌}
use native.Mathlib.Omega.{arith}
use Rattle.records.specs.Refusal.{val}
use Rattle.model.specs.Outcome.{settled}
use Rattle.model.specs.Runs.{time}
use Rattle.model.specs.ChartSet.{read_charts}
use Rattle.model.specs.Charts.{charts}
use Rattle.chart_records.proofs.PlacesRead.{length-initial, most-charts}
use Rattle.chart_runs.specs.RunOf.{run_of}
use Rattle.machines.proofs.Turns.{at-time}
use Rattle.charts.proofs.turns.turn_taken.Goals as goal

pub returns-else-run-shape : goal.returns-else-run-shape
returns-else-run-shape c =
    let s = c.args.s.now in
    let is = c.requires.prepared.accepted.shape in
    ap (λ q. record { answer = val time; lent = q }) (c.time_passed-run.ensures (read_charts s) (length-initial s c.args.shape is))
    ∙ sym (ap (settled (run_of c.args.lent)) (at-time (charts (read_charts s)) c.args.shape.charts (length-initial s c.args.shape is) (run_of c.args.run) (omega arith)))

pub time_passed-run-requires-clause-charts_le_most_charts :
    goal.time_passed-run-requires-clause-charts_le_most_charts
time_passed-run-requires-clause-charts_le_most_charts c =
    most-charts c.args.s.now c.args.shape c.requires.prepared.accepted.shape
