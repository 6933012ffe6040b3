use mathlib.Core.Path.{◌≡◌}
use Prim.Native.Nat.{◌+◌, ◌-◌}
use Rattle.model.specs.Runs.{cycle}
use Rattle.model.specs.ChartSet.{read_charts}
use Rattle.model.specs.Charts.{charts}
use Rattle.chart_runs.specs.RunOf.{run_of}
use Rattle.charts.proofs.cycles.cycle_by_turns.Given as goal

abbrev pub invariant-loop-present : goal.invariant-loop-present
invariant-loop-present l = cycle (charts (read_charts l.s)) l.events (run_of l.run) ≡ cycle (charts (read_charts l.s)) l.given (run_of l.present)

abbrev pub decreases-loop-present : goal.decreases-loop-present
decreases-loop-present l = l.shape.charts + 2 - l.present.position
