use mathlib.Core.Path.{◌≡◌}
use Prim.Native.Nat.{◌+◌, ◌-◌}
use lib.ListN.{length}
use Rattle.model.specs.Runs.{parts}
use Rattle.model.specs.ChartSet.{read_charts}
use Rattle.model.specs.Charts.{charts}
use Rattle.chart_runs.specs.RunOf.{run_of}
use Rattle.replays.proofs.Lines.{Underway}
use Rattle.replays.proofs.sets.cycle_into.Given as goal

abbrev pub invariant-loop-states : goal.invariant-loop-states
invariant-loop-states l = Underway (charts (read_charts l.s)) l.initial.out l.events (run_of l.run) l.out l.size l.given (run_of l.present) × (length l.out ≡ length l.initial.out)

abbrev pub decreases-loop-states : goal.decreases-loop-states
decreases-loop-states l = parts (charts (read_charts l.s)) + 2 - l.present.position
