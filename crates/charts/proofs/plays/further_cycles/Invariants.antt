use mathlib.Core.Path.{◌≡◌}
use Prim.Native.Nat.{◌+◌}
use lib.Dec.{T}
use Rattle.model.specs.Runs.{possible}
use Rattle.model.specs.ChartSet.{read_charts}
use Rattle.model.specs.Charts.{charts}
use Rattle.machines.proofs.Playing.{PlayedAfter}
use Rattle.machines.specs.Worlds.{moment, run_in}
use Rattle.charts.proofs.plays.further_cycles.Given as goal

abbrev pub invariant-loop-mask : goal.invariant-loop-mask
invariant-loop-mask l = PlayedAfter (charts (read_charts l.s)) l.masks (run_in l.initial.states l.initial.ages l.initial.vars 0 (moment 1 l.cycles)) l.mask-index (run_in l.states l.ages l.vars 0 (moment 1 l.done))
    × (l.done ≡ l.cycles + l.mask-index)
    × T (possible (charts (read_charts l.s)) (run_in l.states l.ages l.vars 0 (moment 1 l.done)))
