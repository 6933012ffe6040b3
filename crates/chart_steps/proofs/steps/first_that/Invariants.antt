use Rattle.model.specs.ChartSet.{read_charts}
use Rattle.model.specs.Charts.{transition_holds}
use Rattle.machines.specs.Worlds.{bare_world}
use Rattle.chart_steps.proofs.StepOf.{Tried}
use Rattle.chart_steps.proofs.steps.first_that.Given as goal

abbrev pub invariant-loop-j : goal.invariant-loop-j
invariant-loop-j l = Tried (read_charts l.s) l.state (transition_holds (read_charts l.s) (bare_world l.vars l.events) l.age) l.j
