use Prim.Native.Nat.{◌≤◌}
use Rattle.model.specs.ChartSet.{read_charts}
use Rattle.chart_steps.specs.StepOf.{answer_by}
use Rattle.chart_steps.proofs.StepOfTurns.{LeftTurns}
use Rattle.chart_steps.proofs.steps.turns_in_place.Given as goal

abbrev pub invariant-loop-chart : goal.invariant-loop-chart
invariant-loop-chart l = (l.present ≤ 4_294_967_295) × LeftTurns (read_charts l.s) l.from l.to (answer_by l.initial.chosen) l.initial.states l.initial.ages l.initial.vars l.events l.chart (answer_by l.chosen) l.states l.ages l.vars l.present
