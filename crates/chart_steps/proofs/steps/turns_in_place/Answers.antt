use Prim.Native.Nat.{◌-◌}
use native.Mathlib.Omega.{arith}
use Rattle.model.specs.ChartSet.{read_charts}
use Rattle.chart_steps.specs.StepOf.{answer_by}
use Rattle.chart_steps.proofs.StepOfTurns.{left-more, left-fault, left-none}
use Rattle.machines.specs.Worlds.{onward}
use Rattle.machines.proofs.WorldsCodes.{is_code}
use Rattle.chart_steps.proofs.steps.turns_in_place.Goals as goal

pub returns-then-after-gt4294967295 : goal.returns-then-after-gt4294967295
returns-then-after-gt4294967295 c = (
  λ m.
      let x = c.args in
      let l = c.loop-chart in
      let f = c.step_in_place-after in
      let more = c.loop-chart-test.true in
      left-fault (read_charts x.s.now) x.from x.to (answer_by x.chosen.now) x.states.now x.ages.now x.vars.now x.events l.chart (answer_by l.chosen) l.states l.ages l.vars l.present l.invariant.1
      f.result (answer_by f.new.chosen) f.new.states f.new.ages f.new.vars f.ensures.0 more c.if-after-gt4294967295.true m (onward (x.to - x.from) m),
  c.step_in_place-after.ensures.1,
)

pub loop-chart-preserved : goal.loop-chart-preserved
loop-chart-preserved c =
    let x = c.args in
    let l = c.loop-chart in
    let f = c.step_in_place-after in
    let more = c.loop-chart-test.true in
    let fine = c.if-after-gt4294967295.false in
    (fine, left-more (read_charts x.s.now) x.from x.to (answer_by x.chosen.now) x.states.now x.ages.now x.vars.now x.events l.chart (answer_by l.chosen) l.states l.ages l.vars l.present l.invariant.1 f.result (answer_by f.new.chosen) f.new.states f.new.ages f.new.vars f.ensures.0 more (omega arith) fine)

pub returns : goal.returns
returns c =
    let x = c.args in
    let l = c.loop-chart in
    let past = c.loop-chart-test.false in
    (left-none (read_charts x.s.now) x.from x.to (answer_by x.chosen.now) x.states.now x.ages.now x.vars.now x.events l.chart (answer_by l.chosen) l.states l.ages l.vars l.present l.invariant.1 (omega (arith, past)) l.invariant.0, is_code l.present l.invariant.0)
