use mathlib.Core.Path.{ap, ◌∙◌, subst}
use Prim.Native.Nat.{◌≤◌}
use native.Mathlib.Omega.{arith}
use Rattle.records.specs.RefusalOf.{refusal_of}
use Rattle.records.specs.Wrote.{Begins}
use Rattle.model.specs.Runs.{Machine, parts, whole_cycle, trace}
use Rattle.model.specs.ChartSet.{read_charts}
use Rattle.model.specs.Charts.{charts}
use Rattle.model.proofs.ChecksKept.{Steady}
use Rattle.model.proofs.ChecksKeptBySteps.{steady-charts}
use Rattle.model.proofs.ChartFileSound.{sound}
use Rattle.answers.specs.Answers.{reason_of, answer_of}
use Rattle.chart_records.proofs.PlacesRead.{most-charts, most-variables, length-initial, length-variables}
use Rattle.chart_runs.specs.RunOf.{run_of}
use Rattle.charts.specs.TurnOf.{turn_of}
use Rattle.charts.proofs.TurnOfCycle.{part-turn}
use Rattle.lines.proofs.Texts.{trace-text}
use Rattle.replays.proofs.Lines.{part-place, underway-next, finished, failed}
use Rattle.replays.proofs.sets.cycle_into.Goals as goal

pub tell-size-requires : goal.tell-size-requires
tell-size-requires c =
    let m : Machine = charts (read_charts c.args.s.now) in
    let steady : Steady m = steady-charts (read_charts c.args.s.now) (sound c.args.s.now c.requires.accepted.unrefused) in
    let l = c.loop-states in
    let x = turn_of c.turn-turned.result in
    let few : parts m ≤ 8 = omega (arith, most-charts c.args.s.now c.args.shape c.requires.accepted.shape, length-initial c.args.s.now c.args.shape c.requires.accepted.shape) in
    let p = part-turn c.turn-turned.result.answer c.in-Taken.is in
    let h = part-place m steady l.given (run_of l.present) x c.turn-turned.ensures p.answer p.is p.not_time in
    (omega (arith, l.invariant.0.room), omega (arith, h.0, h.1, few), most-variables c.args.s.now c.args.shape c.requires.accepted.shape)

pub loop-states-smaller : goal.loop-states-smaller
loop-states-smaller c =
    let m : Machine = charts (read_charts c.args.s.now) in
    let steady : Steady m = steady-charts (read_charts c.args.s.now) (sound c.args.s.now c.requires.accepted.unrefused) in
    let l = c.loop-states in
    let x = turn_of c.turn-turned.result in
    let p = part-turn c.turn-turned.result.answer c.in-Taken.is in
    let h = part-place m steady l.given (run_of l.present) x c.turn-turned.ensures p.answer p.is p.not_time in
    omega (arith, h.1, h.2)

pub loop-states-preserved : goal.loop-states-preserved
loop-states-preserved c =
    let m : Machine = charts (read_charts c.args.s.now) in
    let steady : Steady m = steady-charts (read_charts c.args.s.now) (sound c.args.s.now c.requires.accepted.unrefused) in
    let l = c.loop-states in
    let x = turn_of c.turn-turned.result in
    let few : parts m ≤ 8 = omega (arith, most-charts c.args.s.now c.args.shape c.requires.accepted.shape, length-initial c.args.s.now c.args.shape c.requires.accepted.shape) in
    let p = part-turn c.turn-turned.result.answer c.in-Taken.is in (
      underway-next m steady l.given (run_of l.present) x c.turn-turned.ensures l.invariant.0 p.answer p.is p.not_time c.tell-size.new.out c.tell-size.result c.args.shape.variables few (length-variables c.args.s.now c.args.shape c.requires.accepted.shape) c.tell-size.ensures,
      c.tell-size.auto.out ∙ l.invariant.1,
    )

pub returns-in-Time-clause-begins : goal.returns-in-Time-clause-begins
returns-in-Time-clause-begins c =
    let m : Machine = charts (read_charts c.args.s.now) in
    let steady : Steady m = steady-charts (read_charts c.args.s.now) (sound c.args.s.now c.requires.accepted.unrefused) in
    let l = c.loop-states in
    let x = turn_of c.turn-turned.result in
    let h = finished m steady l.given (run_of l.present) x c.turn-turned.ensures l.invariant.0 (ap answer_of c.in-Time.is) in
    rw c.ended.ensures (subst (λ t. Begins c.args.out.now t l.out l.size) (trace-text (read_charts c.args.s.now) (trace m (whole_cycle c.args.events) (run_of c.args.run))) h.0)

pub returns-in-Time-clause-size_bound : goal.returns-in-Time-clause-size_bound
returns-in-Time-clause-size_bound c =
    let m : Machine = charts (read_charts c.args.s.now) in
    let steady : Steady m = steady-charts (read_charts c.args.s.now) (sound c.args.s.now c.requires.accepted.unrefused) in
    let l = c.loop-states in
    let x = turn_of c.turn-turned.result in
    let h = finished m steady l.given (run_of l.present) x c.turn-turned.ensures l.invariant.0 (ap answer_of c.in-Time.is) in
    rw c.ended.ensures h.1.0

pub returns-in-Time-clause-result_value : goal.returns-in-Time-clause-result_value
returns-in-Time-clause-result_value c =
    let m : Machine = charts (read_charts c.args.s.now) in
    let steady : Steady m = steady-charts (read_charts c.args.s.now) (sound c.args.s.now c.requires.accepted.unrefused) in
    let l = c.loop-states in
    let x = turn_of c.turn-turned.result in
    let h = finished m steady l.given (run_of l.present) x c.turn-turned.ensures l.invariant.0 (ap answer_of c.in-Time.is) in
    rw c.ended.ensures h.1.1

pub returns-in-Fault-clause-begins : goal.returns-in-Fault-clause-begins
returns-in-Fault-clause-begins c =
    let m : Machine = charts (read_charts c.args.s.now) in
    let steady : Steady m = steady-charts (read_charts c.args.s.now) (sound c.args.s.now c.requires.accepted.unrefused) in
    let l = c.loop-states in
    let x = turn_of c.turn-turned.result in
    let h = failed m steady l.given (run_of l.present) x c.turn-turned.ensures l.invariant.0 (reason_of c.in-Fault.w) (ap answer_of c.in-Fault.is) in
    rw c.ended-in-Fault.ensures (subst (λ t. Begins c.args.out.now t l.out l.size) (trace-text (read_charts c.args.s.now) (trace m (whole_cycle c.args.events) (run_of c.args.run))) h.0)

pub returns-in-Fault-clause-size_bound : goal.returns-in-Fault-clause-size_bound
returns-in-Fault-clause-size_bound c =
    let m : Machine = charts (read_charts c.args.s.now) in
    let steady : Steady m = steady-charts (read_charts c.args.s.now) (sound c.args.s.now c.requires.accepted.unrefused) in
    let l = c.loop-states in
    let x = turn_of c.turn-turned.result in
    let h = failed m steady l.given (run_of l.present) x c.turn-turned.ensures l.invariant.0 (reason_of c.in-Fault.w) (ap answer_of c.in-Fault.is) in
    rw c.ended-in-Fault.ensures h.1.0

pub returns-in-Fault-clause-result_value : goal.returns-in-Fault-clause-result_value
returns-in-Fault-clause-result_value c =
    let m : Machine = charts (read_charts c.args.s.now) in
    let steady : Steady m = steady-charts (read_charts c.args.s.now) (sound c.args.s.now c.requires.accepted.unrefused) in
    let l = c.loop-states in
    let x = turn_of c.turn-turned.result in
    let h = failed m steady l.given (run_of l.present) x c.turn-turned.ensures l.invariant.0 (reason_of c.in-Fault.w) (ap answer_of c.in-Fault.is) in
    rw c.ended-in-Fault.ensures h.1.1

pub returns-in-Refused-clause-begins : goal.returns-in-Refused-clause-begins
returns-in-Refused-clause-begins c =
    let m : Machine = charts (read_charts c.args.s.now) in
    let steady : Steady m = steady-charts (read_charts c.args.s.now) (sound c.args.s.now c.requires.accepted.unrefused) in
    let l = c.loop-states in
    let x = turn_of c.turn-turned.result in
    let h = failed m steady l.given (run_of l.present) x c.turn-turned.ensures l.invariant.0 (refusal_of c.in-Refused.w) (ap answer_of c.in-Refused.is) in
    rw c.ended-in-Refused.ensures (subst (λ t. Begins c.args.out.now t l.out l.size) (trace-text (read_charts c.args.s.now) (trace m (whole_cycle c.args.events) (run_of c.args.run))) h.0)

pub returns-in-Refused-clause-size_bound : goal.returns-in-Refused-clause-size_bound
returns-in-Refused-clause-size_bound c =
    let m : Machine = charts (read_charts c.args.s.now) in
    let steady : Steady m = steady-charts (read_charts c.args.s.now) (sound c.args.s.now c.requires.accepted.unrefused) in
    let l = c.loop-states in
    let x = turn_of c.turn-turned.result in
    let h = failed m steady l.given (run_of l.present) x c.turn-turned.ensures l.invariant.0 (refusal_of c.in-Refused.w) (ap answer_of c.in-Refused.is) in
    rw c.ended-in-Refused.ensures h.1.0

pub returns-in-Refused-clause-result_value : goal.returns-in-Refused-clause-result_value
returns-in-Refused-clause-result_value c =
    let m : Machine = charts (read_charts c.args.s.now) in
    let steady : Steady m = steady-charts (read_charts c.args.s.now) (sound c.args.s.now c.requires.accepted.unrefused) in
    let l = c.loop-states in
    let x = turn_of c.turn-turned.result in
    let h = failed m steady l.given (run_of l.present) x c.turn-turned.ensures l.invariant.0 (refusal_of c.in-Refused.w) (ap answer_of c.in-Refused.is) in
    rw c.ended-in-Refused.ensures h.1.1
