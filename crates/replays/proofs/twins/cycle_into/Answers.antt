use mathlib.Core.Path.{ap, ◌∙◌}
use Prim.Native.Nat.{◌≤◌}
use native.Mathlib.Omega.{arith}
use Rattle.records.specs.RefusalOf.{refusal_of}
use Rattle.model.specs.Runs.{Machine, parts}
use Rattle.model.specs.AutomataTable.{read_automata}
use Rattle.model.specs.Automata.{automata}
use Rattle.model.proofs.ChecksKept.{Steady}
use Rattle.model.proofs.ChecksKeptBySteps.{steady-automata, sound-table}
use Rattle.answers.specs.Answers.{reason_of, answer_of}
use Rattle.automata_records.proofs.PlacesRead.{most-automata, most-variables, length-initial, length-variables}
use Rattle.automata.specs.RunOf.{run_of}
use Rattle.automata.specs.TurnOf.{turn_of}
use Rattle.charts.proofs.TurnOfCycle.{part-turn}
use Rattle.replays.proofs.Lines.{part-place, underway-next, finished, failed}
use Rattle.replays.proofs.twins.cycle_into.Goals as goal

pub tell-size-requires : goal.tell-size-requires
tell-size-requires c =
    let m : Machine = automata (read_automata c.args.s.now) in
    let steady : Steady m = steady-automata (read_automata c.args.s.now) (sound-table c.args.s.now c.requires.accepted.unrefused) in
    let l = c.loop-locations in
    let x = turn_of c.turn-turned.result in
    let few : parts m ≤ 8 = omega (arith, most-automata c.args.s.now c.args.shape c.requires.accepted.shape, length-initial c.args.s.now c.args.shape c.requires.accepted.shape) in
    let p = part-turn c.turn-turned.result.answer c.in-Taken.is in
    let h = part-place m steady l.given (run_of l.present) x c.turn-turned.ensures p.answer p.is p.not_time in
    (omega (arith, l.invariant.0.room), omega (arith, h.0, h.1, few), most-variables c.args.s.now c.args.shape c.requires.accepted.shape)

pub loop-locations-smaller : goal.loop-locations-smaller
loop-locations-smaller c =
    let m : Machine = automata (read_automata c.args.s.now) in
    let steady : Steady m = steady-automata (read_automata c.args.s.now) (sound-table c.args.s.now c.requires.accepted.unrefused) in
    let l = c.loop-locations in
    let x = turn_of c.turn-turned.result in
    let p = part-turn c.turn-turned.result.answer c.in-Taken.is in
    let h = part-place m steady l.given (run_of l.present) x c.turn-turned.ensures p.answer p.is p.not_time in
    omega (arith, h.1, h.2)

pub loop-locations-preserved : goal.loop-locations-preserved
loop-locations-preserved c =
    let m : Machine = automata (read_automata c.args.s.now) in
    let steady : Steady m = steady-automata (read_automata c.args.s.now) (sound-table c.args.s.now c.requires.accepted.unrefused) in
    let l = c.loop-locations in
    let x = turn_of c.turn-turned.result in
    let few : parts m ≤ 8 = omega (arith, most-automata c.args.s.now c.args.shape c.requires.accepted.shape, length-initial c.args.s.now c.args.shape c.requires.accepted.shape) in
    let p = part-turn c.turn-turned.result.answer c.in-Taken.is in (
      underway-next m steady l.given (run_of l.present) x c.turn-turned.ensures l.invariant.0 p.answer p.is p.not_time c.tell-size.new.out c.tell-size.result c.args.shape.variables few (length-variables c.args.s.now c.args.shape c.requires.accepted.shape) c.tell-size.ensures,
      c.tell-size.auto.out ∙ l.invariant.1,
    )

pub returns-in-Time-clause-begins : goal.returns-in-Time-clause-begins
returns-in-Time-clause-begins c =
    let m : Machine = automata (read_automata c.args.s.now) in
    let steady : Steady m = steady-automata (read_automata c.args.s.now) (sound-table c.args.s.now c.requires.accepted.unrefused) in
    let l = c.loop-locations in
    let x = turn_of c.turn-turned.result in
    let h = finished m steady l.given (run_of l.present) x c.turn-turned.ensures l.invariant.0 (ap answer_of c.in-Time.is) in
    rw c.ended.ensures h.0

pub returns-in-Time-clause-size_bound : goal.returns-in-Time-clause-size_bound
returns-in-Time-clause-size_bound c =
    let m : Machine = automata (read_automata c.args.s.now) in
    let steady : Steady m = steady-automata (read_automata c.args.s.now) (sound-table c.args.s.now c.requires.accepted.unrefused) in
    let l = c.loop-locations in
    let x = turn_of c.turn-turned.result in
    let h = finished m steady l.given (run_of l.present) x c.turn-turned.ensures l.invariant.0 (ap answer_of c.in-Time.is) in
    rw c.ended.ensures h.1.0

pub returns-in-Time-clause-result_value : goal.returns-in-Time-clause-result_value
returns-in-Time-clause-result_value c =
    let m : Machine = automata (read_automata c.args.s.now) in
    let steady : Steady m = steady-automata (read_automata c.args.s.now) (sound-table c.args.s.now c.requires.accepted.unrefused) in
    let l = c.loop-locations in
    let x = turn_of c.turn-turned.result in
    let h = finished m steady l.given (run_of l.present) x c.turn-turned.ensures l.invariant.0 (ap answer_of c.in-Time.is) in
    rw c.ended.ensures h.1.1

pub returns-in-Fault-clause-begins : goal.returns-in-Fault-clause-begins
returns-in-Fault-clause-begins c =
    let m : Machine = automata (read_automata c.args.s.now) in
    let steady : Steady m = steady-automata (read_automata c.args.s.now) (sound-table c.args.s.now c.requires.accepted.unrefused) in
    let l = c.loop-locations in
    let x = turn_of c.turn-turned.result in
    let h = failed m steady l.given (run_of l.present) x c.turn-turned.ensures l.invariant.0 (reason_of c.in-Fault.w) (ap answer_of c.in-Fault.is) in
    rw c.ended-in-Fault.ensures h.0

pub returns-in-Fault-clause-size_bound : goal.returns-in-Fault-clause-size_bound
returns-in-Fault-clause-size_bound c =
    let m : Machine = automata (read_automata c.args.s.now) in
    let steady : Steady m = steady-automata (read_automata c.args.s.now) (sound-table c.args.s.now c.requires.accepted.unrefused) in
    let l = c.loop-locations in
    let x = turn_of c.turn-turned.result in
    let h = failed m steady l.given (run_of l.present) x c.turn-turned.ensures l.invariant.0 (reason_of c.in-Fault.w) (ap answer_of c.in-Fault.is) in
    rw c.ended-in-Fault.ensures h.1.0

pub returns-in-Fault-clause-result_value : goal.returns-in-Fault-clause-result_value
returns-in-Fault-clause-result_value c =
    let m : Machine = automata (read_automata c.args.s.now) in
    let steady : Steady m = steady-automata (read_automata c.args.s.now) (sound-table c.args.s.now c.requires.accepted.unrefused) in
    let l = c.loop-locations in
    let x = turn_of c.turn-turned.result in
    let h = failed m steady l.given (run_of l.present) x c.turn-turned.ensures l.invariant.0 (reason_of c.in-Fault.w) (ap answer_of c.in-Fault.is) in
    rw c.ended-in-Fault.ensures h.1.1

pub returns-in-Refused-clause-begins : goal.returns-in-Refused-clause-begins
returns-in-Refused-clause-begins c =
    let m : Machine = automata (read_automata c.args.s.now) in
    let steady : Steady m = steady-automata (read_automata c.args.s.now) (sound-table c.args.s.now c.requires.accepted.unrefused) in
    let l = c.loop-locations in
    let x = turn_of c.turn-turned.result in
    let h = failed m steady l.given (run_of l.present) x c.turn-turned.ensures l.invariant.0 (refusal_of c.in-Refused.w) (ap answer_of c.in-Refused.is) in
    rw c.ended-in-Refused.ensures h.0

pub returns-in-Refused-clause-size_bound : goal.returns-in-Refused-clause-size_bound
returns-in-Refused-clause-size_bound c =
    let m : Machine = automata (read_automata c.args.s.now) in
    let steady : Steady m = steady-automata (read_automata c.args.s.now) (sound-table c.args.s.now c.requires.accepted.unrefused) in
    let l = c.loop-locations in
    let x = turn_of c.turn-turned.result in
    let h = failed m steady l.given (run_of l.present) x c.turn-turned.ensures l.invariant.0 (refusal_of c.in-Refused.w) (ap answer_of c.in-Refused.is) in
    rw c.ended-in-Refused.ensures h.1.0

pub returns-in-Refused-clause-result_value : goal.returns-in-Refused-clause-result_value
returns-in-Refused-clause-result_value c =
    let m : Machine = automata (read_automata c.args.s.now) in
    let steady : Steady m = steady-automata (read_automata c.args.s.now) (sound-table c.args.s.now c.requires.accepted.unrefused) in
    let l = c.loop-locations in
    let x = turn_of c.turn-turned.result in
    let h = failed m steady l.given (run_of l.present) x c.turn-turned.ensures l.invariant.0 (refusal_of c.in-Refused.w) (ap answer_of c.in-Refused.is) in
    rw c.ended-in-Refused.ensures h.1.1
