use mathlib.Core.Path.{refl, sym}
use Prim.Native.Nat.{◌+◌}
use Rattle.machines.specs.Worlds.{moment, run_in}
use Rattle.charts.proofs.TurnOf.{ready}
use Rattle.charts.proofs.PlayedOf.{by_turns, cycle-failed}
use Rattle.charts.proofs.plays.cycle_or_none.Goals as goal

pub cycle_or_fault-done-requires : goal.cycle_or_fault-done-requires
cycle_or_fault-done-requires c =
    let x = c.args in
    (c.requires.0, ready x.s.now x.shape c.requires.0.accepted.shape x.events (run_in x.states.now x.ages.now x.vars.now 0 (moment 1 x.cycles)) c.requires.1)

pub returns-then-is_err-clause-cycles_after : goal.returns-then-is_err-clause-cycles_after
returns-then-is_err-clause-cycles_after c =
    let x = c.args in
    let f = c.cycle_or_fault-done in
    sym
    (cycle-failed x.s.now x.shape c.requires.0.accepted.shape x.events (run_in x.states.now x.ages.now x.vars.now 0 (moment 1 x.cycles)) (run_in x.states.now x.ages.now x.vars.now x.events (moment 1 x.cycles)) (run_in f.new.states f.new.ages f.new.vars 0 (moment 1 (x.cycles + 1))) c.requires.1 refl
    f.result f.ensures (run_in x.states.now x.ages.now x.vars.now 0 (moment 1 (x.cycles + 1))) (sym c.if-is_err.ensures.value))

pub returns-else-is_err-clause-cycles_after : goal.returns-else-is_err-clause-cycles_after
returns-else-is_err-clause-cycles_after c =
    let x = c.args in
    let f = c.cycle_or_fault-done in
    sym
    (by_turns x.s.now x.shape c.requires.0.accepted.shape x.events (run_in x.states.now x.ages.now x.vars.now 0 (moment 1 x.cycles)) (run_in x.states.now x.ages.now x.vars.now x.events (moment 1 x.cycles)) (run_in f.new.states f.new.ages f.new.vars 0 (moment 1 (x.cycles + 1))) c.requires.1 refl
    f.result f.ensures)
