use Prim.Native.Nat.{◌+◌, ◌-◌}
use Rattle.machines.specs.Worlds.{moment, run_in}
use Rattle.std.specs.Prelude.{None}
use Rattle.chart_steps.specs.StepOf.{answer_by}
use Rattle.chart_records.proofs.PlacesRead.{most-charts}
use Rattle.charts.proofs.TurnOfEnd.{cycle-young, cycle-closed}
use Rattle.charts.proofs.plays.cycle_or_fault.Goals as goal

pub time_after-requires : goal.time_after-requires
time_after-requires c =
    let x = c.args in
    (most-charts x.s.now x.shape c.requires.0.accepted.shape, cycle-young x.s.now x.shape c.requires.0.accepted.shape (answer_by None) (run_in x.states.now x.ages.now x.vars.now x.events (moment x.position x.cycles)) c.requires.1 c.turns_in_place-after.result (answer_by c.turns_in_place-after.new.chosen) c.turns_in_place-after.new.states c.turns_in_place-after.new.ages c.turns_in_place-after.new.vars (moment (x.position + (x.shape.charts - (x.position - 1))) x.cycles) (c.turns_in_place-after.ensures.0 (moment x.position x.cycles)))

pub returns : goal.returns
returns c =
    let x = c.args in
    cycle-closed x.s.now x.shape c.requires.0.accepted.shape (answer_by None) (run_in x.states.now x.ages.now x.vars.now x.events (moment x.position x.cycles)) c.requires.1 c.turns_in_place-after.result (answer_by c.turns_in_place-after.new.chosen) c.turns_in_place-after.new.states c.turns_in_place-after.new.ages c.turns_in_place-after.new.vars (moment (x.position + (x.shape.charts - (x.position - 1))) x.cycles) (c.turns_in_place-after.ensures.0 (moment x.position x.cycles)) c.time_after.result c.time_after.new.ages c.time_after.ensures.0 c.time_after.ensures.1
