use mathlib.Core.Path.{sym, ap, ◌∙◌}
use Prim.Native.Nat.{◌-◌}
use Rattle.model.specs.Outcome.{settled}
use Rattle.model.specs.ChartSet.{read_charts}
use Rattle.model.specs.Charts.{charts}
use Rattle.chart_records.proofs.PlacesRead.{length-initial}
use Rattle.machines.proofs.Turns.{at_part}
use Rattle.chart_runs.specs.RunOf.{run_of}
use Rattle.std.specs.Prelude.{None}
use Rattle.chart_steps.specs.StepOf.{answer_by}
use Rattle.machines.specs.Worlds.{moment}
use Rattle.chart_steps.proofs.StepOfTurns.{alone-turn}
use Rattle.charts.proofs.turns.chart_turn.Goals as goal

pub returns : goal.returns
returns c =
    let x = c.args in
    c.chart_turned.ensures
    ∙ ap (settled (run_of x.lent))
    (alone-turn (read_charts x.s.now) (x.run.position - 1) (answer_by None) (run_of x.run) c.turns_in_place-after.result (answer_by c.turns_in_place-after.new.chosen) c.turns_in_place-after.new.states c.turns_in_place-after.new.ages c.turns_in_place-after.new.vars (moment x.run.position x.run.cycles) (c.turns_in_place-after.ensures.0 (moment x.run.position x.run.cycles))
    ∙ sym (at_part (charts (read_charts x.s.now)) x.shape.charts (length-initial x.s.now x.shape c.requires.prepared.accepted.shape) (run_of x.run) c.requires.position_le_charts))
