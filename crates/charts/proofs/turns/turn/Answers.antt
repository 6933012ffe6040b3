use mathlib.Core.Path.{◌≡◌, sym, ap, ◌∙◌, subst}
use Rattle.records.specs.Refusal.{val}
use Rattle.model.specs.Runs.{checked}
use Rattle.model.specs.ChartSet.{read_charts}
use Rattle.model.specs.Charts.{charts}
use Rattle.machines.specs.Checks.{before_of}
use Rattle.chart_runs.specs.RunOf.{run_of}
use Rattle.charts.specs.TurnOf.{Ready}
use Rattle.charts.proofs.TurnOf.{ready}
use Rattle.charts.proofs.turns.turn.Goals as goal

pub turn_taken-requires-clause-ready : goal.turn_taken-requires-clause-ready
turn_taken-requires-clause-ready c =
    let passed : checked (charts (read_charts c.args.s.now)) c.args.events (run_of c.args.run) ≡ val tt = sym c.before_turn.ensures ∙ ap before_of c.in-Ok.is in
    subst (Ready c.args.shape.charts) (sym c.give-given.ensures) (ready c.args.s.now c.args.shape c.requires.accepted.shape c.args.events (run_of c.args.run) passed)
