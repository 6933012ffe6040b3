use mathlib.Core.Path.{sym, ap, ◌∙◌}
use mathlib.Core.Bool.{cond}
use native.Mathlib.Omega.{arith}
use Rattle.prelude.specs.Owned.{of}
use Rattle.records.specs.Refusal.{val}
use Rattle.model.specs.Runs.{actions}
use Rattle.model.specs.ChartSet.{read_charts}
use Rattle.chart_records.proofs.PlacesRead.{most-states}
use Rattle.machines.specs.Worlds.{world_in}
use Rattle.chart_steps.proofs.Waiting.{waited-by-keys}
use Rattle.chart_steps.proofs.steps.wait.Goals as goal

pub overflow_add-state : goal.overflow_add-state
overflow_add-state c = omega (arith, c.is_due.ensures.1 c.if-is_due.true, most-states c.args.s.now c.args.shape c.requires.accepted.shape)

pub do_deeds-requires : goal.do_deeds-requires
do_deeds-requires c =
    (c.requires.accepted, c.requires.has_actions, omega (arith, c.is_due.ensures.1 c.if-is_due.true, most-states c.args.s.now c.args.shape c.requires.accepted.shape), omega arith, omega arith)

pub returns-then-is_due : goal.returns-then-is_due
returns-then-is_due c = (
  λ m.
      let x = c.args in
      let w = world_in x.vars.now x.events m in
      c.do_deeds.ensures.0 m
      ∙ sym (waited-by-keys x.s.now x.shape c.requires.accepted x.state (omega (arith, c.is_due.ensures.1 c.if-is_due.true, most-states x.s.now x.shape c.requires.accepted.shape)) w)
      ∙ ap (λ b. cond b (actions (read_charts x.s.now).nodes (read_charts x.s.now).variables (of x.state (read_charts x.s.now).waiting_actions) w) (val w)) (sym c.if-is_due.true ∙ c.is_due.ensures.0),
  c.do_deeds.ensures.1,
)
