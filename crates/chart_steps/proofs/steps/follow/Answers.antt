use mathlib.Core.Path.{refl, sym, ap, ◌∙◌}
use Rattle.model.specs.Runs.{taken}
use Rattle.model.specs.ChartSet.{read_charts}
use Rattle.chart_records.proofs.PlacesRead.{transition-is}
use Rattle.machines.specs.Worlds.{world_in, run_in}
use Rattle.machines.proofs.WorldsCodes.{world-value}
use Rattle.chart_steps.specs.StepOf.{entered}
use Rattle.chart_steps.proofs.StepOf.{follow-taken, moved_value}
use Rattle.chart_steps.proofs.steps.follow.Goals as goal

pub returns : goal.returns
returns c = (
  λ m.
      let x = c.args in
      let f = c.do_actions-after in
      let fine = c.if-after-gt4294967295.false in
      let w = world_in f.new.vars f.result m in
      let r = run_in x.states.now x.ages.now x.vars.now x.events m in
      moved_value f.result (taken x.t) (entered r x.chart c.target_of.result w).at (entered r x.chart c.target_of.result w).timers f.new.vars m fine
      ∙ follow-taken (read_charts x.s.now) x.chart r x.t w
      (sym (world-value f.result f.new.vars m fine) ∙ f.ensures.0 m)
      c.target_of.result (c.target_of.ensures ∙ sym (ap (λ u. u.target) (transition-is x.s.now x.shape c.requires.0.accepted.shape x.t c.requires.2)))
      (entered r x.chart c.target_of.result w) refl,
  c.do_actions-after.ensures.1,
)
