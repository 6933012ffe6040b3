use Rattle.std.proofs.Common.{rules, tests, refl}
use Rattle.prelude.proofs.Ranges.{all_upto}
use Rattle.chart_checks.specs.Names.{action_named}
use Rattle.chart_checks.proofs.names.actions_named.Goals as goal

pub returns : goal.returns
returns c =
    let a = c.args in
    all_upto (action_named a.s.now a.shape) a.shape.actions _ _ _ c.all.ensures.ran refl (λ x b q k. search (rules, tests))
