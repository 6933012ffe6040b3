use Rattle.std.proofs.Common.{rules, tests, refl}
use Rattle.prelude.proofs.Ranges.{all_upto}
use Rattle.chart_checks.specs.Names.{transition_named}
use Rattle.chart_checks.proofs.names.transitions_named.Goals as goal

pub returns : goal.returns
returns c =
    let a = c.args in
    all_upto (transition_named a.s.now a.shape) a.shape.transitions _ _ _ c.all.ensures.ran refl (λ x b q k. search (rules, tests))
