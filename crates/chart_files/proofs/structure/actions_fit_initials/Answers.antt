use Rattle.std.proofs.Common.{rules, tests, refl}
use Rattle.prelude.proofs.Ranges.{all_upto}
use Rattle.chart_files.specs.Structure.{action_fits_initials}
use Rattle.chart_files.proofs.structure.actions_fit_initials.Goals as goal

pub returns : goal.returns
returns c =
    let a = c.args in
    all_upto (action_fits_initials a.s.now a.shape a.initial.now) a.shape.actions _ _ _ c.all.ensures.ran refl (λ x b q k. search (rules, tests))
