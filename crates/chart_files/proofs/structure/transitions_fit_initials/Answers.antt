use Rattle.std.proofs.Common.{rules, tests, refl}
use Rattle.prelude.proofs.Ranges.{all_upto}
use Rattle.chart_files.specs.Structure.{transition_fits_initials}
use Rattle.chart_files.proofs.structure.transitions_fit_initials.Goals as goal

pub returns : goal.returns
returns c =
    let a = c.args in
    all_upto (transition_fits_initials a.s.now a.shape a.initial.now) a.shape.transitions _ _ _ c.all.ensures.ran refl (λ x b q k. search (rules, tests))
