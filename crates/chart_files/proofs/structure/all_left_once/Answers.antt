use Rattle.std.proofs.Common.{rules, tests, refl}
use Rattle.prelude.proofs.Ranges.{all_upto}
use Rattle.chart_files.specs.Structure.{left_once}
use Rattle.chart_files.proofs.structure.all_left_once.Goals as goal

pub returns : goal.returns
returns c =
    let a = c.args in
    all_upto (left_once a.s.now a.shape a.left.now) a.shape.charts _ _ _ c.all.ensures.ran refl (λ x b q k. search (rules, tests))
