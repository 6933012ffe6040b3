use Rattle.std.proofs.Common.{rules, tests, refl}
use mathlib.Core.Path.{sym, ◌∙◌}
use Rattle.prelude.proofs.Ranges.{all_upto}
use Rattle.chart_files.specs.Structure.{inside_chart}
use Rattle.chart_files.proofs.StructureFramed.{inside_is}
use Rattle.chart_files.proofs.structure.inside_charts.Goals as goal

pub returns : goal.returns
returns c =
    let a = c.args in
    all_upto (inside_chart a.s.now a.shape) a.shape.transitions _ _ _ c.all.ensures.ran refl (λ x b q k. search (rules, tests)) ∙ sym (inside_is a.s.now a.shape c.requires)
