use mathlib.Core.Path.{sym}
use Rattle.std.proofs.lemmas.Result.{err_from_is_err_and}
use Rattle.chart_files.proofs.ShapeChecked.{refused-framing, refused}
use Rattle.chart_files.proofs.check.Goals as goal

pub returns-in_err-shape_of : goal.returns-in_err-shape_of
returns-in_err-shape_of c =
    let s = c.args.s.now in
    let w = c.in_err-shape_of.field-0.0 in
    let same = err_from_is_err_and c.from_residual.result c.from_residual.ensures.1 in
    rw (same.1, same.2) (refused s w (refused-framing s (sym c.in_err-shape_of.ensures.answer)))
