use mathlib.Core.Path.{sym, ◌∙◌}
use Rattle.std.proofs.lemmas.Result.{err_from_is_err_and}
use Rattle.automata_files.proofs.ChecksFramed.{refused-framing, refused, accepted}
use Rattle.automata_files.proofs.check.Goals as goal

pub returns-in_err-shape : goal.returns-in_err-shape
returns-in_err-shape c =
    let same = err_from_is_err_and c.from_residual.result c.from_residual.ensures.1 in
    rw (same.1, same.2) (refused-framing c.args.s.now c.in_err-shape.field-0.0 (sym c.in_err-shape.ensures.answer))

pub returns-then-passes : goal.returns-then-passes
returns-then-passes c =
    accepted c.args.s.now _ (c.shape_of.ensures.shape _ c.in_ok-shape.was) (sym c.passes.ensures ∙ c.if-passes.true)

pub returns-else-passes : goal.returns-else-passes
returns-else-passes c =
    refused c.args.s.now _ (c.shape_of.ensures.shape _ c.in_ok-shape.was) (sym c.passes.ensures ∙ c.if-passes.false)
