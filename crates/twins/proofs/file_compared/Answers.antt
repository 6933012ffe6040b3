use Rattle.twins.specs.Compared.{moved_both, compared}
use Rattle.chart_files.proofs.AcceptedByCheck.{accepted-of, refused-of}
use Rattle.model.specs.Translation.{twin_bytes, written, translate}
use Rattle.model.specs.Outcome.{settled}
use Rattle.records.specs.RefusalOf.{refusal_of}
use Rattle.records.specs.Refusal.{fault, unless_refused}
use mathlib.Core.Path.{◌≡◌, sym, ap, ◌∙◌}
use Rattle.twins.proofs.file_compared.Goals as goal

pub set_compared-requires : goal.set_compared-requires
set_compared-requires c =
    accepted-of c.args.s.now _ c.check.ensures c.in-Ok.shape c.in-Ok.is

pub returns-in-Err : goal.returns-in-Err
returns-in-Err c =
    let s = c.args.s.now in
    let buffer = c.args.twin.now in
    let e : translate s buffer ≡ settled buffer (fault (refusal_of c.in-Err.w)) = ap (λ o. settled buffer (unless_refused o (written (twin_bytes s) buffer))) (refused-of s _ c.check.ensures c.in-Err.w c.in-Err.is) in
    let both = moved_both s (twin_bytes s) c.args.masks.now c.args.plays c.args.kinds.now in
    (c.nothing_compared.ensures ∙ sym (ap (λ z. compared z.answer both) e), sym (ap (λ z. z.lent) e))
