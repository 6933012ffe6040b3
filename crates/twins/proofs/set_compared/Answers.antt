use Rattle.twins.proofs.ComparedCalls.{translated-is, written-length}
use Rattle.twins.specs.Compared.{moved_both, compared}
use Rattle.translation.specs.Answer.{translated_of}
use Rattle.model.proofs.CorrespondenceDemand3.{translated}
use Rattle.model.specs.Translation.{twin_bytes}
use lib.ListN.{length, length-take}
use native.Mathlib.Omega.{arith}
use mathlib.Core.Path.{sym, ap, ◌∙◌}
use Rattle.twins.proofs.set_compared.Goals as goal

pub slice_bounds-twin_compared-end : goal.slice_bounds-twin_compared-end
slice_bounds-twin_compared-end c =
    let s = c.args.s.now in
    let buffer = c.args.twin.now in
    let out = c.translate.new.out in
    let made = sym (ap (λ z. translated_of z out) c.in-Ok.is) ∙ c.translate.ensures in
    let e = written-length (twin_bytes s) buffer c.in-Ok.n out made ∙ sym (ap length (translated s buffer c.in-Ok.n out (sym (sym (ap (λ z. translated_of z out) c.in-Ok.is) ∙ translated-is s buffer c.translate.result out c.requires.unrefused c.translate.ensures))).1) in
    omega (arith, e, length-take c.in-Ok.n out)

pub slice_bounds-twin_compared-end-in-Ok : goal.slice_bounds-twin_compared-end-in-Ok
slice_bounds-twin_compared-end-in-Ok c =
    let s = c.args.s.now in
    let buffer = c.args.twin.now in
    let out = c.translate.new.out in
    let made = sym (ap (λ z. translated_of z out) c.in-Ok.is) ∙ c.translate.ensures in
    written-length (twin_bytes s) buffer c.in-Ok.n out made
    ∙ sym (ap length (translated s buffer c.in-Ok.n out (sym (sym (ap (λ z. translated_of z out) c.in-Ok.is) ∙ translated-is s buffer c.translate.result out c.requires.unrefused c.translate.ensures))).1)

pub twin_compared-requires : goal.twin_compared-requires
twin_compared-requires c =
    let s = c.args.s.now in
    let buffer = c.args.twin.now in
    let out = c.translate.new.out in
    let made = sym (ap (λ z. translated_of z out) c.in-Ok.is) ∙ c.translate.ensures in
    (c.requires, (translated s buffer c.in-Ok.n out (sym (sym (ap (λ z. translated_of z out) c.in-Ok.is) ∙ translated-is s buffer c.translate.result out c.requires.unrefused c.translate.ensures))).1)

pub returns-in-Err : goal.returns-in-Err
returns-in-Err c =
    let s = c.args.s.now in
    let buffer = c.args.twin.now in
    let out = c.translate.new.out in
    let made = sym (ap (λ z. translated_of z out) c.in-Err.is) ∙ c.translate.ensures in
    let e = sym (ap (λ z. translated_of z out) c.in-Err.is) ∙ translated-is s buffer c.translate.result out c.requires.unrefused c.translate.ensures in
    let both = moved_both s (twin_bytes s) c.args.masks.now c.args.plays c.args.kinds.now in
    (c.nothing_compared.ensures ∙ ap (λ z. compared z.answer both) e, ap (λ z. z.lent) e)

pub returns-in-Ok : goal.returns-in-Ok
returns-in-Ok c =
    let s = c.args.s.now in
    let buffer = c.args.twin.now in
    let out = c.translate.new.out in
    let made = sym (ap (λ z. translated_of z out) c.in-Ok.is) ∙ c.translate.ensures in
    let e = sym (ap (λ z. translated_of z out) c.in-Ok.is) ∙ translated-is s buffer c.translate.result out c.requires.unrefused c.translate.ensures in
    let whole = (translated s buffer c.in-Ok.n out (sym e)).1 in
    (c.twin_compared.ensures ∙ ap (λ z. moved_both s z c.args.masks.now c.args.plays c.args.kinds.now) whole ∙ ap (λ z. compared z.answer (moved_both s (twin_bytes s) c.args.masks.now c.args.plays c.args.kinds.now)) e, ap (λ z. z.lent) e)
