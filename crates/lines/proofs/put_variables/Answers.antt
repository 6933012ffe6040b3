use mathlib.Core.Path.{refl, sym, ◌∙◌, subst}
use native.Mathlib.Omega.{arith}
use lib.IntN.{pos}
use lib.ListN.{get_or, take}
use Rattle.std.proofs.Common.{length-take}
use Rattle.std.proofs.lemmas.List.{take_all}
use mir.Facts.{to_z-of_z}
use mir.Syntax.{w16}
use mir.Val.{SFits}
use Rattle.model.specs.Replay.{signed_decimal}
use Rattle.records.specs.Wrote.{Wrote}
use Rattle.records.proofs.Wrote.{nothing-wrote, wrote_then, wrote-near}
use Rattle.lines.specs.Text.{variables_text}
use Rattle.lines.proofs.Digits.{length-signed16}
use Rattle.lines.proofs.Texts.{variables-none, variables-more}
use Rattle.lines.proofs.put_variables.Goals as goal

pub loop-v-init : goal.loop-v-init
loop-v-init c = (omega arith, refl, rw variables-none (nothing-wrote c.args.out.now c.args.at))

pub loop-v-preserved : goal.loop-v-preserved
loop-v-preserved c =
    let l = c.loop-v in
    let vs = take c.shown.result c.args.variables.now in
    let z = get_or vs l.v-index (pos 0) in
    let char = c.put_char-spaced in
    let called = c.put_signed-next in
    let held : SFits w16 z = record { sfits = omega arith } in
    let one : Wrote char.new.out char.result (signed_decimal z) called.new.out called.result =
    subst (λ y. Wrote char.new.out char.result (signed_decimal y) called.new.out called.result) (to_z-of_z held) called.ensures in (
      omega (arith, l.invariant.0, wrote-near 1 char.ensures (omega arith), wrote-near 6 one (length-signed16 z held.sfits)),
      called.auto.out ∙ char.auto.out ∙ l.invariant.1,
      subst (λ t. Wrote c.args.out.now c.args.at t called.new.out called.result) (sym (variables-more vs l.v-index c.loop-v-test.true)) (wrote_then l.invariant.2 (wrote_then char.ensures one)),
    )

pub returns : goal.returns
returns c =
    let l = c.loop-v in
    let vs = take c.shown.result c.args.variables.now in
    let all = take_all l.v-index vs c.loop-v-test.false ∙ c.shown.ensures.2 in
    (subst (λ vs. Wrote c.args.out.now c.args.at (variables_text vs) l.out l.next) all l.invariant.2, omega (arith, length-take c.shown.result c.args.variables.now, c.shown.ensures))
