use mathlib.Core.Path.{◌≡◌, sym, ap, ◌∙◌}
use native.Mathlib.Omega.{arith}
use lib.ListN.{length, drop}
use Rattle.guards.specs.Grammar.{unspaced}
use Rattle.guard_reader.proofs.FromPlace.{unspaced-end, unspaced-space, unspaced-other}
use Rattle.guard_reader.proofs.lexemes.skip.Goals as goal

pub returns-then-text-i-ne32 : goal.returns-then-text-i-ne32
returns-then-text-i-ne32 c =
    let l = c.loop-i in
    record { skips = unspaced-other c.args.text.now l.i c.loop-i-test.true c.if-text-i-ne32.true ∙ sym l.invariant; onward = omega arith; inside = omega arith }

pub loop-i-preserved : goal.loop-i-preserved
loop-i-preserved c = c.loop-i.invariant ∙ unspaced-space c.args.text.now c.loop-i.i c.loop-i-test.true c.if-text-i-ne32.false

pub returns : goal.returns
returns c =
    let text = c.args.text.now in
    let end : c.loop-i.i ≡ length text = omega arith in
    record { skips = unspaced-end text (length text) (omega arith) ∙ sym (c.loop-i.invariant ∙ ap (λ k. unspaced (drop k text)) end); onward = omega arith; inside = omega arith }
