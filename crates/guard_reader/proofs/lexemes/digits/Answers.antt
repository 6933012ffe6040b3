use mathlib.Core.Path.{◌≡◌, sym, ap, ◌∙◌}
use mathlib.Core.Bool.{true, false}
use Prim.Native.Nat.{◌+◌, ◌-◌, ◌*◌}
use native.Mathlib.Omega.{arith}
use lib.ListN.{length, get_or, drop}
use Rattle.guards.specs.Grammar.{is_digit, digits_after, up_to}
use Rattle.guard_reader.proofs.FromPlace.{no-digit-end, digits-end, digits_more, digits-other, too_large, within}
use Rattle.guard_reader.proofs.lexemes.digits.Goals as goal

pub returns-then-not-is_digit : goal.returns-then-not-is_digit
returns-then-not-is_digit c =
    let l = c.loop-i in
    let a = c.args in
    let text = a.text.now in
    let stops : is_digit (get_or text l.i 0) ≡ false = sym c.is_digit.ensures ∙ c.if-not-is_digit.true in
    record {
      same = ap (up_to a.most) l.invariant.1 ∙ within a.most l.n (drop l.i text) (drop l.i text) l.invariant.0 (digits-other text l.i l.n c.loop-i-test.true stops);
      low = l.invariant.0;
      stops = stops;
      onward = omega arith;
      inside = omega arith;
    }

pub returns-then-most-n : goal.returns-then-most-n
returns-then-most-n c =
    let l = c.loop-i in
    let a = c.args in
    let text = a.text.now in
    let goes_on : is_digit (get_or text l.i 0) ≡ true = sym c.is_digit.ensures ∙ c.if-not-is_digit.false in
    ap (up_to a.most) (l.invariant.1 ∙ digits_more text l.i l.n c.loop-i-test.true goes_on) ∙ too_large a.most (10 * l.n + (get_or text l.i 0 - 48)) (drop (l.i + 1) text) c.if-most-n.true

pub loop-i-preserved : goal.loop-i-preserved
loop-i-preserved c =
    let l = c.loop-i in
    (c.if-most-n.false, l.invariant.1 ∙ digits_more c.args.text.now l.i l.n c.loop-i-test.true (sym c.is_digit.ensures ∙ c.if-not-is_digit.false))

pub returns : goal.returns
returns c =
    let l = c.loop-i in
    let a = c.args in
    let text = a.text.now in
    let n = length text in
    let end : l.i ≡ n = omega arith in
    record {
      same = ap (up_to a.most) (l.invariant.1 ∙ ap (λ k. digits_after l.n (drop k text)) end) ∙ within a.most l.n (drop n text) (drop n text) l.invariant.0 (digits-end text n l.n (omega arith));
      low = l.invariant.0;
      stops = no-digit-end text n (omega arith);
      onward = omega arith;
      inside = omega arith;
    }
