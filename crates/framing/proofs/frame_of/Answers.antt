use mathlib.Core.Path.{◌≡◌, sym, ap, ◌∙◌, subst}
use mathlib.Core.Bool.{not}
use mathlib.Core.List.{List, map}
use Prim.Native.Nat.{ℕ, ◌+◌, ◌%◌}
use native.Mathlib.Omega.{arith}
use borrow.Author.Tests.{eq-eqb, ne_eqb}
use lib.ListN.{length}
use Rattle.std.specs.Prelude.{Option, Some, Err, ok_or}
use Rattle.std.proofs.lemmas.Result.{err_from_is_err_and}
use Rattle.prelude.specs.Lists.{upto}
use Rattle.records.specs.declared.refusals.Refusal.TheVariants.{OddLength, UnorderedKinds, WrongAmounts}
use Rattle.framing.specs.Framing.{has_wrong_amounts}
use Rattle.framing.specs.Frame.{IsFrame, IsTally, exceeds, sum_to}
use Rattle.framing.proofs.FramingLaws.{firsts-sum, firsts-are, first_of-le, exceeds-is, is_odd, is-unordered, is-wrong, is_none, refused-frame, accepted-frame}
use Rattle.framing.proofs.frame_of.Goals as goal

module _ (first : ℕ) (most s ns : List ℕ) (o : Option (List ℕ)) (t : IsTally first most s o) (is : o ≡ Some ns) where
  tally : IsTally first most s (Some ns)
  tally = subst (IsTally first most s) is t

  amounts : exceeds ns most ≡ has_wrong_amounts first most s
  amounts = ap (λ ns. exceeds ns most) tally.1 ∙ exceeds-is first most s

pub returns-then-s-ne0 : goal.returns-then-s-ne0
returns-then-s-ne0 c =
    let a = c.args in
    refused-frame a.first a.most.now a.s.now OddLength (is_odd a.first a.most.now a.s.now (ap not (ne_eqb (length a.s.now % 16) 0 c.if-s-ne0.true)))

pub returns-in_err-counts : goal.returns-in_err-counts
returns-in_err-counts c =
    let a = c.args in
    let p = err_from_is_err_and c.from_residual.result c.from_residual.ensures.1 in
    let e = c.in_err-counts.ensures.value ∙ ap (λ o. ok_or o UnorderedKinds) c.in_err-counts.ensures.ok_part in
    let w : c.in_err-counts.field-0.0 ≡ UnorderedKinds = cc e in
    let is : c.from_residual.result ≡ Err UnorderedKinds = p.1 ∙ ap Err (p.2 ∙ w) in
    subst (IsFrame a.first a.most.now a.s.now) (sym is)
    (refused-frame a.first a.most.now a.s.now UnorderedKinds
    (is-unordered a.first a.most.now a.s.now (ap not (eq-eqb (length a.s.now % 16) 0 c.if-s-ne0.false)) (subst (IsTally a.first a.most.now a.s.now) c.in_err-counts.ensures.ok_part c.tally_of.ensures)))

pub returns-then-wrong_amounts : goal.returns-then-wrong_amounts
returns-then-wrong_amounts c =
    let a = c.args in
    refused-frame a.first a.most.now a.s.now WrongAmounts
    (is-wrong a.first a.most.now a.s.now (ap not (eq-eqb (length a.s.now % 16) 0 c.if-s-ne0.false)) (tally a.first a.most.now a.s.now c.in_ok-counts.counts _ c.tally_of.ensures c.in_ok-counts.ensures.ok_part).0 (sym (amounts a.first a.most.now a.s.now c.in_ok-counts.counts _ c.tally_of.ensures c.in_ok-counts.ensures.ok_part) ∙ sym c.wrong_amounts.ensures ∙ c.if-wrong_amounts.true))

pub sums-firsts-requires : goal.sums-firsts-requires
sums-firsts-requires c =
    let a = c.args in
    omega (
      arith,
      ap (sum_to 9) (tally a.first a.most.now a.s.now c.in_ok-counts.counts _ c.tally_of.ensures c.in_ok-counts.ensures.ok_part).1,
      firsts-sum a.first a.most.now a.s.now (tally a.first a.most.now a.s.now c.in_ok-counts.counts _ c.tally_of.ensures c.in_ok-counts.ensures.ok_part).0 9 (omega arith),
      first_of-le (a.first + 9) a.s.now,
      c.well_formed.0,
    )

pub returns : goal.returns
returns c =
    let a = c.args in
    let framed = is_none a.first a.most.now a.s.now (ap not (eq-eqb (length a.s.now % 16) 0 c.if-s-ne0.false)) (tally a.first a.most.now a.s.now c.in_ok-counts.counts _ c.tally_of.ensures c.in_ok-counts.ensures.ok_part).0 (sym (amounts a.first a.most.now a.s.now c.in_ok-counts.counts _ c.tally_of.ensures c.in_ok-counts.ensures.ok_part) ∙ sym c.wrong_amounts.ensures ∙ c.if-wrong_amounts.false) in
    let firsts = c.sums-firsts.ensures ∙ ap (λ ns. map (λ j. sum_to j ns) (upto 9)) (tally a.first a.most.now a.s.now c.in_ok-counts.counts _ c.tally_of.ensures c.in_ok-counts.ensures.ok_part).1 ∙ firsts-are a.first a.most.now a.s.now (tally a.first a.most.now a.s.now c.in_ok-counts.counts _ c.tally_of.ensures c.in_ok-counts.ensures.ok_part).0 in
    accepted-frame a.first a.most.now a.s.now c.in_ok-counts.counts c.sums-firsts.result framed (tally a.first a.most.now a.s.now c.in_ok-counts.counts _ c.tally_of.ensures c.in_ok-counts.ensures.ok_part).1 firsts
