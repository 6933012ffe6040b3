use mathlib.Core.Path.{◌≡◌, refl, sym, subst, ◌∙◌}
use native.Mathlib.Omega.{arith}
use Rattle.chart_records.proofs.PlacesRead.{most-actions}
use Rattle.chart_steps.specs.Tables.{key_at, keyed}
use Rattle.prelude.specs.Lists.{bit}
use Rattle.prelude.proofs.Sums.{sum_alike, count-from}
use Rattle.translation.proofs.TablesCounts.{share, Added, added_none, added_more, added-most, share-one}
use Rattle.translation.proofs.lengths.count_actions.Goals as goal

pub loop-a-init : goal.loop-a-init
loop-a-init c =
    let key = key_at c.args.s.now c.args.shape in
    subst (λ l. Added key (λ i. 1) 641 l 0) (sym c.requires.1) (added_none key (λ i. 1) 641)

pub key_of-key-requires : goal.key_of-key-requires
key_of-key-requires c =
    (c.requires.0, c.loop-a-test.true)

pub bounds-counts-key : goal.bounds-counts-key
bounds-counts-key c =
    c.key_of-key.ensures.1

pub overflow_add-counts : goal.overflow_add-counts
overflow_add-counts c =
    let x = c.args in
    omega (arith, added-most (key_at x.s.now x.shape) (λ i. 1) 641 c.key_of-key.result 1 c.loop-a.invariant (λ j. omega arith) c.key_of-key.ensures.1, most-actions x.s.now x.shape c.requires.0.shape)

pub bounds-counts-key-in-loop-a : goal.bounds-counts-key-in-loop-a
bounds-counts-key-in-loop-a c =
    c.key_of-key.ensures.1

pub loop-a-preserved : goal.loop-a-preserved
loop-a-preserved c =
    added_more (key_at c.args.s.now c.args.shape) (λ i. 1) 641 c.key_of-key.result 1 c.loop-a.invariant c.key_of-key.ensures.0 refl c.key_of-key.ensures.1

pub returns : goal.returns
returns c =
    let l = c.loop-a in
    let x = c.args in
    let key = key_at x.s.now x.shape in
    let e : l.a ≡ x.shape.actions = omega arith in
    λ k h.
    (subst (Added key (λ i. 1) 641 l.counts) e l.invariant).sums k h
    ∙ sum_alike (share key (λ i. 1) 641 k) (λ i. bit (keyed x.s.now x.shape k i)) 0 x.shape.actions (λ i a b. share-one key k i)
    ∙ sym (count-from (keyed x.s.now x.shape k) 0 x.shape.actions)
