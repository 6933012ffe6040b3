use mathlib.Core.Path.{◌≡◌, refl, sym, ap, subst, ◌∙◌}
use mathlib.Core.List.{List}
use Prim.Native.Nat.{ℕ, ◌+◌, ◌<◌, ◌≤◌}
use native.Mathlib.Omega.{arith}
use lib.ListN.{length, get_or}
use lib.Seq.{take-length}
use Rattle.prelude.specs.Lists.{gather}
use Rattle.chart_records.specs.declared.Shape.{Shape}
use Rattle.chart_records.specs.Accepted.{Accepted}
use Rattle.chart_records.specs.Places.{transition_at}
use Rattle.chart_records.proofs.PlacesRead.{transition-is, length-transitions, most-states, most-transitions}
use Rattle.chart_steps.proofs.Accepted.{source_known}
use Rattle.model.specs.ChartSet.{read_charts, transition}
use Rattle.model.specs.Translation.{transition_count, clocks_of, clock_of, transition_clocks}
use Rattle.prelude.proofs.Sums.{sum_from, sum_alike}
use Rattle.model.proofs.TranslationCounts.{clocks_of-few}
use Rattle.twin_records.specs.Tables.{source_of}
use Rattle.twin_records.proofs.TablesClocks.{clock-none, clock-more}
use Rattle.translation.proofs.TablesCounts.{sum-none, sum_more, earlier, alike, share, Added, added_none, added_more, added-most, share-one, clocks_at, clocks-are, leaving-are, literals-are}
use Rattle.translation.proofs.lengths.count_tests.Goals as goal

module _ {s : List ℕ} {sh : Shape} (ok : Accepted s sh) {t source : ℕ} (h : t < sh.transitions) (is : source ≡ (transition_at s sh t).source) where
  in-states : source < 128
  in-states = omega (arith, source_known s sh ok t h, most-states s sh ok.shape)

  few : t < 256
  few = omega (arith, most-transitions s sh ok.shape)

  source-here : source ≡ source_of (read_charts s) t
  source-here = is ∙ ap (λ y. y.source) (sym (transition-is s sh ok.shape t h))

  -- of the transitions before t, no more than these, and no more clocks
  leaving-few : {leaving : List ℕ} → Added (source_of (read_charts s)) (λ u. 1) 128 leaving t → (get_or leaving source 0 ≤ t) × (t < 256)
  leaving-few a = (omega (arith, added-most (source_of (read_charts s)) (λ u. 1) 128 source 1 a (λ j. omega arith) in-states), few)

  clocks-few : {clocks : List ℕ} → Added (source_of (read_charts s)) (clocks_at (read_charts s)) 128 clocks t → (get_or clocks source 0 ≤ t) × (t < 256)
  clocks-few a = (omega (arith, added-most (source_of (read_charts s)) (clocks_at (read_charts s)) 128 source 1 a (λ j. clocks_of-few (transition (read_charts s) j).trigger) in-states), few)

  -- those that t's source has, t left out
  before : {leaving : List ℕ} → Added (source_of (read_charts s)) (λ u. 1) 128 leaving t → get_or leaving source 0 ≡ earlier (source_of (read_charts s)) t
  before a =
      let key = source_of (read_charts s) in
      a.sums source in-states ∙ ap (λ z. sum_from (share key (λ u. 1) 128 z) 0 t) source-here ∙ sum_alike (share key (λ u. 1) 128 (key t)) (alike key t) 0 t (λ u _ _. share-one key (key t) u)

pub loop-t-init : goal.loop-t-init
loop-t-init c =
    let x = c.args in
    let cs = read_charts x.s.now in
    record {
      counted = omega (arith, sum-none (earlier (source_of cs)), clock-none cs);
      few = omega arith;
      leaving = subst (λ l. Added (source_of cs) (λ u. 1) 128 l 0) (sym c.requires.1) (added_none (source_of cs) (λ u. 1) 128);
      clocks = subst (λ l. Added (source_of cs) (clocks_at cs) 128 l 0) (sym c.requires.2) (added_none (source_of cs) (clocks_at cs) 128);
    }

pub source_of-source-requires : goal.source_of-source-requires
source_of-source-requires c =
    (c.requires.0, c.loop-t-test.true)

pub bounds-leaving-source : goal.bounds-leaving-source
bounds-leaving-source c =
    in-states c.requires.0 c.loop-t-test.true c.source_of-source.ensures

pub overflow_add-n : goal.overflow_add-n
overflow_add-n c =
    omega (arith, leaving-few c.requires.0 c.loop-t-test.true c.source_of-source.ensures c.loop-t.invariant.leaving, c.clocks_in-own.ensures.1)

pub overflow_add-n-in-loop-t : goal.overflow_add-n-in-loop-t
overflow_add-n-in-loop-t c =
    omega (arith, leaving-few c.requires.0 c.loop-t-test.true c.source_of-source.ensures c.loop-t.invariant.leaving, c.clocks_in-own.ensures.1)

pub overflow_add-n-in-loop-t-2 : goal.overflow_add-n-in-loop-t-2
overflow_add-n-in-loop-t-2 c =
    omega (arith, leaving-few c.requires.0 c.loop-t-test.true c.source_of-source.ensures c.loop-t.invariant.leaving, c.clocks_in-own.ensures.1, c.loop-t.invariant.few)

pub bounds-leaving-source-in-loop-t : goal.bounds-leaving-source-in-loop-t
bounds-leaving-source-in-loop-t c =
    in-states c.requires.0 c.loop-t-test.true c.source_of-source.ensures

pub overflow_add-leaving : goal.overflow_add-leaving
overflow_add-leaving c =
    omega (arith, leaving-few c.requires.0 c.loop-t-test.true c.source_of-source.ensures c.loop-t.invariant.leaving)

pub bounds-leaving-source-in-loop-t-2 : goal.bounds-leaving-source-in-loop-t-2
bounds-leaving-source-in-loop-t-2 c =
    in-states c.requires.0 c.loop-t-test.true c.source_of-source.ensures

pub bounds-clocks-source : goal.bounds-clocks-source
bounds-clocks-source c =
    in-states c.requires.0 c.loop-t-test.true c.source_of-source.ensures

pub overflow_add-clocks : goal.overflow_add-clocks
overflow_add-clocks c =
    omega (arith, clocks-few c.requires.0 c.loop-t-test.true c.source_of-source.ensures c.loop-t.invariant.clocks, c.clocks_in-own.ensures.1)

pub bounds-clocks-source-in-loop-t : goal.bounds-clocks-source-in-loop-t
bounds-clocks-source-in-loop-t c =
    in-states c.requires.0 c.loop-t-test.true c.source_of-source.ensures

pub loop-t-preserved : goal.loop-t-preserved
loop-t-preserved c =
    let x = c.args in
    let l = c.loop-t in
    let i = l.invariant in
    let ok = c.requires.0 in
    let h = c.loop-t-test.true in
    let is = c.source_of-source.ensures in
    let cs = read_charts x.s.now in
    let own : c.clocks_in-own.result ≡ clocks_at cs l.t =
    c.clocks_in-own.ensures.0 ∙ ap (λ y. length (clocks_of y)) (c.trigger_of.ensures ∙ ap (λ y. y.trigger) (sym (transition-is x.s.now x.shape ok.shape l.t h))) in
    let inside = in-states ok h is in
    record {
      counted = omega (arith, i.counted, before ok h is i.leaving, own, sum_more (earlier (source_of cs)) l.t, clock-more cs l.t (omega (arith, h, length-transitions x.s.now x.shape ok.shape)));
      few = omega (arith, i.few, leaving-few ok h is i.leaving, c.clocks_in-own.ensures.1);
      leaving = added_more (source_of cs) (λ u. 1) 128 c.source_of-source.result 1 i.leaving (source-here ok h is) refl inside;
      clocks = added_more (source_of cs) (clocks_at cs) 128 c.source_of-source.result c.clocks_in-own.result i.clocks (source-here ok h is) own inside;
    }

pub returns : goal.returns
returns c =
    let x = c.args in
    let l = c.loop-t in
    let cs = read_charts x.s.now in
    let e : l.t ≡ transition_count cs = omega (arith, length-transitions x.s.now x.shape c.requires.0.shape) in
    let own : clock_of cs (transition_count cs) ≡ length (transition_clocks cs) = ap (λ ts. length (gather (λ y. clocks_of y.trigger) ts)) (take-length cs.transitions) in
    let n : l.n ≡ sum_from (earlier (source_of cs)) 0 (transition_count cs) + transition_count cs + clock_of cs (transition_count cs) = subst (λ t. l.n ≡ sum_from (earlier (source_of cs)) 0 t + t + clock_of cs t) e l.invariant.counted in (
      omega (arith, n, own, literals-are x.s.now c.requires.0.unrefused),
      λ st h. (subst (Added (source_of cs) (λ u. 1) 128 l.leaving) e l.invariant.leaving).sums st h ∙ leaving-are cs st,
      λ st h. (subst (Added (source_of cs) (clocks_at cs) 128 l.clocks) e l.invariant.clocks).sums st h ∙ clocks-are cs st,
      l.invariant.clocks.long,
    )
