use mathlib.Core.Path.{refl, sym, ap, ◌∙◌}
use mathlib.Core.Bool.{◌&&◌}
use Rattle.std.specs.Slice.Iter.{chunks_exact_rest, chunks_exact_size}
use Rattle.std.proofs.lemmas.Iterator.Consumers.{YieldsList-end}
use Rattle.prelude.specs.Lists.{all}
use Rattle.records.specs.Bytes.{records}
use Rattle.record_tests.proofs.Chunks.{chunks-are, all-push}
use Rattle.model.specs.ChartFile.{unused, unused_are_zero, in_code}
use Rattle.chart_files.proofs.test_records.Goals as goal

pub loop-r-init : goal.loop-r-init
unfolding all
loop-r-init c = (refl, refl)

pub loop-r-preserved : goal.loop-r-preserved
loop-r-preserved c =
    let l = c.loop-r in (
      (λ i. l.invariant.0 i && c.record_clean-clean.ensures i) ∙ sym (all-push (λ r. unused_are_zero (unused r) r) l.yielded c.in-Some.r),
      (λ i. l.invariant.1 i && c.in_code-coded.ensures i) ∙ sym (all-push in_code l.yielded c.in-Some.r),
    )

pub returns : goal.returns
returns c =
    let l = c.loop-r in
    let it = c.into_iter-r-iterator.ensures.into_iter_gives in
    let chunks = chunks-are _ (ap chunks_exact_size it ∙ c.chunks_exact-r-items.ensures.size) in
    let all-came = (YieldsList-end chunks l.yielded _ l.yielded_by _ _ c.in-None.is c.next.ensures.steps).0 in
    let bytes = ap chunks_exact_rest it ∙ c.chunks_exact-r-items.ensures.rest in (
      l.invariant.0 ∙ ap (all (λ r. unused_are_zero (unused r) r)) (all-came ∙ ap records bytes),
      l.invariant.1 ∙ ap (all in_code) (all-came ∙ ap records bytes),
    )
