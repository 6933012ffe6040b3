use mathlib.Core.Path.{refl, sym, ap, ◌∙◌}
use Prim.Native.Nat.{◌+◌}
use native.Mathlib.Omega.{arith}
use lib.ListN.{get_or, set, length-set}
use Rattle.framing.specs.Frame.{sum_to}
use Rattle.prelude.proofs.Counts.{is-table, table_more}
use Rattle.framing.proofs.FramingLaws.{sum_to-le, sum_to-next}
use Rattle.framing.proofs.sums.Goals as goal

pub loop-k-init : goal.loop-k-init
unfolding sum_to
loop-k-init c =
    (refl, refl, λ j h. absurd (omega arith))

pub overflow_add-sum : goal.overflow_add-sum
overflow_add-sum c =
    let ns = c.args.counts in
    let k = c.loop-k.k in
    omega (arith, sum_to-next ns k, sum_to-le ns (k + 1) 9 (omega arith))

pub loop-k-preserved : goal.loop-k-preserved
loop-k-preserved c =
    let ns = c.args.counts in
    let l = c.loop-k in (
      length-set l.firsts l.k l.sum ∙ l.invariant.0,
      ap (λ n. n + get_or ns l.k 0) l.invariant.1 ∙ sym (sum_to-next ns l.k),
      λ j h. ap (λ n. get_or (set l.firsts l.k n) j 0) l.invariant.1 ∙ table_more (λ j. sum_to j ns) 0 l.k l.firsts (omega arith) l.invariant.2 j h,
    )

pub returns : goal.returns
returns c =
    let l = c.loop-k in
    is-table (λ j. sum_to j c.args.counts) 0 9 l.firsts l.invariant.0 (λ j h. l.invariant.2 j (omega arith))
