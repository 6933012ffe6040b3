use mathlib.Core.Path.{◌≡◌, ap, ◌∙◌, subst}
use mathlib.Core.Bool.{cond}
use Prim.Native.Nat.{◌+◌}
use native.Mathlib.Omega.{arith}
use borrow.Author.Tests.{le-ltb}
use borrow.Author.Rules.{rules}
use lib.ListN.{get_or}
use Rattle.prelude.proofs.Filled.{Filled, filled_more, filled-mapped}
use Rattle.chart_runs.proofs.grow_ages.Goals as goal

pub loop-k-preserved : goal.loop-k-preserved
loop-k-preserved c =
    let a = c.args in
    let l = c.loop-k in
    let age : get_or l.ages l.k 0 ≡ get_or a.ages.now l.k 0 = l.invariant.1 l.k ∙ ap (λ b. cond b (get_or a.ages.now l.k 0 + 1) (get_or a.ages.now l.k 0)) (le-ltb l.k l.k (omega arith)) in
    filled_more (λ j. get_or a.ages.now j 0 + 1) 0 a.ages.now l.ages l.k _ (ap (λ n. n + 1) age) l.invariant (search rules)

pub returns : goal.returns
returns c =
    let a = c.args in
    let l = c.loop-k in
    let end : l.k ≡ a.charts = omega arith in
    filled-mapped (λ k age. age + 1) a.charts a.ages.now l.ages (subst (Filled (λ j. get_or a.ages.now j 0 + 1) 0 a.ages.now l.ages) end l.invariant)
