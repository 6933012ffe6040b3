use mathlib.Core.Path.{sym, ap, ◌∙◌}
use mathlib.Core.Bool.{cond}
use lib.Dec.{ltb}
use lib.ListN.{get_or}
use Rattle.chart_files.specs.Tallies.{add_one}
use Rattle.chart_files.specs.Structure.{owner_at}
use Rattle.chart_files.proofs.Tallies.{tallied-more, tallied-not, tallied-all}
use Rattle.chart_files.proofs.structure.owners_within.Goals as goal

pub returns-then-not-count_within : goal.returns-then-not-count_within
returns-then-not-count_within c =
    let a = c.args in
    let l = c.loop-i in
    let f = c.count_within.ensures in
    let k = c.owner_at in
    let t = c.if-not-count_within.true in
    tallied-not 8 (owner_at a.s.now a.shape) a.shape.actions a.counts.now l.counts _ l.i l.invariant c.loop-i-test.true
    (ap (λ j. ltb (get_or l.counts j 0) 8) (sym k.ensures) ∙ sym f.0 ∙ t)
    (f.1 ∙ ap (λ b. cond b (add_one l.counts k.result) l.counts) t)

pub loop-i-preserved : goal.loop-i-preserved
loop-i-preserved c =
    let a = c.args in
    let l = c.loop-i in
    let f = c.count_within.ensures in
    let k = c.owner_at.ensures in
    let t = c.if-not-count_within.false in
    tallied-more 8 (owner_at a.s.now a.shape) a.shape.actions a.counts.now l.counts _ l.i l.invariant c.loop-i-test.true
    (ap (λ k. ltb (get_or l.counts k 0) 8) (sym k) ∙ sym f.0 ∙ t)
    (f.1 ∙ ap (λ b. cond b (add_one l.counts c.owner_at.result) l.counts) t ∙ ap (add_one l.counts) k)

pub returns : goal.returns
returns c =
    let a = c.args in
    let l = c.loop-i in
    tallied-all 8 (owner_at a.s.now a.shape) a.shape.actions a.counts.now l.counts l.i l.invariant c.loop-i-test.false
