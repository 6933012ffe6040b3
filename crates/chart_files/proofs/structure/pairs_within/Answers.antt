use mathlib.Core.Path.{sym, ap, ◌∙◌}
use mathlib.Core.Bool.{cond}
use lib.Dec.{ltb}
use lib.ListN.{get_or}
use Rattle.chart_files.specs.Tallies.{add_one}
use Rattle.chart_files.specs.Structure.{pair_at}
use Rattle.chart_checks.proofs.InCode.{priority-in-code}
use Rattle.chart_files.proofs.Tallies.{tallied-more, tallied-not, tallied-all}
use Rattle.chart_files.proofs.structure.pairs_within.Goals as goal

pub pair-requires : goal.pair-requires
pair-requires c =
    (priority-in-code c.args.s.now c.args.shape c.requires.0 c.requires.1 c.loop-t.t c.loop-t-test.true).0

pub returns-then-not-count_within : goal.returns-then-not-count_within
returns-then-not-count_within c =
    let a = c.args in
    let l = c.loop-t in
    let f = c.count_within.ensures in
    let k = c.pair in
    let t = c.if-not-count_within.true in
    tallied-not 1 (pair_at a.s.now a.shape) a.shape.transitions a.seen.now l.seen _ l.t l.invariant c.loop-t-test.true
    (ap (λ j. ltb (get_or l.seen j 0) 1) (sym k.ensures) ∙ sym f.0 ∙ t)
    (f.1 ∙ ap (λ b. cond b (add_one l.seen k.result) l.seen) t)

pub loop-t-preserved : goal.loop-t-preserved
loop-t-preserved c =
    let a = c.args in
    let l = c.loop-t in
    let f = c.count_within.ensures in
    let k = c.pair.ensures in
    let t = c.if-not-count_within.false in
    tallied-more 1 (pair_at a.s.now a.shape) a.shape.transitions a.seen.now l.seen _ l.t l.invariant c.loop-t-test.true
    (ap (λ k. ltb (get_or l.seen k 0) 1) (sym k) ∙ sym f.0 ∙ t)
    (f.1 ∙ ap (λ b. cond b (add_one l.seen c.pair.result) l.seen) t ∙ ap (add_one l.seen) k)

pub returns : goal.returns
returns c =
    let a = c.args in
    let l = c.loop-t in
    tallied-all 1 (pair_at a.s.now a.shape) a.shape.transitions a.seen.now l.seen l.t l.invariant c.loop-t-test.false
