use mathlib.Core.Path.{◌≡◌, sym, ◌∙◌}
use native.Mathlib.Omega.{arith}
use borrow.Author.Tests.{lt-ltb, le-ltb}
use lib.ListN.{length, take}
use Rattle.framing.proofs.Runs.{tallied-none, tallied-more, tallied-order, tallied-counts}
use Rattle.framing.proofs.tally_of.Goals as goal

pub loop-k-init : goal.loop-k-init
loop-k-init c =
    let a = c.args in tallied-none a.first a.most.now a.s.now

pub loop-k-preserved : goal.loop-k-preserved
loop-k-preserved c =
    let a = c.args in
    let l = c.loop-k in
    tallied-more a.first a.most.now a.s.now l.counts l.k l.i c.run_end-end.result l.invariant (omega arith) c.run_end-end.ensures

pub returns-then-i-s : goal.returns-then-i-s
returns-then-i-s c =
    let a = c.args in
    let l = c.loop-k in
    sym (tallied-order a.first a.most.now a.s.now l.counts l.k l.i l.invariant (omega arith)) ∙ lt-ltb l.i _ c.if-i-s.true

pub returns-else-i-s : goal.returns-else-i-s
returns-else-i-s c =
    let a = c.args in
    let l = c.loop-k in
    let all_kinds : l.k ≡ length (take 9 a.most.now) = omega arith in
    let none_left = le-ltb l.i _ c.if-i-s.false in
    (sym (tallied-order a.first a.most.now a.s.now l.counts l.k l.i l.invariant all_kinds) ∙ none_left, tallied-counts a.first a.most.now a.s.now l.counts l.k l.i l.invariant all_kinds none_left)
