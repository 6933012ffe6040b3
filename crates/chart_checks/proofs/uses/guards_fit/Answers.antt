use mathlib.Core.Path.{sym, ap, ◌∙◌}
use Rattle.expressions.specs.Nodes.{node_at}
use Rattle.prelude.proofs.Loops.{flagged-more, flagged-all}
use Rattle.chart_records.specs.Places.{node_part}
use Rattle.chart_checks.specs.Used.{guard_at, truths}
use Rattle.chart_checks.proofs.Used.{guards-is, gathered-more, gathered-all}
use Rattle.chart_checks.proofs.uses.guards_fit.Goals as goal

pub loop-t-preserved : goal.loop-t-preserved
loop-t-preserved c =
    let a = c.args in
    let s = a.s.now in
    let sh = a.shape in
    let l = c.loop-t in
    let in-file = c.loop-t-test.true in
    let fits = c.guard_fits-fit.ensures in (
      gathered-more (guard_at s sh) sh.transitions a.uses.now l.uses _ l.t l.invariant.0 in-file fits.1,
      flagged-more (λ t. truths (node_at (node_part s sh)) (guard_at s sh t)) sh.transitions l.fit l.t l.invariant.1 in-file (fits.0 ∙ ap (λ x. truths (node_at x) (guard_at s sh l.t)) c.node_records-nodes.ensures),
    )

pub returns : goal.returns
returns c =
    let s = c.args.s.now in
    let sh = c.args.shape in
    let l = c.loop-t in
    let done = c.loop-t-test.false in (
      flagged-all (λ t. truths (node_at (node_part s sh)) (guard_at s sh t)) sh.transitions l.fit l.t l.invariant.1 done ∙ sym (guards-is s sh c.requires),
      gathered-all (guard_at s sh) sh.transitions c.args.uses.now l.uses l.t l.invariant.0 done,
    )
