use mathlib.Core.Path.{sym, ap, ◌∙◌}
use Rattle.prelude.proofs.Loops.{flagged-more, flagged-all}
use Rattle.chart_records.specs.Places.{node_part}
use Rattle.chart_checks.proofs.Used.{actions-is, gathered-more, gathered-all}
use Rattle.chart_checks.proofs.uses.actions_fit.Invariants.{used, sorted}
use Rattle.chart_checks.proofs.uses.actions_fit.Goals as goal

pub loop-i-preserved : goal.loop-i-preserved
loop-i-preserved c =
    let a = c.args in
    let s = a.s.now in
    let sh = a.shape in
    let l = c.loop-i in
    let in-file = c.loop-i-test.true in
    let fits = c.action_fits-fit.ensures in (
      gathered-more (used s sh) sh.actions a.uses.now l.uses _ l.i l.invariant.0 in-file fits.1,
      flagged-more (sorted s sh (node_part s sh)) sh.actions l.fit l.i l.invariant.1 in-file (fits.0 ∙ ap (λ x. sorted s sh x l.i) c.node_records-nodes.ensures),
    )

pub returns : goal.returns
returns c =
    let s = c.args.s.now in
    let sh = c.args.shape in
    let l = c.loop-i in
    let done = c.loop-i-test.false in (
      flagged-all (sorted s sh (node_part s sh)) sh.actions l.fit l.i l.invariant.1 done ∙ sym (actions-is s sh c.requires.0 c.requires.1),
      gathered-all (used s sh) sh.actions c.args.uses.now l.uses l.i l.invariant.0 done,
    )
