use mathlib.Core.Path.{sym, ◌∙◌}
use Rattle.chart_records.specs.Places.{wait_at}
use Rattle.chart_files.proofs.WaitsAlike.{fitted-more, fitted-not, fitted-all}
use Rattle.chart_files.proofs.WaitsFramed.{waiting_at, owner-below, alike_is}
use Rattle.chart_files.proofs.waiting.waits_alike.Goals as goal

pub wait_fits-requires : goal.wait_fits-requires
wait_fits-requires c =
    owner-below c.args.s.now c.args.shape c.requires.0 c.requires.1 c.loop-i.i c.loop-i-test.true

pub returns-then-not-wait_fits : goal.returns-then-not-wait_fits
returns-then-not-wait_fits c =
    let s = c.args.s.now in
    let sh = c.args.shape in
    let l = c.loop-i in
    sym
    (alike_is s sh c.requires.0 c.requires.1 c.requires.2
    ∙ fitted-not (wait_at s sh) (waiting_at s sh) sh.actions l.first l.i l.invariant c.loop-i-test.true (sym c.wait_fits.ensures.0 ∙ c.if-not-wait_fits.true))

pub loop-i-preserved : goal.loop-i-preserved
loop-i-preserved c =
    let a = c.args in
    let s = a.s.now in
    let l = c.loop-i in
    let f = c.wait_fits.ensures in
    fitted-more (wait_at s a.shape) (waiting_at s a.shape) a.shape.actions l.first _ l.i l.invariant c.loop-i-test.true (sym f.0 ∙ c.if-not-wait_fits.false) f.1

pub returns : goal.returns
returns c =
    let s = c.args.s.now in
    let sh = c.args.shape in
    sym (alike_is s sh c.requires.0 c.requires.1 c.requires.2 ∙ fitted-all (wait_at s sh) (waiting_at s sh) sh.actions c.loop-i.first c.loop-i.i c.loop-i.invariant c.loop-i-test.false)
