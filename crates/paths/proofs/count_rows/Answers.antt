use mathlib.Core.Path.{◌≡◌, refl, sym, ap, ◌∙◌}
use Prim.Native.Nat.{◌+◌}
use lib.ListN.{get_or}
use Rattle.model.specs.ChartSet.{read_charts}
use Rattle.chart_records.proofs.PlacesRead.{length-transitions}
use Rattle.paths.specs.LedOf.{walk_in}
use Rattle.paths.proofs.AlongFollowed.{followed-none, followed-more, followed-all, followed-broken, rows-many}
use Rattle.paths.proofs.count_rows.Goals as goal

pub loop-e-init : goal.loop-e-init
loop-e-init c =
    let a = c.args in
    followed-none (read_charts a.s.now) a.path.now (walk_in a.shape.charts c.start_locations-locations.result (record { position = 1; cycles = 0 })) c.start_locations-locations.ensures

pub returns-then-not-step_fits : goal.returns-then-not-step_fits
returns-then-not-step_fits c =
    let a = c.args in
    let l = c.loop-e in
    sym (followed-broken (read_charts a.s.now) a.path.now l.e-index (walk_in a.shape.charts l.locations l.walk) l.rows l.invariant c.loop-e-test.true
    (sym c.step_fits.ensures ∙ c.if-not-step_fits.true))

pub loop-e-preserved : goal.loop-e-preserved
loop-e-preserved c =
    let a = c.args in
    let l = c.loop-e in
    let s = a.s.now in
    let cs = read_charts s in
    let w = walk_in a.shape.charts l.locations l.walk in
    let e = get_or a.path.now l.e-index 0 in
    followed-more cs a.path.now l.e-index w l.rows l.invariant c.loop-e-test.true
    (sym c.step_fits.ensures ∙ c.if-not-step_fits.false)
    _ c.follow_step.ensures
    _ (ap (λ n. l.rows + n) (c.rows_of_step-rows.ensures ∙ sym (rows-many cs a.path.now e w a.shape.transitions (length-transitions s a.shape c.requires.0.shape))))

pub returns : goal.returns
returns c =
    let a = c.args in
    let l = c.loop-e in
    sym (followed-all (read_charts a.s.now) a.path.now l.e-index (walk_in a.shape.charts l.locations l.walk) l.rows l.invariant c.loop-e-test.false)
