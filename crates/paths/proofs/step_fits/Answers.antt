use mathlib.Core.Path.{sym, ◌∙◌}
use Rattle.paths.specs.LedOf.{walk_in}
use Rattle.paths.proofs.LedOfSteps.{step-time, step-edge}
use Rattle.paths.proofs.step_fits.Goals as goal

pub returns-then-e-eq65535 : goal.returns-then-e-eq65535
returns-then-e-eq65535 c =
    let a = c.args in
    sym (step-time a.s.now a.shape c.requires.0 a.e (walk_in a.shape.charts a.locations.now a.walk) c.if-walk-ge-MOST_CYCLES.false c.if-e-eq65535.true)

pub returns-else-e-eq65535 : goal.returns-else-e-eq65535
returns-else-e-eq65535 c =
    let a = c.args in
    c.edge_fits.ensures ∙ sym (step-edge a.s.now a.shape c.requires.0 a.e (walk_in a.shape.charts a.locations.now a.walk) c.if-walk-ge-MOST_CYCLES.false c.if-e-eq65535.false)
