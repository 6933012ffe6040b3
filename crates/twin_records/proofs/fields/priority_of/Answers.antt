use native.Mathlib.Omega.{arith}
use Rattle.chart_records.proofs.PlacesRead.{inside}
use Rattle.twin_records.proofs.fields.priority_of.Goals as goal

pub bounds-s-at : goal.bounds-s-at
bounds-s-at c =
    omega (arith, c.first_transition.ensures, c.requires.1, inside c.args.s.now c.args.shape c.requires.0)
