use native.Mathlib.Omega.{arith}
use Rattle.chart_records.proofs.PlacesRead.{inside}
use Rattle.twin_records.proofs.fields.guard_of.Goals as goal

pub u16_within-requires : goal.u16_within-requires
u16_within-requires c =
    omega (arith, c.first_transition.ensures, c.requires.1, inside c.args.s.now c.args.shape c.requires.0)
