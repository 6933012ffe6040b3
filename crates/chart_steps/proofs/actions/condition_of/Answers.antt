use native.Mathlib.Omega.{arith}
use Rattle.chart_records.proofs.PlacesRead.{inside}
use Rattle.chart_steps.proofs.actions.condition_of.Goals as goal

pub u16_within-requires : goal.u16_within-requires
u16_within-requires c =
    omega (arith, c.first_action.ensures, c.requires.1, inside c.args.s.now c.args.shape c.requires.0.shape)
