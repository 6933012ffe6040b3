use native.Mathlib.Omega.{arith}
use Rattle.chart_records.proofs.PlacesRead.{inside}
use Rattle.chart_steps.proofs.actions.wait_of.Goals as goal

pub u32_within-requires : goal.u32_within-requires
u32_within-requires c =
    omega (arith, c.first_action.ensures, c.requires.1, inside c.args.s.now c.args.shape c.requires.0.shape)
