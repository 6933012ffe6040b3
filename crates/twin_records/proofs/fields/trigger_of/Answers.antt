use Prim.Native.Nat.{◌+◌, ◌*◌, ◌<◌}
use native.Mathlib.Omega.{arith}
use lib.ListN.{length}
use Rattle.chart_records.proofs.PlacesRead.{inside}
use Rattle.twin_records.proofs.fields.trigger_of.Goals as goal

pub bounds-s-at : goal.bounds-s-at
bounds-s-at c =
    let here : 16 * (c.first_transition.result + c.args.t) + 15 < length c.args.s.now = omega (arith, c.first_transition.ensures, c.requires.1, inside c.args.s.now c.args.shape c.requires.0) in
    omega (arith, here)

pub bounds-s-at-2 : goal.bounds-s-at-2
bounds-s-at-2 c =
    let here : 16 * (c.first_transition.result + c.args.t) + 15 < length c.args.s.now = omega (arith, c.first_transition.ensures, c.requires.1, inside c.args.s.now c.args.shape c.requires.0) in
    omega (arith, here)

pub u32_within-requires : goal.u32_within-requires
u32_within-requires c =
    let here : 16 * (c.first_transition.result + c.args.t) + 15 < length c.args.s.now = omega (arith, c.first_transition.ensures, c.requires.1, inside c.args.s.now c.args.shape c.requires.0) in
    omega (arith, here)
