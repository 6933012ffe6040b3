use Prim.Native.Nat.{◌+◌, ◌*◌, ◌<◌}
use native.Mathlib.Omega.{arith}
use lib.ListN.{length}
use Rattle.chart_records.proofs.PlacesRead.{inside}
use Rattle.twin_records.proofs.fields.deed_of.Goals as goal

pub bounds-s-at : goal.bounds-s-at
bounds-s-at c =
    let here : 16 * (c.first_node.result + c.args.shape.nodes + c.args.a) + 15 < length c.args.s.now = omega (arith, c.first_node.ensures, c.requires.1, inside c.args.s.now c.args.shape c.requires.0) in
    omega (arith, here)

pub bounds-s-at-2 : goal.bounds-s-at-2
bounds-s-at-2 c =
    let here : 16 * (c.first_node.result + c.args.shape.nodes + c.args.a) + 15 < length c.args.s.now = omega (arith, c.first_node.ensures, c.requires.1, inside c.args.s.now c.args.shape c.requires.0) in
    omega (arith, here)

pub u16_within-requires : goal.u16_within-requires
u16_within-requires c =
    let here : 16 * (c.first_node.result + c.args.shape.nodes + c.args.a) + 15 < length c.args.s.now = omega (arith, c.first_node.ensures, c.requires.1, inside c.args.s.now c.args.shape c.requires.0) in
    omega (arith, here)
