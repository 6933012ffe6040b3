use Prim.Native.Nat.{◌≤◌, ◌<◌}
use native.Mathlib.Omega.{arith}
use Rattle.chart_records.proofs.PlacesRead.{most-charts}
use Rattle.chart_steps.proofs.steps.step_in_place.Goals as goal

pub bounds-states-i : goal.bounds-states-i
bounds-states-i c =
    let few-charts : c.args.chart < 8 = omega (arith, c.requires.1, most-charts c.args.s.now c.args.shape c.requires.0.accepted.shape) in
    few-charts

pub bounds-ages-i : goal.bounds-ages-i
bounds-ages-i c =
    let few-charts : c.args.chart < 8 = omega (arith, c.requires.1, most-charts c.args.s.now c.args.shape c.requires.0.accepted.shape) in
    few-charts

pub follow-requires : goal.follow-requires
follow-requires c =
    let few-charts : c.args.chart < 8 = omega (arith, c.requires.1, most-charts c.args.s.now c.args.shape c.requires.0.accepted.shape) in
    let small : c.first_that-t.result ≤ 65535 = c.first_that-t.ensures.1.small c.if-t-gt4294967295.false in
    let one-chosen : c.first_that-t.result < 65535 = let holds = c.if-t-eq65535.false in omega (arith, holds, small) in
    (c.requires.0, few-charts, c.first_that-t.ensures.1.known one-chosen)
