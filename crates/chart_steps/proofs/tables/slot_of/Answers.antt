use mathlib.Core.Path.{sym, ◌∙◌}
use Prim.Native.Nat.{◌+◌, ◌<◌}
use native.Mathlib.Omega.{arith}
use Rattle.chart_records.proofs.PlacesRead.{most-states}
use Rattle.chart_steps.proofs.StepOf.{unnamed, placed_one}
use Rattle.chart_steps.proofs.tables.slot_of.Goals as goal

pub returns-then-t-eq256 : goal.returns-then-t-eq256
returns-then-t-eq256 c =
    let small-state : c.args.state < 128 = omega (arith, c.requires.2, most-states c.args.s.now c.args.shape c.requires.0.shape) in
    let a = c.args in
    sym (unnamed a.s.now a.shape c.requires.0 a.state (a.place + 1) (sym (c.requires.1 a.state a.place small-state c.requires.3) ∙ c.if-t-eq256.true))

pub returns-else-t-eq256 : goal.returns-else-t-eq256
returns-else-t-eq256 c =
    let small-state : c.args.state < 128 = omega (arith, c.requires.2, most-states c.args.s.now c.args.shape c.requires.0.shape) in
    let a = c.args in
    placed_one a.s.now a.shape c.requires.0 a.state (a.place + 1) _ (c.requires.1 a.state a.place small-state c.requires.3) c.if-t-eq256.false

pub bounds-rows-i : goal.bounds-rows-i
bounds-rows-i c = omega (arith, c.requires.2, most-states c.args.s.now c.args.shape c.requires.0.shape)
