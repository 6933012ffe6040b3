use mathlib.Core.Path.{◌≡◌}
use mathlib.Core.Bool.{true}
use mathlib.Core.List.{List}
use Prim.Native.Nat.{ℕ, ◌<◌}
use native.Mathlib.Omega.{arith}
use lib.ListN.{get_or}
use Rattle.model.specs.ChartSet.{read_charts}
use Rattle.model.specs.PathBack.{Walk, step_fits}
use Rattle.chart_records.specs.declared.Shape.{Shape}
use Rattle.chart_records.specs.Accepted.{Accepted}
use Rattle.paths.specs.declared.EdgeTable.{EdgeTable}
use Rattle.paths.specs.LedOf.{walk_in, no_edge, HasEdges}
use Rattle.paths.proofs.LedOfSteps.{edge-room, few-automata, led-edge, led-time, fits-edge}
use Rattle.paths.proofs.follow_step.Goals as goal

in-table : {s : List ℕ} {sh : Shape} → Accepted s sh → {table : EdgeTable} → HasEdges s sh table → {e : ℕ} → (e ≡ 65535 → ⊥) → (w : Walk) → step_fits (read_charts s) e w ≡ true → e < table.count
in-table {s} {sh} ok has {e} n w fits = let f = fits-edge s sh ok e w n fits in omega (arith, f.0, has.count)

pub returns-then-e-eq65535 : goal.returns-then-e-eq65535
returns-then-e-eq65535 c =
    let a = c.args in led-time a.s.now a.shape c.requires.accepted.0 a.e a.locations.now a.walk.now c.if-e-eq65535.true

pub bounds-table-e : goal.bounds-table-e
bounds-table-e c =
    let q = c.requires in
    edge-room q.accepted.0 q.accepted.1 (in-table q.accepted.0 q.accepted.1 c.if-e-eq65535.false (walk_in c.args.shape.charts c.args.locations.now c.args.walk.now) q.fits)

pub bounds-locations-edge : goal.bounds-locations-edge
bounds-locations-edge c =
    let q = c.requires in
    few-automata q.accepted.0 q.accepted.1 (in-table q.accepted.0 q.accepted.1 c.if-e-eq65535.false (walk_in c.args.shape.charts c.args.locations.now c.args.walk.now) q.fits)

pub returns : goal.returns
returns c =
    let a = c.args in
    let has = c.requires.accepted.1 in
    let h = in-table c.requires.accepted.0 has c.if-e-eq65535.false (walk_in a.shape.charts a.locations.now a.walk.now) c.requires.fits in
    led-edge a.s.now a.shape c.requires.accepted.0 a.e a.locations.now a.walk.now (get_or a.table.now.edges a.e no_edge) (has.each a.e h) (omega (arith, h, has.count)) c.if-e-eq65535.false
