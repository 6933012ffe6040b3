use mathlib.Core.Path.{refl, sym}
use native.Mathlib.Omega.{arith}
use Rattle.paths.proofs.LedOfEdges.{edges-in}
use Rattle.paths.proofs.EdgesHeld.{held_more}
use Rattle.paths.proofs.edges_of.Goals as goal

pub overflow_add-count : goal.overflow_add-count
overflow_add-count c =
    omega (arith, c.idling_of-idling.ensures.count, edges-in c.args.s.now c.args.shape c.requires)

pub loop-e-init : goal.loop-e-init
loop-e-init c = record { room = refl; held = λ e l. absurd (omega arith) }

pub bounds-edges-e : goal.bounds-edges-e
bounds-edges-e c =
    omega (arith, c.loop-e-test.true, c.idling_of-idling.ensures.count, edges-in c.args.s.now c.args.shape c.requires)

pub loop-e-preserved : goal.loop-e-preserved
loop-e-preserved c =
    let a = c.args in
    let l = c.loop-e in
    held_more a.s.now a.shape.charts l.e l.edges c.edge_of.result (omega (arith, c.loop-e-test.true, c.idling_of-idling.ensures.count, edges-in a.s.now a.shape c.requires)) l.invariant c.edge_of.ensures

pub returns : goal.returns
returns c = record {
  count = sym c.idling_of-idling.ensures.count;
  each = λ e h. c.loop-e.invariant.held e (omega (arith, h, c.loop-e-test.false));
}
