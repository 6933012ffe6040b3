use mathlib.Core.Path.{sym}
use Prim.Native.Nat.{◌+◌}
use native.Mathlib.Omega.{arith}
use borrow.Author.Tests.{eq-eqb}
use lib.ListN.{get_or}
use Rattle.paths.specs.LedOf.{no_edge}
use Rattle.paths.proofs.LedOfSteps.{edge-there, edge-room, few-automata}
use Rattle.paths.proofs.edge_fits.Goals as goal

pub bounds-table-e : goal.bounds-table-e
bounds-table-e c =
    edge-room c.requires.0 c.requires.1 c.if-table-e.false

pub bounds-locations-a : goal.bounds-locations-a
bounds-locations-a c =
    few-automata c.requires.0 c.requires.1 c.if-table-e.false

pub returns-then-edge-walk : goal.returns-then-edge-walk
returns-then-edge-walk c =
    let a = c.args in
    let x = get_or a.table.now.edges a.e no_edge in
    let h = c.if-table-e.false in
    sym (edge-there a.s.now a.shape c.requires.0 a.e a.locations.now a.walk x (c.requires.1.each a.e h) (omega (arith, h, c.requires.1.count)) (eq-eqb (x.automaton + 1) a.walk.position c.if-edge-walk.true))
