use mathlib.Core.Bool.{Bool}
use mathlib.Core.List.{List}
use Prim.Native.Nat.{ℕ, ◌<◌}
use native.Mathlib.Omega.{arith}
use lib.Dec.{leb}
use lib.ListN.{get_or}
use Rattle.model.specs.Limits.{most_clocks}
use Rattle.automata_records.specs.declared.Shape.{Shape}
use Rattle.automata_records.proofs.PlacesRead.{most-clocks}
use Rattle.automata.specs.RunOf.{top_at}
use Rattle.prelude.proofs.Loops.{flagged-more, flagged-all}
use Rattle.automata.proofs.runs.clocks_possible.Goals as goal

abbrev inside : List ℕ → Shape → List ℕ → ℕ → Bool
inside s sh clocks k = leb (get_or clocks k 0) (top_at s sh k)

pub bounds-clocks-i : goal.bounds-clocks-i
bounds-clocks-i c =
    let few : c.loop-k.k < most_clocks = omega (arith, c.loop-k-test.true, most-clocks c.args.s.now c.args.shape c.requires) in
    omega (arith, few)

pub loop-k-preserved : goal.loop-k-preserved
loop-k-preserved c =
    let a = c.args in
    let l = c.loop-k in
    flagged-more (inside a.s.now a.shape a.clocks.now) a.shape.clocks l.possible l.k l.invariant c.loop-k-test.true c.clock_possible-possible.ensures

pub returns : goal.returns
returns c =
    let a = c.args in
    let l = c.loop-k in
    flagged-all (inside a.s.now a.shape a.clocks.now) a.shape.clocks l.possible l.k l.invariant (omega (arith, c.loop-k-test.false))
