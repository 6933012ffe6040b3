use mathlib.Core.Path.{◌≡◌, subst}
use mathlib.Core.List.{List}
use Prim.Native.Nat.{ℕ, ◌<◌}
use Rattle.model.specs.Limits.{most_clocks}
use native.Mathlib.Omega.{arith}
use lib.ListN.{get_or}
use Rattle.model.specs.Automata.{grown}
use Rattle.automata_records.specs.declared.Shape.{Shape}
use Rattle.automata_records.specs.Places.{clock_at}
use Rattle.automata_records.proofs.PlacesRead.{most-clocks}
use Rattle.prelude.proofs.Filled.{Filled, filled-mapped}
use Rattle.automata.proofs.runs.grow.Goals as goal

abbrev more : List ℕ → Shape → ℕ → ℕ → ℕ
more s sh k x = grown (clock_at s sh k).timing (clock_at s sh k).ticks x

pub bounds-clocks-i : goal.bounds-clocks-i
bounds-clocks-i c =
    let few : c.loop-k.k < most_clocks = omega (arith, c.loop-k-test.true, most-clocks c.args.s.now c.args.shape c.requires.accepted.0.shape) in
    omega (arith, few)

pub returns : goal.returns
returns c =
    let a = c.args in
    let l = c.loop-k in
    let f : ℕ → ℕ = λ j. more a.s.now a.shape j (get_or a.clocks.now j 0) in
    let end : l.k ≡ a.shape.clocks = omega (arith, l.invariant.0, c.loop-k-test.false) in
    filled-mapped (more a.s.now a.shape) a.shape.clocks a.clocks.now l.clocks (subst (Filled f 0 a.clocks.now l.clocks) end l.invariant.1)
