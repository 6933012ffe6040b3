use mathlib.Core.Path.{◌≡◌, subst}
use native.Mathlib.Omega.{arith}
use lib.ListN.{replicate}
use Rattle.machines.specs.Files.{initial_in}
use Rattle.prelude.proofs.Filled.{Filled, filled-padded}
use Rattle.machines.proofs.checks.initial_places.Goals as goal

pub returns : goal.returns
returns c =
    let a = c.args in
    let l = c.loop-c in
    let f = initial_in a.s.now in
    let end : l.c ≡ a.parts = omega arith in
    filled-padded f 0 8 a.parts (omega arith) l.at (subst (Filled f 0 (replicate 8 0) l.at) end l.invariant)
