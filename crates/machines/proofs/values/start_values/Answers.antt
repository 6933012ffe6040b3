use mathlib.Core.Path.{◌≡◌, subst}
use mathlib.Core.List.{List}
use Prim.Native.Nat.{ℕ}
use native.Mathlib.Omega.{arith}
use lib.IntN.{ℤ, pos}
use lib.ListN.{replicate}
use Rattle.machines.specs.declared.values.Values.{Values}
use Rattle.machines.specs.Files.{variable_in}
use Rattle.prelude.proofs.Filled.{Filled, filled-padded}
use Rattle.machines.proofs.values.start_values.Goals as goal

abbrev first : List ℕ → Values → ℕ → ℤ
first s values v = (variable_in s values v).start

pub returns : goal.returns
returns c =
    let a = c.args in
    let l = c.loop-v in
    let f = first a.s.now a.values in
    let end : l.v ≡ a.values.variables = omega arith in
    filled-padded f (pos 0) 64 a.values.variables (omega arith) l.made (subst (Filled f (pos 0) (replicate 64 (pos 0)) l.made) end l.invariant)
