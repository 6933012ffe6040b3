use mathlib.Core.List.{List}
use Prim.Native.Nat.{ℕ}
use lib.IntN.{ℤ, pos}
use lib.ListN.{replicate}
use Rattle.machines.specs.declared.values.Values.{Values}
use Rattle.machines.specs.Files.{variable_in}
use Rattle.prelude.proofs.Filled.{Filled}
use Rattle.machines.proofs.values.start_values.Given as goal

abbrev pub first : List ℕ → Values → ℕ → ℤ
first s values v = (variable_in s values v).start

abbrev pub invariant-loop-v : goal.invariant-loop-v
invariant-loop-v l = Filled (first l.s l.values) (pos 0) (replicate 64 (pos 0)) l.made l.v
