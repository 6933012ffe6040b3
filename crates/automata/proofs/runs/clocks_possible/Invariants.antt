use mathlib.Core.Bool.{Bool}
use mathlib.Core.List.{List}
use Prim.Native.Nat.{ℕ}
use lib.Dec.{leb}
use lib.ListN.{get_or}
use Rattle.automata_records.specs.declared.Shape.{Shape}
use Rattle.automata.specs.RunOf.{top_at}
use Rattle.prelude.proofs.Loops.{Flagged}
use Rattle.automata.proofs.runs.clocks_possible.Given as goal

abbrev pub inside : List ℕ → Shape → List ℕ → ℕ → Bool
inside s sh clocks k = leb (get_or clocks k 0) (top_at s sh k)

abbrev pub invariant-loop-k : goal.invariant-loop-k
invariant-loop-k l = Flagged (inside l.s l.shape l.clocks) l.shape.clocks l.possible l.k
