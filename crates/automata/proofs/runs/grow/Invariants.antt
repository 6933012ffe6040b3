use mathlib.Core.List.{List}
use Prim.Native.Nat.{ℕ, ◌≤◌}
use lib.ListN.{get_or}
use Rattle.model.specs.Automata.{grown}
use Rattle.automata_records.specs.declared.Shape.{Shape}
use Rattle.automata_records.specs.Places.{clock_at}
use Rattle.prelude.proofs.Filled.{Filled}
use Rattle.automata.proofs.runs.grow.Given as goal

abbrev pub more : List ℕ → Shape → ℕ → ℕ → ℕ
more s sh k x = grown (clock_at s sh k).timing (clock_at s sh k).ticks x

abbrev pub invariant-loop-k : goal.invariant-loop-k
invariant-loop-k l = (l.k ≤ l.shape.clocks) × Filled (λ j. more l.s l.shape j (get_or l.initial.clocks j 0)) 0 l.initial.clocks l.clocks l.k
