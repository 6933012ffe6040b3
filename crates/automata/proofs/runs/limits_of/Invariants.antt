use mathlib.Core.List.{List}
use Prim.Native.Nat.{ℕ, ◌≤◌}
use lib.ListN.{replicate}
use Rattle.model.specs.Limits.{most_clocks}
use Rattle.automata_records.specs.declared.Shape.{Shape}
use Rattle.automata_records.specs.Places.{clock_at}
use Rattle.prelude.proofs.Filled.{Filled}
use Rattle.timings.specs.Growth.{turn_for, cap_for}
use Rattle.automata.proofs.runs.limits_of.Given as goal

abbrev pub turns : List ℕ → Shape → ℕ → ℕ
turns s sh k = turn_for (clock_at s sh k).timing (clock_at s sh k).ticks

abbrev pub caps : List ℕ → Shape → ℕ → ℕ
caps s sh k = cap_for (clock_at s sh k).timing (clock_at s sh k).ticks

abbrev pub invariant-loop-k : goal.invariant-loop-k
invariant-loop-k l = (l.k ≤ l.shape.clocks)
    × Filled (turns l.s l.shape) 0 (replicate most_clocks 65535) l.limits.turn l.k
    × Filled (caps l.s l.shape) 0 (replicate most_clocks 65535) l.limits.cap l.k
