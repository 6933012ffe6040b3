use mathlib.Core.Bool.{Bool, ◌&&◌}
use mathlib.Core.List.{List, ◌++◌}
use Prim.Native.Nat.{ℕ}
use Rattle.expressions.specs.Nodes.{node_at}
use Rattle.prelude.proofs.Loops.{Flagged}
use Rattle.chart_records.specs.declared.Shape.{Shape}
use Rattle.chart_records.specs.Places.{node_part}
use Rattle.chart_checks.specs.Used.{condition_at, assigned_at, truths, numbers}
use Rattle.chart_checks.proofs.Used.{Gathered}
use Rattle.chart_checks.proofs.uses.actions_fit.Given as goal

abbrev pub used : List ℕ → Shape → ℕ → List ℕ
used s sh i = condition_at s sh i ++ assigned_at s sh i

abbrev pub sorted : List ℕ → Shape → List ℕ → ℕ → Bool
sorted s sh nodes i = truths (node_at nodes) (condition_at s sh i) && numbers (node_at nodes) (assigned_at s sh i)

abbrev pub invariant-loop-i : goal.invariant-loop-i
invariant-loop-i l =
    Gathered (used l.s l.shape) l.shape.actions l.initial.uses l.uses l.i
    × Flagged (sorted l.s l.shape (node_part l.s l.shape)) l.shape.actions l.fit l.i
