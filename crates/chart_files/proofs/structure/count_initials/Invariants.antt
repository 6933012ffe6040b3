use mathlib.Core.List.{[], ◌∷◌}
use Prim.Native.Nat.{◌+◌, ◌*◌}
use Rattle.records.specs.Bytes.{two}
use Rattle.chart_checks.proofs.Used.{Gathered}
use Rattle.chart_files.proofs.structure.count_initials.Given as goal

abbrev pub invariant-loop-c : goal.invariant-loop-c
invariant-loop-c l = Gathered (λ c. two l.s (16 * c + 2) ∷ []) l.fn.shape.charts l.initial.initial' l.initial' l.c
