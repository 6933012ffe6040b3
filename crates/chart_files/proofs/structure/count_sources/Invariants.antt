use mathlib.Core.List.{[], ◌∷◌}
use Rattle.chart_files.specs.Structure.{source_at}
use Rattle.chart_checks.proofs.Used.{Gathered}
use Rattle.chart_files.proofs.structure.count_sources.Given as goal

abbrev pub invariant-loop-t : goal.invariant-loop-t
invariant-loop-t l = Gathered (λ t. source_at l.s l.shape t ∷ []) l.shape.transitions l.initial.left l.left l.t
