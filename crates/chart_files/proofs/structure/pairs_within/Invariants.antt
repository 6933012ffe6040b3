use Rattle.chart_files.specs.Structure.{pair_at}
use Rattle.chart_files.proofs.Tallies.{Tallied}
use Rattle.chart_files.proofs.structure.pairs_within.Given as goal

abbrev pub invariant-loop-t : goal.invariant-loop-t
invariant-loop-t l = Tallied 1 (pair_at l.s l.shape) l.shape.transitions l.initial.seen l.seen l.t
