use Rattle.chart_files.specs.Structure.{owner_at}
use Rattle.chart_files.proofs.Tallies.{Tallied}
use Rattle.chart_files.proofs.structure.owners_within.Given as goal

abbrev pub invariant-loop-i : goal.invariant-loop-i
invariant-loop-i l = Tallied 8 (owner_at l.s l.shape) l.shape.actions l.initial.counts l.counts l.i
