use Rattle.framing.proofs.Runs.{Tallied}
use Rattle.framing.proofs.tally_of.Given as goal

abbrev pub invariant-loop-k : goal.invariant-loop-k
invariant-loop-k l = Tallied l.first l.most l.s l.counts l.k l.i
