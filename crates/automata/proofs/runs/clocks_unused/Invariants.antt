use lib.Dec.{eqb}
use Rattle.prelude.proofs.Behind.{BehindBy}
use Rattle.automata.proofs.runs.clocks_unused.Given as goal

abbrev pub invariant-loop-k : goal.invariant-loop-k
invariant-loop-k l = BehindBy (λ x. eqb x 0) 0 l.count l.clocks l.unused l.k
