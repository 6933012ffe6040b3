use Prim.Native.Nat.{◌+◌}
use lib.ListN.{get_or}
use Rattle.prelude.proofs.Filled.{Filled}
use Rattle.chart_runs.proofs.grow_ages.Given as goal

abbrev pub invariant-loop-k : goal.invariant-loop-k
invariant-loop-k l = Filled (λ j. get_or l.initial.ages j 0 + 1) 0 l.initial.ages l.ages l.k
