use Rattle.chart_steps.specs.Tables.{key_at}
use Rattle.translation.proofs.TablesCounts.{Added}
use Rattle.translation.proofs.lengths.count_actions.Given as goal

abbrev pub invariant-loop-a : goal.invariant-loop-a
invariant-loop-a l = Added (key_at l.s l.shape) (λ i. 1) 641 l.counts l.a
