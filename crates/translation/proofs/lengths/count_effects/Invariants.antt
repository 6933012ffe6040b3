use mathlib.Core.Path.{◌≡◌}
use Prim.Native.Nat.{◌*◌, ◌≤◌}
use Rattle.model.specs.ChartSet.{read_charts}
use Rattle.prelude.proofs.Sums.{sum_from}
use Rattle.translation.proofs.TablesCounts.{effects_of}
use Rattle.translation.proofs.lengths.count_effects.Given as goal

abbrev pub invariant-loop-t : goal.invariant-loop-t
invariant-loop-t l = (l.n ≡ sum_from (effects_of (read_charts l.s)) 0 l.t) × (l.n ≤ 41 * l.t)
