use mathlib.Core.Path.{◌≡◌}
use Prim.Native.Nat.{◌+◌, ◌*◌, ◌≤◌}
use Rattle.model.specs.ChartSet.{read_charts}
use Rattle.model.specs.Translation.{clock_of}
use Rattle.prelude.proofs.Sums.{sum_from}
use Rattle.twin_records.specs.Tables.{source_of}
use Rattle.translation.proofs.TablesCounts.{earlier, Added, clocks_at}
use Rattle.translation.proofs.lengths.count_tests.Given as goal

abbrev pub invariant-loop-t : goal.invariant-loop-t
invariant-loop-t l = record {
  counted : l.n ≡ sum_from (earlier (source_of (read_charts l.s))) 0 l.t + l.t + clock_of (read_charts l.s) l.t;
  few : l.n ≤ 300 * l.t;
  leaving : Added (source_of (read_charts l.s)) (λ u. 1) 128 l.leaving l.t;
  clocks : Added (source_of (read_charts l.s)) (clocks_at (read_charts l.s)) 128 l.clocks l.t;
}
