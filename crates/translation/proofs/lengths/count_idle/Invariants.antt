use mathlib.Core.Path.{◌≡◌}
use Prim.Native.Nat.{ℕ, ◌*◌, ◌<◌, ◌≤◌}
use lib.ListN.{length, get_or}
use Rattle.prelude.proofs.Sums.{sum_from}
use Rattle.model.specs.ChartSet.{read_charts}
use Rattle.model.specs.Translation.{clocks_leaving, clocks_of_state}
use Rattle.translation.proofs.TablesCounts.{idle_parts}
use Rattle.translation.proofs.lengths.count_idle.Given as goal

abbrev pub invariant-loop-state : goal.invariant-loop-state
invariant-loop-state l = record {
  counted : l.n ≡ sum_from (idle_parts (read_charts l.s)) 0 l.state;
  few : l.n ≤ 45 * l.state;
  done : (st : ℕ) → st < l.state → get_or l.clocks st 0 ≡ length (clocks_of_state (read_charts l.s) st);
  rest : (st : ℕ) → l.state ≤ st → st < 128 → get_or l.clocks st 0 ≡ length (clocks_leaving (read_charts l.s) st);
  long : length l.clocks ≡ 128;
}
