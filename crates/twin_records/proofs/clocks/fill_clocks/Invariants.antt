use mathlib.Core.Path.{◌≡◌}
use Prim.Native.Nat.{◌≤◌}
use lib.ListN.{length}
use Rattle.model.specs.ChartSet.{read_charts}
use Rattle.model.specs.Translation.{clock_of}
use Rattle.prelude.proofs.Filled.{Filled}
use Rattle.twin_records.proofs.clocks.fill_clocks.Given as goal

abbrev pub invariant-loop-t : goal.invariant-loop-t
invariant-loop-t l = record {
  few : l.count ≤ l.t;
  counted : l.count ≡ clock_of (read_charts l.s) l.t;
  filled : Filled (clock_of (read_charts l.s)) 0 l.initial.clocks l.clocks l.t;
  long : length l.initial.clocks ≡ 256;
}
