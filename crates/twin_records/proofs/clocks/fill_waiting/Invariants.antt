use mathlib.Core.Path.{◌≡◌}
use lib.ListN.{length}
use Rattle.model.specs.ChartSet.{read_charts}
use Rattle.model.specs.Translation.{waiting_clock}
use Rattle.prelude.proofs.Filled.{Filled}
use Rattle.twin_records.specs.Tables.{waiting_place}
use Rattle.twin_records.proofs.clocks.fill_waiting.Given as goal

abbrev pub invariant-loop-state : goal.invariant-loop-state
invariant-loop-state l = record {
  counted : l.count ≡ waiting_clock (read_charts l.s) l.state;
  filled : Filled (waiting_place (read_charts l.s)) 65535 l.initial.waiting l.waiting l.state;
  long : length l.initial.waiting ≡ 128;
}
