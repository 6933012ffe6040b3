use Prim.Native.Nat.{◌^◌}
use native.Mathlib.Omega.{arith}
use Rattle.prelude.specs.Lists.{gather, upto}
use Rattle.model.specs.ChartSet.{read_charts}
use Rattle.model.specs.AutomataTable.{write_clock}
use Rattle.model.specs.Translation.{state_count, transition_clocks, waiting_clocks}
use Rattle.twin_records.proofs.TextsWritten.{puts-as, puts_then}
use Rattle.twin_records.proofs.TextsSections.{section-append}
use Rattle.twin_records.proofs.clocks.put_clocks.Goals as goal

pub returns : goal.returns
returns c =
    let cs = read_charts c.args.s.now in
    puts-as _ (section-append 37 write_clock (transition_clocks cs) (gather (waiting_clocks cs) (upto (state_count cs)))) (puts_then (2 ^ 40) (omega arith) c.put_transition_clocks-waiting_at.ensures c.put_waiting_clocks.ensures)
