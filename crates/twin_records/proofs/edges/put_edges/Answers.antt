use Prim.Native.Nat.{◌^◌}
use native.Mathlib.Omega.{arith}
use Rattle.model.specs.ChartSet.{read_charts}
use Rattle.twin_records.proofs.TextsWritten.{puts-as, puts_then}
use Rattle.twin_records.proofs.TextsSections.{edges-text}
use Rattle.twin_records.proofs.edges.put_edges.Goals as goal

pub returns : goal.returns
returns c =
    puts-as _ (edges-text (read_charts c.args.s.now)) (puts_then (2 ^ 40) (omega arith) c.put_transition_edges-idles_at.ensures c.put_idle_edges.ensures)
