use Prim.Native.Nat.{◌-◌}
use Rattle.model.specs.ChartSet.{read_charts}
use Rattle.model.specs.Translation.{transition_count}
use Rattle.machines.specs.Chains.{with_key}
use Rattle.twin_records.specs.Tables.{source_of}
use Rattle.twin_records.proofs.TextsWritten.{Along}
use Rattle.edge_records.proofs.TextsEdges.{clock_resets}
use Rattle.edge_records.proofs.resets.put_leaving.Given as goal

abbrev pub invariant-loop-t : goal.invariant-loop-t
invariant-loop-t l = Along (with_key (source_of (read_charts l.s)) l.state) (transition_count (read_charts l.s)) (clock_resets (read_charts l.s) l.edge l.state) l.initial.out l.at l.out l.place l.t

abbrev pub decreases-loop-t : goal.decreases-loop-t
decreases-loop-t l = 65536 - l.t
