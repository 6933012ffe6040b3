use Prim.Native.Nat.{◌-◌}
use Rattle.model.specs.AutomataTable.{write_update}
use Rattle.chart_records.specs.Places.{action_at}
use Rattle.machines.specs.Chains.{with_key}
use Rattle.chart_steps.specs.Tables.{key_at}
use Rattle.twin_records.specs.Texts.{record_text}
use Rattle.twin_records.proofs.TextsWritten.{Along}
use Rattle.edge_records.proofs.updates.put_actions.Given as goal

abbrev pub invariant-loop-a : goal.invariant-loop-a
invariant-loop-a l = Along (with_key (key_at l.s l.shape) l.key) l.shape.actions (λ i. record_text 40 (write_update (l.edge, (action_at l.s l.shape i).1))) l.initial.out l.at l.out l.place l.a

abbrev pub decreases-loop-a : goal.decreases-loop-a
decreases-loop-a l = 65536 - l.a
