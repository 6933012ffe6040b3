use Prim.Native.Nat.{◌^◌}
use Rattle.model.specs.ChartSet.{read_charts}
use Rattle.twin_records.proofs.TextsWritten.{Texts}
use Rattle.model.specs.Translation.{from_transition, updates_of}
use Rattle.twin_records.specs.Texts.{update_texts}
use Rattle.edge_records.proofs.updates.put_updates.Given as goal

abbrev pub invariant-loop-t : goal.invariant-loop-t
invariant-loop-t l = Texts (λ i. update_texts i (updates_of (read_charts l.s) (from_transition i))) (2 ^ 22) l.initial.out l.at l.out l.place l.t
