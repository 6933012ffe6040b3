use Prim.Native.Nat.{◌^◌}
use Rattle.model.specs.ChartSet.{read_charts}
use Rattle.model.specs.Translation.{from_transition}
use Rattle.twin_records.specs.Texts.{resets_text}
use Rattle.twin_records.proofs.TextsWritten.{Texts}
use Rattle.edge_records.proofs.resets.put_resets.Given as goal

abbrev pub invariant-loop-t : goal.invariant-loop-t
invariant-loop-t l = Texts (λ i. resets_text (read_charts l.s) (from_transition i)) (2 ^ 21) l.initial.out l.at l.out l.place l.t
