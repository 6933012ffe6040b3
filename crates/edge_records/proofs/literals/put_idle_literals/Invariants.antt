use mathlib.Core.Path.{◌≡◌}
use Prim.Native.Nat.{◌^◌}
use Rattle.prelude.specs.Lists.{gather}
use Rattle.model.specs.ChartSet.{read_charts}
use Rattle.model.specs.Translation.{idle_origins, first_idle}
use Rattle.twin_records.specs.Texts.{literals_text}
use Rattle.twin_records.proofs.TextsWritten.{Texts}
use Rattle.edge_records.proofs.literals.put_idle_literals.Given as goal

abbrev pub invariant-loop-state : goal.invariant-loop-state
invariant-loop-state l = Texts (λ i. gather (literals_text (read_charts l.s)) (idle_origins (read_charts l.s) i)) (2 ^ 22) l.initial.out l.at l.out l.next l.state × (l.edge ≡ first_idle (read_charts l.s) l.state)
