use mathlib.Core.Path.{ap}
use Rattle.records.specs.Refusal.{val}
use Rattle.automata.proofs.lent.fresh.Goals as goal

pub returns : goal.returns
returns c =
    ap (λ q. record { answer = val tt; lent = q }) c.start-run.ensures
