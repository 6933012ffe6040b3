use mathlib.Core.Path.{sym, ap}
use borrow.Author.Tests.{eq-eqb, ne_eqb}
use Rattle.records.specs.Refusal.{fault}
use Rattle.arithmetic.specs.Outcomes.{fault_of}
use Rattle.arithmetic.proofs.Outcomes.{stands_same, of_range, of-divisor}
use Rattle.expressions.proofs.values.number_fault.Goals as goal

pub returns-then-t-eq2 : goal.returns-then-t-eq2
returns-then-t-eq2 c =
    stands_same of_range (ap (λ b. fault (fault_of b)) (sym (eq-eqb c.args.t 2 c.if-t-eq2.true)))

pub returns-else-t-eq2 : goal.returns-else-t-eq2
returns-else-t-eq2 c =
    stands_same of-divisor (ap (λ b. fault (fault_of b)) (sym (ne_eqb c.args.t 2 c.if-t-eq2.false)))
