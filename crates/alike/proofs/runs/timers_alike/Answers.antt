use mathlib.Core.Path.{refl}
use borrow.Author.Rules.{rules}
use Rattle.std.proofs.Common.{tests}
use Rattle.std.proofs.lemmas.Iterator.{serves_from_Range}
use Rattle.prelude.proofs.Ranges.{all_upto}
use Rattle.alike.specs.Alike.{literal_alike}
use Rattle.alike.proofs.runs.timers_alike.Goals as goal

pub all-requires-clause-callable : goal.all-requires-clause-callable
all-requires-clause-callable c = serves_from_Range (λ x q k. search (rules, tests)) (λ x low high. search rules)

pub returns : goal.returns
returns c =
    let a = c.args in
    all_upto (literal_alike a.t.now a.shape a.ages a.locations a.clocks) _ _ _ _ c.all.ensures.ran refl (λ x b q k. search rules)
