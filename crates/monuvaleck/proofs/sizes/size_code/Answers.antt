use mathlib.Core.Path.{ap}
use borrow.Author.Rules.{rules}
use Rattle.records.specs.RefusalOf.{refusal_of, out_of}
use Rattle.monuvaleck.proofs.sizes.size_code.Goals as goal

pub overflow_cast-result : goal.overflow_cast-result
overflow_cast-result c =
    let small = c.requires c.in-Ok.n (ap (out_of refusal_of) c.in-Ok.is) in
    search (rules, small)
