use mathlib.Core.Path.{ap}
use Rattle.automata.proofs.lent.start.Goals as goal

pub returns : goal.returns
returns c = (ap (λ o. o.answer) c.fresh-called.ensures, ap (λ o. o.lent) c.fresh-called.ensures)
