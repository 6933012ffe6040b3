use mathlib.Core.Path.{◌∙◌}
use native.Mathlib.Omega.{arith}
use Rattle.alike.proofs.Same.{places-same}
use Rattle.alike.proofs.runs.places_alike.Goals as goal

pub returns : goal.returns
returns c = c.eq.ensures ∙ places-same c.args.charts c.args.states c.args.locations (omega arith) (omega arith)
