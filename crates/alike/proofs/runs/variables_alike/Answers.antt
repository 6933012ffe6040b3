use mathlib.Core.Path.{◌∙◌}
use native.Mathlib.Omega.{arith}
use Rattle.alike.proofs.Same.{variables-same}
use Rattle.alike.proofs.runs.variables_alike.Goals as goal

pub returns : goal.returns
returns c = c.eq.ensures ∙ variables-same c.args.variables c.args.others (omega arith) (omega arith)
