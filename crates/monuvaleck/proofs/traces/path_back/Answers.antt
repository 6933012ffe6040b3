use mathlib.Core.Path.{sym, ap, ◌∙◌}
use native.Mathlib.Omega.{arith}
use Rattle.paths.proofs.AlongBounds.{few}
use Rattle.monuvaleck.proofs.traces.path_back.Goals as goal

pub size_code-requires : goal.size_code-requires
size_code-requires c =
    λ n e.
    let a = c.args in
    omega (arith, few a.s.now a.path.now a.rows.now n (ap (λ o. o.answer) (sym c.path_back.ensures) ∙ e))
