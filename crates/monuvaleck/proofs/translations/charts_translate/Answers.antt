use mathlib.Core.Path.{sym, ap, ◌∙◌}
use native.Mathlib.Omega.{arith}
use Rattle.monuvaleck.proofs.TwinLengths.{short}
use Rattle.monuvaleck.proofs.translations.charts_translate.Goals as goal

pub size_code-requires : goal.size_code-requires
size_code-requires c =
    λ n e.
    let a = c.args in
    omega (arith, short a.s.now a.out.now n (ap (λ o. o.answer) (sym c.translate.ensures) ∙ e))
