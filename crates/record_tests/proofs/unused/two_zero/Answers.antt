use mathlib.Core.Path.{ap, ◌∙◌}
use lib.Dec.{eqb}
use Rattle.record_tests.proofs.UnusedWords.{two-zero}
use Rattle.record_tests.proofs.unused.two_zero.Goals as goal

pub returns : goal.returns
returns c =
    let a = c.args in ap (λ n. eqb n 0) c.u16_at.ensures ∙ two-zero a.r.now a.k
