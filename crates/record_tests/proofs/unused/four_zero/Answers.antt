use mathlib.Core.Path.{ap, ◌∙◌}
use lib.Dec.{eqb}
use Rattle.record_tests.proofs.UnusedWords.{four-zero}
use Rattle.record_tests.proofs.unused.four_zero.Goals as goal

pub returns : goal.returns
returns c =
    let a = c.args in ap (λ n. eqb n 0) c.u32_at.ensures ∙ four-zero a.r.now a.k
