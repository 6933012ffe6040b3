use mathlib.Core.Path.{ap, ◌∙◌}
use lib.Dec.{eqb}
use Rattle.record_tests.proofs.UnusedWords.{byte-zero}
use Rattle.record_tests.proofs.unused.byte_zero.Goals as goal

pub returns : goal.returns
returns c =
    let a = c.args in ap (λ n. eqb n 0) c.byte_at.ensures ∙ byte-zero a.r.now a.k
