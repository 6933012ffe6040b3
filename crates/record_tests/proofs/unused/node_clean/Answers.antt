use mathlib.Core.Path.{ap, ◌∙◌}
use mathlib.Core.Bool.{not, ◌&&◌, ◌||◌}
use lib.Dec.{eqb}
use Rattle.records.specs.Bytes.{byte}
use Rattle.record_tests.proofs.UnusedWords.{two-zero, four-zero, node-unused}
use Rattle.record_tests.proofs.unused.node_clean.Goals as goal

pub returns : goal.returns
returns c =
    let r = c.args.r.now in
    let code = c.byte_at-code.ensures in
    let first = ap (λ n. eqb n 0) c.u16_within-first.ensures ∙ two-zero r 2 in
    let second = ap (λ n. eqb n 0) c.u16_within-second.ensures ∙ two-zero r 4 in
    let third = ap (λ n. eqb n 0) c.u16_within-third.ensures ∙ two-zero r 6 in
    let constant = ap (λ n. eqb n 0) c.u32_within-constant.ensures ∙ four-zero r 8 in
    let rest = ap (λ n. eqb n 0) c.u32_within-rest.ensures ∙ four-zero r 12 in
    (λ i. rest i
    && (not (c.node_in_code-known.ensures i)
    || ((not (eqb (code i) 1) || first i)
    && (not (eqb (code i) 1 || eqb (code i) 2 || eqb (code i) 19) || second i)
    && (eqb (code i) 8 || third i)
    && (eqb (code i) 1 || constant i))))
    ∙ node-unused r (byte r 1)
