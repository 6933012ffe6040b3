use mathlib.Core.Path.{sym, ◌∙◌}
use native.Mathlib.Omega.{arith}
use Rattle.expressions.specs.Nodes.{node_at}
use Rattle.expressions.specs.Answers.{sort_for}
use Rattle.guard_writer.proofs.Codes.{record-by-level, sort-told}
use Rattle.guard_writer.proofs.Owns.{around-bare, around-enclosed}
use Rattle.guard_writer.proofs.measures.operand_bytes.Goals as goal

pub returns-then-level-k : goal.returns-then-level-k
returns-then-level-k c =
    let x = c.args in
    let s = x.nodes.now in
    around-bare (node_at s) x.n x.k x.a (sort_for x.sort) c.if-n-a.false (sym (c.is_sort.ensures ∙ sort-told s x.a (sort_for x.sort)) ∙ c.if-not-is_sort.false)
    (omega (arith, c.level.ensures, (record-by-level s x.a).same, c.if-level-k.true))

pub returns-else-level-k : goal.returns-else-level-k
returns-else-level-k c =
    let x = c.args in
    let s = x.nodes.now in
    around-enclosed (node_at s) x.n x.k x.a (sort_for x.sort) c.if-n-a.false (sym (c.is_sort.ensures ∙ sort-told s x.a (sort_for x.sort)) ∙ c.if-not-is_sort.false)
    (omega (arith, c.level.ensures, (record-by-level s x.a).same, c.if-level-k.false))
