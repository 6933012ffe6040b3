use mathlib.Core.Path.{◌≡◌, ap, ◌∙◌}
use mathlib.Core.Bool.{◌&&◌}
use mathlib.Core.List.{map}
use Prim.Native.Nat.{◌+◌, ◌*◌}
use lib.Dec.{ltb}
use Rattle.prelude.specs.Lists.{all}
use Rattle.records.specs.Bytes.{four±}
use Rattle.expressions.specs.Nodes.{node_at}
use Rattle.expressions.specs.Sorts.{operands, variables_of, node_named, operand_fits, node_fits}
use Rattle.expressions.specs.Uses.{add_uses}
use Rattle.expressions.specs.Answers.{operands_for}
use Rattle.expressions.proofs.Fields.{coded-at, operands-read}
use Rattle.prelude.proofs.Loops.{flagged-more, flagged-all}
use Rattle.expressions.proofs.Uses.{counted-more, counted-all}
use Rattle.expressions.proofs.sorts.test_nodes.Goals as goal

pub loop-n-preserved : goal.loop-n-preserved
loop-n-preserved c =
    let k = c.args in
    let s = k.nodes.now in
    let l = c.loop-n in
    let f = c.fields_at-f in
    let o = c.operands_of-o in
    let in-file = c.loop-n-test.true in
    let read : operands_for o.result ≡ operands (node_at s l.n) = operands-read s l.n f.result f.ensures o.result o.ensures in
    let below = c.all_below.ensures ∙ ap (all (λ x. ltb x.0 k.size)) read in
    let variable = c.variable_below.ensures (four± s (16 * l.n + 8)) ∙ ap (λ x. all (λ v. ltb v k.variables) (variables_of x)) (coded-at s l.n f.result f.ensures) in (
      counted-more (node_at s) k.size k.uses.now l.uses _ l.n l.invariant.0 in-file (c.count_uses.ensures ∙ ap (λ x. add_uses l.uses (map (λ y. y.0) x)) read),
      flagged-more (node_named (node_at s) k.size k.variables) k.size l.tests.named l.n l.invariant.1 in-file (λ i. below i && variable i),
      flagged-more (node_fits (node_at s)) k.size l.tests.fit l.n l.invariant.2 in-file (c.all_fit.ensures ∙ ap (all (operand_fits (node_at s) l.n)) read),
    )

pub returns : goal.returns
returns c =
    let k = c.args in
    let s = k.nodes.now in
    let l = c.loop-n in
    let done = c.loop-n-test.false in
    record {
      named = flagged-all (node_named (node_at s) k.size k.variables) k.size l.tests.named l.n l.invariant.1 done;
      fit = flagged-all (node_fits (node_at s)) k.size l.tests.fit l.n l.invariant.2 done;
      uses = counted-all (node_at s) k.size k.uses.now l.uses l.n l.invariant.0 done;
    }
