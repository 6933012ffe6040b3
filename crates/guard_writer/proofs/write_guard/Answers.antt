use native.Mathlib.Omega.{arith}
use Rattle.guard_writer.proofs.Lines.{few-nodes, some-nodes, near-line, line-answer}
use Rattle.guard_writer.proofs.write_guard.Goals as goal

pub overflow_sub-nodes : goal.overflow_sub-nodes
overflow_sub-nodes c = omega (arith, some-nodes c.args.nodes.now c.in-Some.ensures.accepted)

pub overflow_cast-nodes : goal.overflow_cast-nodes
overflow_cast-nodes c = omega (arith, few-nodes c.args.nodes.now c.in-Some.ensures.accepted)

pub put_tree-requires : goal.put_tree-requires
put_tree-requires c = near-line c.args.nodes.now c.in-Some.ensures.accepted

pub returns-then-bytes-text : goal.returns-then-bytes-text
returns-then-bytes-text c =
    let f = c.in-Some.ensures in
    line-answer c.args.nodes.now c.args.text.now f.accepted (omega (arith, f.enough, c.if-bytes-text.true)) c.put_tree.ensures
