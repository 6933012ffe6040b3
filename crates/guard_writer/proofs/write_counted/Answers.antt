use mathlib.Core.Path.{◌≡◌, sym, ap, ◌∙◌}
use mathlib.Core.Option.{none}
use Prim.Native.Nat.{◌/◌}
use native.Mathlib.Omega.{arith}
use lib.ListN.{length}
use Rattle.expressions.specs.Nodes.{node_at}
use Rattle.guards.specs.Lists.{list_refusal}
use Rattle.guard_writer.specs.Answers.{listed_of}
use Rattle.guard_writer.proofs.Texts.{near-as, wrote_as}
use Rattle.guard_writer.proofs.Lines.{near-line, line-is, line-answer}
use Rattle.guard_writer.proofs.write_counted.Goals as goal

pub put_tree-size-requires : goal.put_tree-size-requires
put_tree-size-requires c =
    let s = c.args.nodes.now in
    let listed = c.list_refusal.ensures in
    near-as (near-line s (sym (ap listed_of c.in_ok-root.was) ∙ listed.answer)) (sym (line-is s (listed.root _ c.in_ok-root.was)))

pub put_tree-requires : goal.put_tree-requires
put_tree-requires c =
    let s = c.args.nodes.now in
    let listed = c.list_refusal.ensures in
    near-as (near-line s (sym (ap listed_of c.in_ok-root.was) ∙ listed.answer)) (sym (line-is s (listed.root _ c.in_ok-root.was)))

pub returns : goal.returns
returns c =
    let s = c.args.nodes.now in
    let listed = c.list_refusal.ensures in
    let accepted : none ≡ list_refusal (node_at s) (length s / 16) = sym (ap listed_of c.in_ok-root.was) ∙ listed.answer in
    let same = line-is s (listed.root _ c.in_ok-root.was) in
    let w = wrote_as c.put_tree-size.ensures same in
    line-answer s c.args.text.now accepted (omega (arith, w.behind, c.if-text-size.false)) (wrote_as c.put_tree.ensures same)
