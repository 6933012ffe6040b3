use mathlib.Core.Path.{sym, ap, ◌∙◌}
use native.Mathlib.Omega.{arith}
use Rattle.expressions.specs.Nodes.{node_at}
use Rattle.chart_records.specs.Parts.{guard_for}
use Rattle.listing_parts.proofs.Near.{near-then, near-as}
use Rattle.listing.specs.Guards.{longest_guard, beside_text}
use Rattle.listing.proofs.Written.{near_of}
use Rattle.listing.proofs.guarded.put_beside.Goals as goal

pub returns-in-Some : goal.returns-in-Some
returns-in-Some c =
    let node = node_at c.args.nodes.now in
    near-as
    (near-then (near-then (near_of 2 c.put_word-line.ensures.wrote (omega arith)) (near_of longest_guard c.put_tree-behind.ensures (c.requires.1.short c.in-Some.g))) (near_of 1 c.put_word.ensures.wrote (omega arith)))
    (ap (λ g. beside_text node (guard_for g)) (sym c.in-Some.is) ∙ ap (beside_text node) c.guard_of.ensures) (omega arith)
