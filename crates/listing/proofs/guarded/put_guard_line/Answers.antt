use mathlib.Core.Path.{refl}
use native.Mathlib.Omega.{arith}
use Rattle.listing_parts.proofs.Near.{near-then, near-as}
use Rattle.listing.specs.Guards.{longest_guard}
use Rattle.listing.proofs.Written.{near_of}
use Rattle.listing.proofs.guarded.put_guard_line.Goals as goal

pub returns : goal.returns
returns c =
    near-as
    (near-then (near-then (near-then (near-then c.put_guarded-node.ensures c.put_named-colon.ensures) (near_of 2 c.put_word-line.ensures.wrote (omega arith))) (near_of longest_guard c.put_tree-end.ensures (c.requires.short c.args.g))) (near_of 1 c.put_word.ensures.wrote (omega arith)))
    refl (omega arith)
