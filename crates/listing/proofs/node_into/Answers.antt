use mathlib.Core.Path.{refl}
use native.Mathlib.Omega.{arith}
use Rattle.listing_parts.proofs.Near.{near-then, near-as, near-begins}
use Rattle.listing.proofs.node_into.Goals as goal

pub returns : goal.returns
returns c =
    near-begins (near-as (near-then c.put_node-end.ensures c.put_word.ensures) refl (omega arith))
