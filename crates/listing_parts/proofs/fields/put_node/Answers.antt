use mathlib.Core.Path.{ap}
use native.Mathlib.Omega.{arith}
use Rattle.listing_parts.specs.Parts.{node_text}
use Rattle.listing_parts.proofs.Near.{near-then, near-as}
use Rattle.listing_parts.proofs.fields.put_node.Goals as goal

pub returns : goal.returns
returns c =
    near-as (near-then c.put_named-next.ensures c.put_operator.ensures) (ap (node_text c.args.i) c.node_at.ensures) (omega arith)
