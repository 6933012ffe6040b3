use mathlib.Core.Path.{refl}
use native.Mathlib.Omega.{arith}
use Rattle.listing_parts.proofs.Near.{near-then, near-as}
use Rattle.listing_parts.proofs.fields.put_conditional.Goals as goal

pub returns : goal.returns
returns c =
    near-as (near-then c.put_deed-condition.ensures c.put_condition.ensures) refl (omega arith)
