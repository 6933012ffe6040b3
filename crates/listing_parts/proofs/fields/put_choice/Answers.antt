use mathlib.Core.Path.{refl}
use native.Mathlib.Omega.{arith}
use Rattle.listing_parts.proofs.Near.{near-then, near-as}
use Rattle.listing_parts.proofs.fields.put_choice.Goals as goal

pub returns : goal.returns
returns c =
    near-as (near-then c.put_operands-next.ensures c.put_named.ensures) refl (omega arith)
