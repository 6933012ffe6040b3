use mathlib.Core.Path.{refl}
use native.Mathlib.Omega.{arith}
use Rattle.listing_parts.proofs.Near.{near-then, near-as}
use Rattle.listing.proofs.tables.put_clock.Goals as goal

pub returns : goal.returns
returns c =
    near-as (near-then c.put_named-next.ensures c.put_timing.ensures) refl (omega arith)
