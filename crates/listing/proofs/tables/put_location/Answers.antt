use mathlib.Core.Path.{ap}
use native.Mathlib.Omega.{arith}
use Rattle.listing.specs.Tables.{location_text}
use Rattle.listing_parts.proofs.Near.{near-then, near-as}
use Rattle.listing.proofs.tables.put_location.Goals as goal

pub returns : goal.returns
returns c =
    near-as (near-then c.put_named-next.ensures c.put_named.ensures) (ap (location_text c.args.i) c.one.ensures) (omega arith)
