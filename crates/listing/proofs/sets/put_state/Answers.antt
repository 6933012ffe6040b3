use mathlib.Core.Path.{ap}
use native.Mathlib.Omega.{arith}
use Rattle.listing.specs.Sets.{state_text}
use Rattle.listing_parts.proofs.Near.{near-then, near-as}
use Rattle.listing.proofs.sets.put_state.Goals as goal

pub returns : goal.returns
returns c =
    near-as (near-then c.put_named-next.ensures c.put_named.ensures) (ap (state_text c.args.i) c.one.ensures) (omega arith)
