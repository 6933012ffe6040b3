use mathlib.Core.Path.{ap}
use native.Mathlib.Omega.{arith}
use Rattle.listing.specs.Sets.{chart_text}
use Rattle.listing_parts.proofs.Near.{near-then, near-as}
use Rattle.listing.proofs.sets.put_chart.Goals as goal

pub returns : goal.returns
returns c =
    near-as (near-then c.put_named-next.ensures c.put_named.ensures) (ap (chart_text c.args.i) c.two.ensures.0) (omega arith)
