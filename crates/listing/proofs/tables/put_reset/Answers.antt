use native.Mathlib.Omega.{arith}
use Rattle.listing.specs.Tables.{reset_text}
use Rattle.listing_parts.proofs.Near.{near-then, near-as}
use Rattle.listing.proofs.tables.put_reset.Goals as goal

pub returns : goal.returns
returns c =
    let edge = c.two.ensures.0 in
    let clock = c.two-2.ensures.0 in
    near-as (near-then (near-then c.put_named-edge.ensures c.put_named-clock.ensures) c.put_named.ensures) (λ x. reset_text c.args.i (edge x, clock x)) (omega arith)
