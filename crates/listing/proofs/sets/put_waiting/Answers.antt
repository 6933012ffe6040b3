use native.Mathlib.Omega.{arith}
use Rattle.listing.specs.Sets.{waiting_text}
use Rattle.listing_parts.proofs.Near.{near-then, near-as}
use Rattle.listing.proofs.sets.put_waiting.Goals as goal

pub returns : goal.returns
returns c =
    let state = c.two.ensures.0 in
    near-as (near-then c.put_named-every.ensures c.put_measured.ensures) (λ x. waiting_text (state x) (c.u32_at.ensures x)) (omega arith)
