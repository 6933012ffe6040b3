use native.Mathlib.Omega.{arith}
use Rattle.model.specs.ChartSet.{read_guard, read_transition}
use Rattle.listing.specs.Sets.{transition_text}
use Rattle.listing_parts.proofs.Near.{near-then, near-as}
use Rattle.listing.proofs.sets.put_transition.Goals as goal

pub returns : goal.returns
returns c =
    let source = c.two.ensures.0 in
    let target = c.two-2.ensures.0 in
    let trigger = (read_transition c.args.r.now).trigger in
    let ends = near-then (near-then c.put_named-source.ensures c.put_named-target.ensures) c.put_named-priority.ensures in
    near-as (near-then (near-then (near-then ends c.put_named-trigger.ensures) c.put_trigger-guard.ensures) c.put_guard.ensures)
    (λ x. transition_text c.args.i (record { priority = c.one.ensures x; source = source x; target = target x; trigger = trigger; guard = read_guard (c.u16_at.ensures x) }))
    (omega arith)
