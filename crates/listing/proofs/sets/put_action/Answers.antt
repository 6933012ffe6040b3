use mathlib.Core.List.{◌++◌}
use mathlib.Core.Path.{ap, ◌∙◌}
use native.Mathlib.Omega.{arith}
use Rattle.records.specs.Bytes.{byte, two, four}
use Rattle.model.specs.ChartSet.{read_plus_one, action_by}
use Rattle.listing.specs.Sets.{owner_text}
use Rattle.listing_parts.specs.Parts.{named, action_text}
use Rattle.listing_parts.proofs.Near.{near-then, near-as}
use Rattle.listing.proofs.sets.put_action.Goals as goal

pub returns : goal.returns
returns c =
    let r = c.args.r.now in
    let start = named "action " c.args.i ++ owner_text (byte r 1) (two r 2) (four r 12) in
    near-as (near-then (near-then c.put_named-owner.ensures c.put_owner-deed.ensures) c.put_conditional.ensures)
    (ap (λ d. start ++ action_text (record { guard = read_plus_one c.u16_at.result; deed = d })) c.deed_by.ensures ∙ (λ x. start ++ action_text (action_by (c.u16_at.ensures x) (c.byte_at.ensures x) (c.byte_at-2.ensures x) (c.u16_at-2.ensures x))))
    (omega arith)
