use mathlib.Core.Path.{◌∙◌}
use native.Mathlib.Omega.{arith}
use Rattle.model.specs.ChartSet.{read_plus_one, action_by}
use Rattle.listing.specs.Tables.{update_text}
use Rattle.listing_parts.proofs.Near.{near-then, near-as}
use Rattle.listing.proofs.tables.put_update.Goals as goal

pub returns : goal.returns
returns c =
    let i = c.args.i in
    let edge = c.two.ensures.0 in
    near-as (near-then (near-then c.put_named-edge.ensures c.put_named-deed.ensures) c.put_conditional.ensures)
    ((λ x. update_text i (c.two.result, record { guard = read_plus_one c.u16_at.result; deed = c.deed_by.ensures x })) ∙ (λ x. update_text i (edge x, action_by (c.u16_at.ensures x) (c.byte_at.ensures x) (c.byte_at-2.ensures x) (c.u16_at-2.ensures x))))
    (omega arith)
