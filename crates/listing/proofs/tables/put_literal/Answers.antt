use native.Mathlib.Omega.{arith}
use lib.Dec.{eqb}
use Rattle.model.specs.ChartSet.{read_guard}
use Rattle.model.specs.AutomataTable.{read_literal}
use Rattle.listing.specs.Tables.{literal_text}
use Rattle.listing_parts.proofs.Near.{near-then, near-as}
use Rattle.listing.proofs.tables.put_literal.Goals as goal

pub returns : goal.returns
returns c =
    let edge = c.two.ensures.0 in
    let trigger = (read_literal c.args.r.now).1.trigger in
    near-as (near-then (near-then (near-then (near-then c.put_named-edge.ensures c.put_named-sign.ensures) c.put_sign-trigger.ensures) c.put_literal_trigger-guard.ensures) c.put_guard.ensures)
    (λ x. literal_text c.args.i (edge x, record { must = eqb (c.byte_at.ensures x) 1; trigger = trigger; guard = read_guard (c.u16_at.ensures x) }))
    (omega arith)
