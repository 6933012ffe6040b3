use native.Mathlib.Omega.{arith}
use lib.Dec.{eqb}
use Rattle.listing.specs.Tables.{edge_text}
use Rattle.listing_parts.proofs.Near.{near-then, near-as}
use Rattle.listing.proofs.tables.put_edge.Goals as goal

pub returns : goal.returns
returns c =
    let source = c.two.ensures.0 in
    let target = c.two-2.ensures.0 in
    near-as (near-then (near-then (near-then (near-then c.put_named-automaton.ensures c.put_named-source.ensures) c.put_named-target.ensures) c.put_named-idle.ensures) c.put_idle.ensures)
    (λ x. edge_text c.args.i (record { automaton = c.one.ensures x; source = source x; target = target x; idles = eqb (c.byte_at.ensures x) 1 }))
    (omega arith)
