use Prim.Native.Nat.{◌^◌}
use native.Mathlib.Omega.{arith}
use Rattle.records.specs.Bytes.{signed}
use Rattle.listing_parts.specs.Parts.{variable_text}
use Rattle.listing_parts.proofs.Near.{near-then, near-as}
use Rattle.listing_parts.proofs.fields.put_variable.Goals as goal

pub returns : goal.returns
returns c =
    let lowest = c.two.ensures.0 in
    let highest = c.two-2.ensures.0 in
    let start = c.two-3.ensures.0 in
    near-as (near-then (near-then (near-then c.put_named-lowest.ensures c.put_signed-highest.ensures) c.put_signed-start.ensures) c.put_signed.ensures)
    (λ x. variable_text c.args.i (record { lowest = signed (2 ^ 15) (lowest x); highest = signed (2 ^ 15) (highest x); start = signed (2 ^ 15) (start x) }))
    (omega arith)
