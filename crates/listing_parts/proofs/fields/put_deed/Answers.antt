use mathlib.Core.Path.{sym, ap}
use native.Mathlib.Omega.{arith}
use Rattle.chart_records.specs.Parts.{deed_for}
use Rattle.listing_parts.specs.Parts.{deed_text}
use Rattle.listing_parts.proofs.Near.{near-then, near-as}
use Rattle.listing_parts.proofs.fields.put_deed.Goals as goal

pub returns-in-Assign : goal.returns-in-Assign
returns-in-Assign c =
    near-as (near-then c.put_named-next.ensures c.put_named.ensures) (ap (λ x. deed_text (deed_for x)) (sym c.in-Assign.is)) (omega arith)
