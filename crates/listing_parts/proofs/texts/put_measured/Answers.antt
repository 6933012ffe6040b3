use mathlib.Core.Path.{refl}
use native.Mathlib.Omega.{arith}
use Rattle.listing_parts.proofs.Near.{near-then, near-as}
use Rattle.listing_parts.proofs.texts.put_measured.Goals as goal

pub returns : goal.returns
returns c =
    near-as (near-then c.put_named-next.ensures c.put_word.ensures) refl (omega arith)
