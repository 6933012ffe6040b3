use mathlib.Core.Path.{refl}
use native.Mathlib.Omega.{arith}
use Rattle.listing_parts.proofs.Near.{near-then, near-as}
use Rattle.listing_parts.proofs.texts.put_signed.Goals as goal

pub returns : goal.returns
returns c =
    near-as (near-then c.put_word-next.ensures c.put_twos.ensures) refl (omega arith)
