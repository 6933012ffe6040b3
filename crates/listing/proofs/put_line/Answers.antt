use mathlib.Core.Path.{refl}
use native.Mathlib.Omega.{arith}
use Rattle.listing_parts.proofs.Near.{near-then, near-as, near-begins}
use Rattle.listing.proofs.Written.{near_of}
use Rattle.listing.proofs.put_line.Goals as goal

pub returns : goal.returns
returns c =
    near-begins (near-as (near-then (near-then c.put_fields-guard.ensures c.put_beside-end.ensures) (near_of 1 c.put_word.ensures.wrote (omega arith))) refl (omega arith))
