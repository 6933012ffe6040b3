use native.Mathlib.Omega.{arith}
use Rattle.std.proofs.lemmas.Grind.{common_steps}
use Rattle.prelude.specs.Lists.{case_of}
use Rattle.listing_parts.proofs.Near.{near-as}
use Rattle.listing.proofs.sets.put_owner.Goals as goal

pub returns-in-1 : goal.returns-in-1
unfolding case_of
returns-in-1 c = near-as c.put_named.ensures (grind (arith, common_steps)) (omega arith)

pub returns-in-2 : goal.returns-in-2
unfolding case_of
returns-in-2 c = near-as c.put_named-in-2.ensures (grind (arith, common_steps)) (omega arith)

pub returns-in-4 : goal.returns-in-4
unfolding case_of
returns-in-4 c = near-as c.put_waiting.ensures (grind (arith, common_steps)) (omega arith)

pub returns-in_default : goal.returns-in_default
unfolding case_of
returns-in_default c = near-as c.put_named-in_default.ensures (grind (arith, common_steps)) (omega arith)
