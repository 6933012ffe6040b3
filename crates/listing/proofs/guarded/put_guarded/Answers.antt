use native.Mathlib.Omega.{arith}
use Rattle.std.proofs.lemmas.Grind.{common_steps}
use Rattle.prelude.specs.Lists.{case_of}
use Rattle.listing_parts.proofs.Near.{near-as}
use Rattle.listing.proofs.guarded.put_guarded.Goals as goal

pub returns-in-3 : goal.returns-in-3
unfolding case_of
returns-in-3 c = near-as c.put_named.ensures (grind (arith, common_steps)) (omega arith)

pub returns-in-6 : goal.returns-in-6
unfolding case_of
returns-in-6 c = near-as c.put_named-in-6.ensures (grind (arith, common_steps)) (omega arith)

pub returns-in-36 : goal.returns-in-36
unfolding case_of
returns-in-36 c = near-as c.put_named-in-36.ensures (grind (arith, common_steps)) (omega arith)

pub returns-in_default : goal.returns-in_default
unfolding case_of
returns-in_default c = near-as c.put_named-in_default.ensures (grind (arith, common_steps)) (omega arith)
