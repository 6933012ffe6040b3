use mathlib.Core.Path.{sym, ap, ◌∙◌}
use Prim.Native.Nat.{◌<◌, ◌^◌}
use native.Mathlib.Omega.{arith}
use lib.IntN.{pos}
use lib.ListN.{get_or, get_or-eq_default}
use lib.Signed.{mag}
use mir.Facts.{to_z-of_z, sfits_widen, sfits_to_z, Fits-of_z}
use mir.Syntax.{w16, w64}
use mir.Val.{SFits}
use Rattle.records.specs.Refusal.{val}
use Rattle.arithmetic.proofs.Outcomes.{stands_same, stands_at, of_number, of_zero}
use Rattle.expressions.proofs.values.variable.Goals as goal

pub returns-then-i-vars : goal.returns-then-i-vars
returns-then-i-vars c =
    let k = c.args in
    let held : SFits w16 (get_or k.vars.now k.v (pos 0)) = record { sfits = search } in
    let l : mag (get_or k.vars.now k.v (pos 0)) < 2 ^ 31 = omega (arith, held.sfits) in
    stands_at (to_z-of_z {w = w64} (sfits_widen tt (sfits_to_z (Fits-of_z held))) ∙ to_z-of_z held) (of_number (get_or k.vars.now k.v (pos 0)) l)

pub returns-else-i-vars : goal.returns-else-i-vars
returns-else-i-vars c =
    stands_same of_zero (ap val (sym (get_or-eq_default c.args.vars.now (pos 0) c.if-i-vars.false)))
