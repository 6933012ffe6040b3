use mathlib.Core.Path.{refl, sym, ap, ◌∙◌, subst}
use mathlib.Core.List.{[], ◌∷◌}
use Prim.Native.Nat.{◌+◌, ◌*◌}
use native.Mathlib.Omega.{arith}
use lib.ListN.{set, length-set}
use Rattle.records.specs.Bytes.{two}
use Rattle.records.specs.Wrote.{Wrote}
use Rattle.records.proofs.Wrote.{nothing-wrote, wrote_then}
use Rattle.lead_back.proofs.Numbers.{numbers-none, numbers_more}
use Rattle.lead_back.proofs.put_path.Goals as goal

pub loop-i-init : goal.loop-i-init
loop-i-init c =
    let a = c.args in
    (refl, subst (λ t. Wrote a.path.now 0 t a.path.now 0) (sym (numbers-none a.bytes.now)) (nothing-wrote a.path.now 0))

pub loop-i-preserved : goal.loop-i-preserved
loop-i-preserved c =
    let l = c.loop-i in
    let a = c.args in
    let kept = length-set l.path l.i c.u16_at.result in
    let after = set l.path l.i c.u16_at.result in
    let one : Wrote l.path l.i (two a.bytes.now (2 * l.i) ∷ []) after (l.i + 1) =
    record { behind = refl; written = ap (λ v. set l.path l.i v) c.u16_at.ensures } in (
      kept ∙ l.invariant.0,
      subst (λ t. Wrote a.path.now 0 t after (l.i + 1)) (sym (numbers_more l.i a.bytes.now)) (wrote_then l.invariant.1 one),
    )
