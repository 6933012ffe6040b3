use mathlib.Core.Path.{refl, sym, ap, ◌∙◌, subst}
use mathlib.Core.List.{[], ◌∷◌}
use Prim.Native.Nat.{◌+◌, ◌*◌}
use native.Mathlib.Omega.{arith}
use lib.ListN.{set, length-set}
use Rattle.records.specs.Bytes.{four}
use Rattle.records.specs.Wrote.{Wrote}
use Rattle.records.proofs.Wrote.{nothing-wrote, wrote_then}
use Rattle.compare.proofs.Masks.{masks-none, masks-more}
use Rattle.compare.proofs.put_masks.Goals as goal

pub loop-i-init : goal.loop-i-init
loop-i-init c =
    let a = c.args in
    (refl, subst (λ t. Wrote a.masks.now 0 t a.masks.now 0) (sym (masks-none a.bytes.now)) (nothing-wrote a.masks.now 0))

pub loop-i-preserved : goal.loop-i-preserved
loop-i-preserved c =
    let l = c.loop-i in
    let a = c.args in
    let kept = length-set l.masks l.i c.u32_at.result in
    let after = set l.masks l.i c.u32_at.result in
    let one : Wrote l.masks l.i (four a.bytes.now (4 * l.i) ∷ []) after (l.i + 1) =
    record { behind = refl; written = ap (λ v. set l.masks l.i v) c.u32_at.ensures } in (
      kept ∙ l.invariant.0,
      subst (λ t. Wrote a.masks.now 0 t after (l.i + 1)) (sym (masks-more l.i a.bytes.now)) (wrote_then l.invariant.1 one),
    )
