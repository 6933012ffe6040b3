use mathlib.Core.Path.{◌≡◌, sym, ap, ◌∙◌, subst}
use mathlib.Core.List.{[], ◌∷◌, ◌++◌}
use Prim.Native.Nat.{◌+◌}
use native.Mathlib.Numerals.{add-one}
use native.Mathlib.Omega.{arith}
use lib.ListN.{get_or, take}
use lib.Seq.{take-suc}
use Rattle.records.specs.Wrote.{Wrote}
use Rattle.records.proofs.Wrote.{wrote_then}
use Rattle.lines.proofs.put_text.Goals as goal

pub loop-i-preserved : goal.loop-i-preserved
loop-i-preserved c =
    let l = c.loop-i in
    let a = c.args in
    let text = a.text.now in
    let byte = get_or text l.i 0 in
    let put = c.put_byte in
    let one : Wrote l.out (a.at + l.i) (byte ∷ []) put.new.s (a.at + (l.i + 1)) =
    record { behind = let e : a.at + (l.i + 1) ≡ a.at + l.i + 1 = omega arith in e; written = put.ensures } in
    let more : take (l.i + 1) text ≡ take l.i text ++ (byte ∷ []) = ap (λ n. take n text) (add-one l.i) ∙ take-suc text l.i 0 c.loop-i-test.true in
    (put.auto.s ∙ l.invariant.0, subst (λ t. Wrote a.out.now a.at t put.new.s (a.at + (l.i + 1))) (sym more) (wrote_then l.invariant.1 one))
