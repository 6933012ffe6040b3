use mathlib.Core.Path.{◌≡◌, sym, ap, ◌∙◌}
use Prim.Native.Nat.{◌+◌, ◌-◌}
use native.Mathlib.Omega.{arith}
use borrow.Author.Rules.{rules}
use lib.ListN.{length, take, drop, take-append-drop}
use lib.Seq.{sets, length-sets, length-take-le}
use Rattle.records.proofs.Fields.{sets-past}
use Rattle.records.proofs.Wrote.{sets-append}
use Rattle.twin_records.proofs.TextsWritten.{sets-part}
use Rattle.twin_records.proofs.writing.put_part.Goals as goal

pub returns : goal.returns
returns c =
    let a = c.args in
    let room = length a.out.now - a.at in
    let long : length a.bytes ≡ 16 = search rules in
    let n : length (take room a.bytes) ≡ room = length-take-le room a.bytes (omega arith) in
    sets-part a.out.now (take room a.bytes) _ a.at room c.copy_from_slice.ensures.after (sym n) (omega arith)
    ∙ sym
    (ap (sets a.out.now a.at) (sym (take-append-drop room a.bytes))
    ∙ sets-append (take room a.bytes) (drop room a.bytes) a.out.now a.at
    ∙ sets-past (drop room a.bytes) (sets a.out.now a.at (take room a.bytes)) (a.at + length (take room a.bytes))
    (omega (arith, n, length-sets a.out.now a.at (take room a.bytes))))
