use mathlib.Core.Path.{◌≡◌, ap, ◌∙◌}
use mathlib.Core.List.{◌++◌}
use Prim.Native.Nat.{◌*◌}
use native.Mathlib.Omega.{arith}
use lib.ListN.{drop}
use Rattle.std.proofs.Common.{Some, Ok}
use Rattle.std.proofs.lemmas.Grind.{common_steps}
use Rattle.guard_reader.specs.Answer.{guard_of}
use Rattle.guard_reader.proofs.WholeLines.{guard-nodes}
use Rattle.guard_reader.proofs.read_by.Goals as goal

pub returns : goal.returns
returns c =
    let t = c.in_ok-t.t in
    let lent = c.args.nodes.now in
    let is : c.line.result ≡ Some t = grind (arith, common_steps) in
    let h = rw is at c.line.ensures in
    ap (λ l. guard_of (Ok t.size) (l ++ drop (16 * t.size) lent)) c.copy_from_slice.ensures.after ∙ guard-nodes h lent (c.requires h.short) c.if-not-t.false c.if-nodes-size.false
