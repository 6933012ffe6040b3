use mathlib.Core.Path.{◌≡◌, ap, ◌∙◌}
use Prim.Native.Nat.{◌+◌, ◌*◌}
use mir.Facts.{to_z-of_z}
use mir.Syntax.{w32}
use mir.Val.{to_z, of_z}
use Rattle.records.specs.Bytes.{four±}
use Rattle.expressions.specs.Coded.{coded_node}
use Rattle.expressions.proofs.Fields.{coded-at}
use Rattle.expressions.proofs.nodes.node_at.Goals as goal

pub returns : goal.returns
returns c =
    let k = c.args in
    let s = k.nodes.now in
    let f = c.fields_at-f.result in
    let z : to_z w32 (of_z w32 c.i32_at.result) ≡ four± s (16 * k.n + 8) = to_z-of_z {w = w32} (record { sfits = c.i32_at.type_inv }) ∙ c.i32_at.ensures in
    c.decode.ensures ∙ ap (coded_node f) z ∙ coded-at s k.n f c.fields_at-f.ensures
