use mathlib.Core.Path.{sym, ap, ◌∙◌}
use Prim.Native.Nat.{◌+◌, ◌*◌}
use native.Mathlib.Omega.{arith}
use lib.ListN.{length}
use mir.Facts.{to_z-of_z}
use mir.Syntax.{w32}
use Rattle.records.specs.Bytes.{two}
use Rattle.model.specs.Replay.{decimal}
use Rattle.expressions.specs.Nodes.{node_at}
use Rattle.guards.specs.Trees.{constant}
use Rattle.guards.specs.Texts.{text_of}
use Rattle.guard_writer.proofs.Codes.{record-by-level, record-told}
use Rattle.guard_writer.proofs.Owns.{own-leaf, passes-constant, passes-variable}
use Rattle.guard_writer.proofs.measures.leaf_bytes.Goals as goal

pub returns-then-code-eq2 : goal.returns-then-code-eq2
unfolding text_of
returns-then-code-eq2 c =
    let x = c.args in
    let s = x.nodes.now in
    let d = c.digits.ensures in
    let k = sym c.byte_at-code.ensures ∙ c.if-code-eq2.true in
    let q = record-by-level s x.n in
    let t = record-told s x.n in
    let v = c.u16_at-v.ensures in
    let e = q.is_variable k in (
      own-leaf (node_at s) x.n _ (omega (arith, d.0)) (omega (arith, d.1, ap (λ v. length (decimal v)) v, ap (λ t. length (text_of t)) e)),
      passes-variable (node_at s) x.n (two s (16 * x.n + 2)) (t.none (q.same ∙ c.requires)) (t.its_variable k) (t.known (λ d n. absurd (n k))) (omega (arith, v)),
    )

pub returns-then-code-eq1 : goal.returns-then-code-eq1
returns-then-code-eq1 c =
    let x = c.args in
    let s = x.nodes.now in
    let z = c.i32_at in
    let d = c.constant_bytes.ensures in
    let k = sym c.byte_at-code.ensures ∙ c.if-code-eq1.true in
    let q = record-by-level s x.n in
    let t = record-told s x.n in
    let e = q.is_constant k in (
      own-leaf (node_at s) x.n _ (omega (arith, d.0)) (omega (arith, d.1, ap (λ y. length (text_of (constant y))) (to_z-of_z {w = w32} (record { sfits = z.type_inv }) ∙ z.ensures), ap (λ t. length (text_of t)) e)),
      passes-constant (node_at s) x.n (t.none (q.same ∙ c.requires)) (t.without_variable (λ n. omega (arith, k, n))) (t.known (λ d n. k)),
    )
