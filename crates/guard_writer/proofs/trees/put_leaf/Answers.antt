use mathlib.Core.Path.{sym, ap, ◌∙◌}
use mir.Facts.{to_z-of_z}
use mir.Syntax.{w32}
use Rattle.guards.specs.Trees.{constant, variable}
use Rattle.guards.specs.Texts.{text_of}
use Rattle.guard_writer.proofs.Texts.{near-as, wrote_as, zero-line}
use Rattle.guard_writer.proofs.Codes.{record-by-level}
use Rattle.guard_writer.proofs.trees.put_leaf.Goals as goal

pub put_variable-requires : goal.put_variable-requires
put_variable-requires c =
    let x = c.args in
    let e = (record-by-level x.nodes.now x.n).is_variable (sym c.byte_at-code.ensures ∙ c.if-code-eq2.true) in
    near-as c.requires.1 (sym (ap (λ v. text_of (variable v)) c.u16_at.ensures ∙ ap text_of e))

pub returns-then-code-eq2 : goal.returns-then-code-eq2
returns-then-code-eq2 c =
    let x = c.args in
    let e = (record-by-level x.nodes.now x.n).is_variable (sym c.byte_at-code.ensures ∙ c.if-code-eq2.true) in
    wrote_as c.put_variable.ensures (ap (λ v. text_of (variable v)) c.u16_at.ensures ∙ ap text_of e)

pub put_constant-requires : goal.put_constant-requires
put_constant-requires c =
    let x = c.args in
    let z = c.i32_at in
    let e = (record-by-level x.nodes.now x.n).is_constant (sym c.byte_at-code.ensures ∙ c.if-code-eq1.true) in
    near-as c.requires.1 (sym (ap (λ y. text_of (constant y)) (to_z-of_z {w = w32} (record { sfits = z.type_inv }) ∙ z.ensures) ∙ ap text_of e))

pub returns-then-code-eq1 : goal.returns-then-code-eq1
returns-then-code-eq1 c =
    let x = c.args in
    let z = c.i32_at in
    let e = (record-by-level x.nodes.now x.n).is_constant (sym c.byte_at-code.ensures ∙ c.if-code-eq1.true) in
    wrote_as c.put_constant.ensures (ap (λ y. text_of (constant y)) (to_z-of_z {w = w32} (record { sfits = z.type_inv }) ∙ z.ensures) ∙ ap text_of e)

pub returns : goal.returns
returns c =
    let x = c.args in
    let q = record-by-level x.nodes.now x.n in
    let code = c.byte_at-code.ensures in
    wrote_as c.put_text.ensures (zero-line ∙ ap text_of (q.is_zero (q.same ∙ c.requires.0) (λ e. c.if-code-eq2.false (code ∙ e)) (λ e. c.if-code-eq1.false (code ∙ e))))
