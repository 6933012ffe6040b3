use mathlib.Core.Path.{◌≡◌, sym, ◌∙◌}
use Prim.Native.Nat.{◌+◌, ◌≤◌, ◌<◌}
use native.Mathlib.Omega.{arith}
use Rattle.std.proofs.Common.{Some}
use Rattle.std.proofs.lemmas.Grind.{common_steps}
use lib.ListN.{length}
use Rattle.guard_reader.proofs.PartTrees.{tree-positive, tree-few, tree-packs}
use Rattle.guard_reader.proofs.PackedParts.{parsed_of-zero}
use Rattle.guard_reader.proofs.GrammarSteps.{sign-found}
use Rattle.guard_reader.proofs.Readings.{enclosed-outside, enclosed-open, enclosed-read, negated-outside, negated-read, leaf-read, first-outside, first_read, level-ends, right-further, right-placed, right-outside, right-read, bare-outside, bare-read, second-outside, colon-missing, third-outside, third-read}
use Rattle.guard_reader.proofs.rules.+rules.Goals as goal

pub binary-returns-in_default : goal.binary-returns-in_default
binary-returns-in_default t c =
    let x = c.args in
    let text = x.text.now in
    rw parsed_of-zero (first-outside text x.at x.k (rw (sym c.unpacked.ensures ∙ c.in_default.is) at c.operand.ensures))

pub binary-skip-i-requires : goal.binary-skip-i-requires
binary-skip-i-requires t c =
    let x = c.args in
    let r = c.loop-s.invariant x.nodes.now (first_read x.text.now x.at x.k (rw (sym c.unpacked.ensures ∙ c.in-Some.is) at c.operand.ensures)) in
    r.has.inside

pub binary-packed-requires : goal.binary-packed-requires
binary-packed-requires t c =
    let x = c.args in
    let r = c.loop-s.invariant x.nodes.now (first_read x.text.now x.at x.k (rw (sym c.unpacked.ensures ∙ c.in-Some.is) at c.operand.ensures)) in
    tree-packs {text = x.text.now} r.has c.requires.0.short c.requires.0.few

pub binary-returns-in_default-filter : goal.binary-returns-in_default-filter
binary-returns-in_default-filter t c =
    let x = c.args in
    let r = c.loop-s.invariant x.nodes.now (first_read x.text.now x.at x.k (rw (sym c.unpacked.ensures ∙ c.in-Some.is) at c.operand.ensures)) in
    rw c.packed.ensures (level-ends r c.skip-i.ensures c.sign_at.result c.sign_at.ensures (λ g e. grind (arith, common_steps)))

pub binary-binary-requires : goal.binary-binary-requires
binary-binary-requires t c =
    let x = c.args in
    let r = c.loop-s.invariant x.nodes.now (first_read x.text.now x.at x.k (rw (sym c.unpacked.ensures ∙ c.in-Some.is) at c.operand.ensures)) in
    let g = c.in-Some-filter.s in
    let same : c.sign_at.result ≡ Some g = grind (arith, common_steps) in
    let tight : g.level ≤ x.k = grind (arith, common_steps) in
    let s = sign-found x.text.now c.skip-i.result g (rw same at c.sign_at.ensures) in
    (omega (arith, c.decreases, right-further r c.skip-i.ensures g s tight, s.inside), (right-placed r c.skip-i.ensures g s tight c.requires.0, omega arith))

pub binary-returns-in_default-unpacked : goal.binary-returns-in_default-unpacked
binary-returns-in_default-unpacked t c =
    let x = c.args in
    let r = c.loop-s.invariant x.nodes.now (first_read x.text.now x.at x.k (rw (sym c.unpacked.ensures ∙ c.in-Some.is) at c.operand.ensures)) in
    let g = c.in-Some-filter.s in
    let same : c.sign_at.result ≡ Some g = grind (arith, common_steps) in
    let tight : g.level ≤ x.k = grind (arith, common_steps) in
    let s = sign-found x.text.now c.skip-i.result g (rw same at c.sign_at.ensures) in
    rw parsed_of-zero (right-outside r c.skip-i.ensures g s tight (rw (sym c.unpacked-in-loop-s.ensures ∙ c.in_default-unpacked.is) at c.binary.ensures))

pub binary-joined-left-requires : goal.binary-joined-left-requires
binary-joined-left-requires t c =
    let x = c.args in
    let r = c.loop-s.invariant x.nodes.now (first_read x.text.now x.at x.k (rw (sym c.unpacked.ensures ∙ c.in-Some.is) at c.operand.ensures)) in
    let g = c.in-Some-filter.s in
    let same : c.sign_at.result ≡ Some g = grind (arith, common_steps) in
    let tight : g.level ≤ x.k = grind (arith, common_steps) in
    let s = sign-found x.text.now c.skip-i.result g (rw same at c.sign_at.ensures) in
    let u = rw (sym c.unpacked-in-loop-s.ensures ∙ c.in-Some-unpacked.is) at c.binary.ensures in
    let p : x.size < c.loop-s.left.size = tree-positive r.has in
    let p₂ : c.loop-s.left.size < c.in-Some-unpacked.right.size = tree-positive u.has in
    (omega arith, omega arith, tree-few u.has c.requires.0.short (right-placed r c.skip-i.ensures g s tight c.requires.0).few)

pub binary-loop-s-preserved : goal.binary-loop-s-preserved
binary-loop-s-preserved t c =
    λ before began.
    let g = c.in-Some-filter.s in
    let same : c.sign_at.result ≡ Some g = grind (arith, common_steps) in
    let tight : g.level ≤ c.args.k = grind (arith, common_steps) in
    let s = sign-found c.args.text.now c.skip-i.result g (rw same at c.sign_at.ensures) in
    let u = rw (sym c.unpacked-in-loop-s.ensures ∙ c.in-Some-unpacked.is) at c.binary.ensures in
    right-read (c.loop-s.invariant before began) c.skip-i.ensures g s tight u c.joined-left.ensures

pub choice-returns-in_default : goal.choice-returns-in_default
choice-returns-in_default t c =
    let x = c.args in
    let text = x.text.now in
    rw parsed_of-zero (bare-outside text x.at (rw (sym c.unpacked.ensures ∙ c.in_default.is) at c.binary.ensures))

pub choice-returns-in_default-past : goal.choice-returns-in_default-past
choice-returns-in_default-past t c =
    let x = c.args in
    let text = x.text.now in
    let r = rw (sym c.unpacked.ensures ∙ c.in-Some.is) at c.binary.ensures in
    rw c.packed.ensures (bare-read text x.at r (rw c.in_default-past.is at c.past.ensures))

pub choice-returns-in_default-unpacked : goal.choice-returns-in_default-unpacked
choice-returns-in_default-unpacked t c =
    let x = c.args in
    let text = x.text.now in
    let r = rw (sym c.unpacked.ensures ∙ c.in-Some.is) at c.binary.ensures in
    let m = rw c.in-Some-past.is at c.past.ensures in
    rw parsed_of-zero (second-outside text x.at r m (rw (sym c.unpacked-2.ensures ∙ c.in_default-unpacked.is) at c.choice.ensures))

pub choice-returns-in_default-past-2 : goal.choice-returns-in_default-past-2
choice-returns-in_default-past-2 t c =
    let x = c.args in
    let text = x.text.now in
    let r = rw (sym c.unpacked.ensures ∙ c.in-Some.is) at c.binary.ensures in
    let m = rw c.in-Some-past.is at c.past.ensures in
    let u = rw (sym c.unpacked-2.ensures ∙ c.in-Some-unpacked.is) at c.choice.ensures in
    rw parsed_of-zero (colon-missing text x.at r m u (rw c.in_default-past-2.is at c.past-2.ensures))

pub choice-returns-in_default-unpacked-2 : goal.choice-returns-in_default-unpacked-2
choice-returns-in_default-unpacked-2 t c =
    let x = c.args in
    let text = x.text.now in
    let r = rw (sym c.unpacked.ensures ∙ c.in-Some.is) at c.binary.ensures in
    let m = rw c.in-Some-past.is at c.past.ensures in
    let u = rw (sym c.unpacked-2.ensures ∙ c.in-Some-unpacked.is) at c.choice.ensures in
    let c₂ = rw c.in-Some-past-2.is at c.past-2.ensures in
    rw parsed_of-zero (third-outside text x.at r m u c₂ (rw (sym c.unpacked-3.ensures ∙ c.in_default-unpacked-2.is) at c.choice-2.ensures))

pub choice-chosen-requires : goal.choice-chosen-requires
choice-chosen-requires t c =
    let x = c.args in
    let text = x.text.now in
    let r = rw (sym c.unpacked.ensures ∙ c.in-Some.is) at c.binary.ensures in
    let m = rw c.in-Some-past.is at c.past.ensures in
    let u = rw (sym c.unpacked-2.ensures ∙ c.in-Some-unpacked.is) at c.choice.ensures in
    let c₂ = rw c.in-Some-past-2.is at c.past-2.ensures in
    let v = rw (sym c.unpacked-3.ensures ∙ c.in-Some-unpacked-2.is) at c.choice-2.ensures in
    let o : x.at < c.in-Some.t.next = r.has.onward in
    let n : c.in-Some.t.next < c.in-Some-past.i = m.onward in
    let z : c.in-Some-past.i ≤ length text = m.inside in
    let f : x.size ≤ x.at = c.requires.few in
    let g : c.in-Some.t.size + x.at ≤ c.in-Some.t.next + x.size = r.has.few in
    let o₂ : c.in-Some-past.i < c.in-Some-unpacked.a.next = u.has.onward in
    let n₂ : c.in-Some-unpacked.a.next < c.in-Some-past-2.j = c₂.onward in
    let z₂ : c.in-Some-past-2.j ≤ length text = c₂.inside in
    let g₂ : c.in-Some-unpacked.a.size + c.in-Some-past.i ≤ c.in-Some-unpacked.a.next + c.in-Some.t.size = u.has.few in
    let p : x.size < c.in-Some.t.size = tree-positive r.has in
    let p₂ : c.in-Some.t.size < c.in-Some-unpacked.a.size = tree-positive u.has in
    let p₃ : c.in-Some-unpacked.a.size < c.in-Some-unpacked-2.b.size = tree-positive v.has in
    (omega arith, omega arith, omega arith, tree-few v.has c.requires.short (omega arith))

pub choice-returns : goal.choice-returns
choice-returns t c =
    let x = c.args in
    let text = x.text.now in
    let r = rw (sym c.unpacked.ensures ∙ c.in-Some.is) at c.binary.ensures in
    let m = rw c.in-Some-past.is at c.past.ensures in
    let u = rw (sym c.unpacked-2.ensures ∙ c.in-Some-unpacked.is) at c.choice.ensures in
    let c₂ = rw c.in-Some-past-2.is at c.past-2.ensures in
    let v = rw (sym c.unpacked-3.ensures ∙ c.in-Some-unpacked-2.is) at c.choice-2.ensures in
    rw c.packed-2.ensures (third-read text x.at r m u c₂ v c.chosen.ensures)

pub operand-returns-in_default : goal.operand-returns-in_default
operand-returns-in_default t c =
    let x = c.args in
    let text = x.text.now in
    let e = sym c.byte_at-b.ensures ∙ c.if-b-eq40.true in
    rw parsed_of-zero (enclosed-outside c.skip-i.ensures e (rw (sym c.unpacked.ensures ∙ c.in_default.is) at c.choice.ensures))

pub operand-returns-in_default-past : goal.operand-returns-in_default-past
operand-returns-in_default-past t c =
    let x = c.args in
    let text = x.text.now in
    let e = sym c.byte_at-b.ensures ∙ c.if-b-eq40.true in
    rw parsed_of-zero (enclosed-open c.skip-i.ensures e (rw (sym c.unpacked.ensures ∙ c.in-Some.is) at c.choice.ensures) (rw c.in_default-past.is at c.past.ensures))

pub operand-returns-then-b-eq40 : goal.operand-returns-then-b-eq40
operand-returns-then-b-eq40 t c =
    let x = c.args in
    let text = x.text.now in
    let e = sym c.byte_at-b.ensures ∙ c.if-b-eq40.true in
    rw c.packed.ensures (enclosed-read c.skip-i.ensures e (rw (sym c.unpacked.ensures ∙ c.in-Some.is) at c.choice.ensures) _ (rw c.in-Some-past.is at c.past.ensures))

pub operand-returns-in_default-unpacked : goal.operand-returns-in_default-unpacked
operand-returns-in_default-unpacked t c =
    let x = c.args in
    let text = x.text.now in
    let e = sym c.byte_at-b.ensures ∙ c.if-b-eq33.true in
    rw parsed_of-zero (negated-outside c.skip-i.ensures e (rw (sym c.unpacked-then-b-eq33.ensures ∙ c.in_default-unpacked.is) at c.operand.ensures))

pub operand-negated-requires : goal.operand-negated-requires
operand-negated-requires t c =
    let x = c.args in
    let text = x.text.now in
    let e = sym c.byte_at-b.ensures ∙ c.if-b-eq33.true in
    let r = rw (sym c.unpacked-then-b-eq33.ensures ∙ c.in-Some-unpacked.is) at c.operand.ensures in
    let f : x.size ≤ x.at = c.requires.few in
    let p : x.size < c.in-Some-unpacked.t.size = tree-positive r.has in
    (omega arith, tree-few r.has c.requires.short (omega arith))

pub operand-returns-then-b-eq33 : goal.operand-returns-then-b-eq33
operand-returns-then-b-eq33 t c =
    let x = c.args in
    let text = x.text.now in
    let e = sym c.byte_at-b.ensures ∙ c.if-b-eq33.true in
    rw c.packed-then-b-eq33.ensures (negated-read c.skip-i.ensures e (rw (sym c.unpacked-then-b-eq33.ensures ∙ c.in-Some-unpacked.is) at c.operand.ensures) c.negated.ensures)

pub operand-returns : goal.operand-returns
operand-returns t c =
    let x = c.args in
    leaf-read c.skip-i.ensures x.size x.nodes.now _ (λ e. c.if-b-eq40.false (c.byte_at-b.ensures ∙ e)) (λ e. c.if-b-eq33.false (c.byte_at-b.ensures ∙ e)) c.leaf.result c.leaf.ensures
