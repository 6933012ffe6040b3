-- The cycle of calls of `operation` and `condition`. Each member's measure comes from where its record begins: an operand's record begins below it, and a
-- member that works out operands of a record stands between it and them. Assumes nothing.
use mathlib.Core.Path.{◌≡◌, refl, sym, ap, ◌∙◌}
use mathlib.Core.Bool.{Bool, false}
use Prim.Native.Nat.{ℕ, ◌+◌, ◌*◌, ◌≤◌, ◌<◌}
use native.Mathlib.Omega.{arith}
use borrow.Author.Tests.{lt-ltb, le-ltb, ne_eqb}
use lib.Dec.{eqb}
use lib.IntN.{ℤ, pos}
use lib.ListN.{get_or}
use mir.Facts.{to_z-of_z}
use mir.Syntax.{w32, w64}
use Rattle.records.specs.Bytes.{byte, two}
use Rattle.records.specs.Refusal.{Out, val, ◌>>=◌, choose}
use Rattle.arithmetic.specs.Arithmetic.{compute, compare}
use Rattle.arithmetic.specs.Operators.{arithmetic_of, comparison_of}
use Rattle.arithmetic.proofs.Outcomes.{stands_same, stands_at, held, handed, of_number, of_zero, number_small, number_in, fault-stands, first-fault, second-fault, both-in, truth-same, truth-in, truth-fault-in, of-truth}
use Rattle.expressions.specs.Nodes.{node_at}
use Rattle.expressions.specs.OperandValues.{operand_number, operand_truth}
use Rattle.expressions.proofs.Arms.{constant-leaf, variable-leaf}
use Rattle.expressions.proofs.WholeRecords.{no-number-from, choice-from, arithmetic-from, turn_if, connective, no-connective, LeftToOperand, left-by-not, left-to-second, first-decides, left-to-none, left-to-lower, left-to-no-truth, left-to-comparison}
use Rattle.expressions.proofs.values.+comparison_at_condition_number_below_operation_truth_below.Goals as goal
use Rattle.expressions.proofs.values.+comparison_at_condition_number_below_operation_truth_below.Goals.{condition-then-code-eq19, condition-else-code-eq19+else-t-truth_value, condition-then-code-lt16-via-then-code-lt16, condition-then-code-lt16-via-else-code-lt16+then-code-gt18, operation-else-code-gt2-via-then-code-gt2+else-code-lt8, operation-else-code-gt2-via-else-code-gt2}

pub comparison_at-returns-then-x-gt-HIGHEST : goal.comparison_at-returns-then-x-gt-HIGHEST
comparison_at-returns-then-x-gt-HIGHEST t c =
    let k = c.args in
    let s = k.nodes.now in
    let N : ℕ → ℕ → Out ℤ = operand_number (node_at s) k.vars.now in
    let first = c.number_below-x in
    λ n e. truth-same c.truth_fault.ensures (first-fault (handed first.type_inv (first.ensures n e) (ap (N n) c.u16_within.ensures)) c.if-x-gt-HIGHEST.true (λ u. (N n (two s (k.at + 4)) >>= λ w. val (compare (comparison_of (byte s (k.at + 1))) u w))))

pub comparison_at-returns-then-y-gt-HIGHEST : goal.comparison_at-returns-then-y-gt-HIGHEST
comparison_at-returns-then-y-gt-HIGHEST t c =
    let k = c.args in
    let s = k.nodes.now in
    let N : ℕ → ℕ → Out ℤ = operand_number (node_at s) k.vars.now in
    let first = c.number_below-x in
    let second = c.number_below-y in
    λ n e. truth-same c.truth_fault-then-y-gt-HIGHEST.ensures
    (second-fault (handed second.type_inv (second.ensures n e) (ap (N n) c.u16_within-2.ensures)) (number_in (handed first.type_inv (first.ensures n e) (ap (N n) c.u16_within.ensures)) c.if-x-gt-HIGHEST.false) c.if-y-gt-HIGHEST.true (λ u w. val (compare (comparison_of (byte s (k.at + 1))) u w)))

pub comparison_at-returns : goal.comparison_at-returns
comparison_at-returns t c =
    let k = c.args in
    let s = k.nodes.now in
    let N : ℕ → ℕ → Out ℤ = operand_number (node_at s) k.vars.now in
    let first = c.number_below-x in
    let second = c.number_below-y in
    λ n e. truth-same (of-truth c.compare.result c.truth_value.ensures)
    (ap val c.compare.ensures
    ∙ both-in (λ u w. val (compare (comparison_of (byte s (k.at + 1))) u w)) (number_in (handed first.type_inv (first.ensures n e) (ap (N n) c.u16_within.ensures)) c.if-x-gt-HIGHEST.false) (number_in (handed second.type_inv (second.ensures n e) (ap (N n) c.u16_within-2.ensures)) c.if-y-gt-HIGHEST.false))

pub condition-returns-then-t-truth_value : goal.condition-returns-then-t-truth_value
condition-returns-then-t-truth_value t c =
    let k = c.args in
    let i = c.loop-left.invariant in
    let s = k.nodes.now in
    let f = connective c.loop-left.code (sym c.is_connective.ensures ∙ c.loop-left-test.true) in
    let first = truth-same (c.truth_below-t.ensures i.node i.begins) (ap (operand_truth (node_at s) k.vars.now i.node) c.u16_within-left.ensures) in
    λ n e. rw c.turned.ensures (first-decides i f c.if-code-eq19.false first (λ q. c.if-t-truth_value.true (q ∙ sym c.truth_value.ensures)) n e)

pub condition-returns-then-at-to : goal.condition-returns-then-at-to
condition-returns-then-at-to t c =
    let k = c.args in
    let l = c.loop-left in
    let B : ℕ → Out Bool = operand_truth (node_at k.nodes.now) k.vars.now l.invariant.node in
    let a = c.u16_within-left.ensures in
    let f = connective l.code (sym c.is_connective.ensures ∙ c.loop-left-test.true) in
    let left : LeftToOperand k.nodes.now k.vars.now k.start l.invariant.node c.if-code-eq19.flip c.if-code-eq19.left =
    elim c.if-code-eq19.branch [
      | condition-then-code-eq19 w ↦ (λ n e. left-by-not l.invariant w.if-code-eq19.true n e ∙ (λ x. turn_if (sym w.flip-is x) (B ((sym a ∙ sym w.left-is) x))))
      | condition-else-code-eq19+else-t-truth_value w ↦ (λ n e. left-to-second l.invariant f w.if-code-eq19.false (truth-same (w.truth_below-t.ensures l.invariant.node l.invariant.begins) (ap B a)) (w.if-t-truth_value.false ∙ w.truth_value.ensures) n e ∙ (λ x. turn_if (sym w.flip-is x) (B ((sym w.u16_within-left-else-code-eq19.ensures ∙ sym w.left-is) x))))
    ] in
    left-to-none l.invariant c.if-code-eq19.flip c.if-code-eq19.left left c.if-at-to.true c.truth_value-then-at-to.ensures

pub condition-loop-left-preserved : goal.condition-loop-left-preserved
condition-loop-left-preserved t c =
    let k = c.args in
    let l = c.loop-left in
    let B : ℕ → Out Bool = operand_truth (node_at k.nodes.now) k.vars.now l.invariant.node in
    let a = c.u16_within-left.ensures in
    let f = connective l.code (sym c.is_connective.ensures ∙ c.loop-left-test.true) in
    let left : LeftToOperand k.nodes.now k.vars.now k.start l.invariant.node c.if-code-eq19.flip c.if-code-eq19.left =
    elim c.if-code-eq19.branch [
      | condition-then-code-eq19 w ↦ (λ n e. left-by-not l.invariant w.if-code-eq19.true n e ∙ (λ x. turn_if (sym w.flip-is x) (B ((sym a ∙ sym w.left-is) x))))
      | condition-else-code-eq19+else-t-truth_value w ↦ (λ n e. left-to-second l.invariant f w.if-code-eq19.false (truth-same (w.truth_below-t.ensures l.invariant.node l.invariant.begins) (ap B a)) (w.if-t-truth_value.false ∙ w.truth_value.ensures) n e ∙ (λ x. turn_if (sym w.flip-is x) (B ((sym w.u16_within-left-else-code-eq19.ensures ∙ sym w.left-is) x))))
    ] in
    left-to-lower l.invariant c.if-code-eq19.flip c.if-code-eq19.left left c.if-at-to.false

pub condition-returns-then-code-lt16 : goal.condition-returns-then-code-lt16
condition-returns-then-code-lt16 t c =
    let k = c.loop-left.code in
    let f = no-connective k (sym c.is_connective.ensures ∙ c.loop-left-test.false) in
    let none : 16 ≤ k → k ≤ 21 → ⊥ =
    λ low high. elim c.then-code-lt16.branch [
      | condition-then-code-lt16-via-then-code-lt16 w ↦ (let g : k < 16 = w.if-code-lt16.true in omega (arith, g, low))
      | condition-then-code-lt16-via-else-code-lt16+then-code-gt18 w ↦ (let g : 18 < k = w.if-code-gt18.true in f (omega (arith, g)) high)
    ] in
    λ n e. left-to-no-truth c.loop-left.invariant none c.truth_value-then-code-lt16.ensures n e

pub condition-returns : goal.condition-returns
condition-returns t c =
    let i = c.loop-left.invariant in
    let k = c.loop-left.code in
    let low : 16 ≤ k = c.if-code-lt16.false in
    let high : k ≤ 18 = c.if-code-gt18.false in
    λ n e. rw c.turned-2.ensures (left-to-comparison i low high (c.comparison_at.ensures i.node i.begins) n e)

pub number_below-returns-then-at-to : goal.number_below-returns-then-at-to
number_below-returns-then-at-to t c =
    let k = c.args in
    let m : k.at ≤ 16 * k.a = c.if-at-to.true in
    λ n e. rw (le-ltb k.a n (omega (arith, m, e))) of_zero

pub number_below-returns-then-code-eq2 : goal.number_below-returns-then-code-eq2
number_below-returns-then-code-eq2 t c =
    let k = c.args in
    let l : 16 * k.a < k.at = c.if-at-to.false in
    let v = k.vars.now in
    λ n e. rw (lt-ltb k.a n (omega (arith, l, e)))
    (handed c.variable.type_inv c.variable.ensures (ap (λ j. val (get_or v j (pos 0))) c.u16_within.ensures ∙ variable-leaf k.nodes.now v k.a c.if-code-eq2.true))

pub number_below-returns-then-code-eq1 : goal.number_below-returns-then-code-eq1
number_below-returns-then-code-eq1 t c =
    let k = c.args in
    let l : 16 * k.a < k.at = c.if-at-to.false in
    let z = c.i32_within in
    λ n e. rw (lt-ltb k.a n (omega (arith, l, e)))
    (stands_at (to_z-of_z {w = w64} (record { sfits = c.wide.type_inv }) ∙ c.wide.ensures ∙ to_z-of_z {w = w32} (record { sfits = z.type_inv }))
    (stands_same (of_number z.result z.type_inv) (ap val z.ensures ∙ constant-leaf k.nodes.now k.vars.now k.a c.if-code-eq1.true)))

pub operation-returns-then-x-gt-HIGHEST : goal.operation-returns-then-x-gt-HIGHEST
operation-returns-then-x-gt-HIGHEST t c =
    let k = c.args in
    let s = k.nodes.now in
    let N : ℕ → ℕ → Out ℤ = operand_number (node_at s) k.vars.now in
    let first = c.number_below-x in
    λ n e. (let x = handed first.type_inv (first.ensures n e) (ap (N n) c.u16_within.ensures) in stands_same (fault-stands x c.if-x-gt-HIGHEST.true) (first-fault x c.if-x-gt-HIGHEST.true (λ u. (N n (two s (k.at + 4)) >>= λ w. compute (arithmetic_of (byte s (k.at + 1))) u w)) ∙ arithmetic-from s k.vars.now k.at n e k.code c.requires.code_value c.if-code-gt2.true c.if-code-lt8.true))

pub operation-returns-then-y-gt-HIGHEST : goal.operation-returns-then-y-gt-HIGHEST
operation-returns-then-y-gt-HIGHEST t c =
    let k = c.args in
    let s = k.nodes.now in
    let N : ℕ → ℕ → Out ℤ = operand_number (node_at s) k.vars.now in
    let first = c.number_below-x in
    let second = c.number_below-y in
    λ n e. (let y = handed second.type_inv (second.ensures n e) (ap (N n) c.u16_within-then-code-lt8.ensures) in stands_same (fault-stands y c.if-y-gt-HIGHEST.true) (second-fault y (number_in (handed first.type_inv (first.ensures n e) (ap (N n) c.u16_within.ensures)) c.if-x-gt-HIGHEST.false) c.if-y-gt-HIGHEST.true (compute (arithmetic_of (byte s (k.at + 1)))) ∙ arithmetic-from s k.vars.now k.at n e k.code c.requires.code_value c.if-code-gt2.true c.if-code-lt8.true))

pub operation-compute-requires : goal.operation-compute-requires
operation-compute-requires t c =
    let r = c.requires.record_at in
    let first = c.number_below-x in
    let second = c.number_below-y in
    record { first = number_small (held first.type_inv (first.ensures r.node r.begins)) c.if-x-gt-HIGHEST.false; second = number_small (held second.type_inv (second.ensures r.node r.begins)) c.if-y-gt-HIGHEST.false }

pub operation-returns-then-code-lt8 : goal.operation-returns-then-code-lt8
operation-returns-then-code-lt8 t c =
    let k = c.args in
    let s = k.nodes.now in
    let N : ℕ → ℕ → Out ℤ = operand_number (node_at s) k.vars.now in
    let first = c.number_below-x in
    let second = c.number_below-y in
    λ n e. handed c.compute.type_inv c.compute.ensures
    (both-in (compute (arithmetic_of (byte s (k.at + 1)))) (number_in (handed first.type_inv (first.ensures n e) (ap (N n) c.u16_within.ensures)) c.if-x-gt-HIGHEST.false) (number_in (handed second.type_inv (second.ensures n e) (ap (N n) c.u16_within-then-code-lt8.ensures)) c.if-y-gt-HIGHEST.false) ∙ arithmetic-from s k.vars.now k.at n e k.code c.requires.code_value c.if-code-gt2.true c.if-code-lt8.true)

pub operation-returns-then-first-gt1 : goal.operation-returns-then-first-gt1
operation-returns-then-first-gt1 t c =
    let k = c.args in
    let s = k.nodes.now in
    let N : ℕ → ℕ → Out ℤ = operand_number (node_at s) k.vars.now in
    let first = c.truth_below-first in
    λ n e. handed c.number_fault.type_inv c.number_fault.ensures
    (ap (λ u. choose u (N n (two s (k.at + 4))) (N n (two s (k.at + 6)))) (truth-fault-in (first.ensures n e) c.if-first-gt1.true ∙ ap (operand_truth (node_at s) k.vars.now n) c.u16_within-then-code-eq8.ensures) ∙ choice-from s k.vars.now k.at n e k.code c.requires.code_value c.if-code-eq8.true)

pub operation-returns-then-first-eq1 : goal.operation-returns-then-first-eq1
operation-returns-then-first-eq1 t c =
    let k = c.args in
    let s = k.nodes.now in
    let N : ℕ → ℕ → Out ℤ = operand_number (node_at s) k.vars.now in
    let first = c.truth_below-first in
    let one : first.result ≡ 1 = c.if-first-eq1.true in
    λ n e. handed c.number_below.type_inv (c.number_below.ensures n e)
    (ap (N n) c.u16_within-then-first-eq1.ensures ∙ ap (λ u. choose u (N n (two s (k.at + 4))) (N n (two s (k.at + 6)))) (ap (λ x. val (eqb x 1)) (sym one) ∙ truth-in (first.ensures n e) c.if-first-gt1.false ∙ ap (operand_truth (node_at s) k.vars.now n) c.u16_within-then-code-eq8.ensures) ∙ choice-from s k.vars.now k.at n e k.code c.requires.code_value c.if-code-eq8.true)

pub operation-returns-then-code-eq8 : goal.operation-returns-then-code-eq8
operation-returns-then-code-eq8 t c =
    let k = c.args in
    let s = k.nodes.now in
    let N : ℕ → ℕ → Out ℤ = operand_number (node_at s) k.vars.now in
    let first = c.truth_below-first in
    let other : first.result ≡ 1 → ⊥ = c.if-first-eq1.false in
    λ n e. handed c.number_below-then-code-eq8.type_inv (c.number_below-then-code-eq8.ensures n e)
    (ap (N n) c.u16_within-then-code-eq8-2.ensures ∙ ap (λ u. choose u (N n (two s (k.at + 4))) (N n (two s (k.at + 6)))) (ap val (sym (ne_eqb first.result 1 other)) ∙ truth-in (first.ensures n e) c.if-first-gt1.false ∙ ap (operand_truth (node_at s) k.vars.now n) c.u16_within-then-code-eq8.ensures) ∙ choice-from s k.vars.now k.at n e k.code c.requires.code_value c.if-code-eq8.true)

pub operation-returns : goal.operation-returns
operation-returns t c =
    let k = c.args in
    let one : k.code ≡ 1 → ⊥ = c.requires.fact.0 in
    let two : k.code ≡ 2 → ⊥ = c.requires.fact.1 in
    let eight : k.code ≡ 8 → ⊥ = c.if-code-eq8.false in
    let none : 1 ≤ k.code → k.code ≤ 8 → ⊥ =
    λ low high. elim c.else-code-gt2.branch [
      | operation-else-code-gt2-via-then-code-gt2+else-code-lt8 w ↦ (let h : 8 ≤ k.code = w.if-code-lt8.false in omega (arith, h, high, eight))
      | operation-else-code-gt2-via-else-code-gt2 w ↦ (let l : k.code ≤ 2 = w.if-code-gt2.false in omega (arith, l, low, one, two))
    ] in
    λ n e. stands_same of_zero (no-number-from k.nodes.now k.vars.now k.at n e k.code c.requires.code_value none)

pub truth_below-returns-else-to-at : goal.truth_below-returns-else-to-at
truth_below-returns-else-to-at t c =
    let k = c.args in
    let m : k.at ≤ 16 * k.a = c.if-to-at.false in
    λ n e. rw (le-ltb k.a n (omega (arith, m, e))) (of-truth false refl)
