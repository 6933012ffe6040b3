-- The cycle of calls of `number_outcome` and `truth_outcome`. Each member's measure comes from its node: an operand's is below it, and a member that works
-- out operands of node n stands between node n and its operands. Assumes nothing.
use mathlib.Core.Path.{◌≡◌, refl, ap, ◌∙◌}
use mathlib.Core.Bool.{false}
use Prim.Native.Nat.{◌≤◌, ◌<◌}
use native.Mathlib.Omega.{arith}
use borrow.Author.Tests.{lt-ltb, le-ltb}
use lib.Dec.{eqb}
use lib.IntN.{ℤ, pos}
use lib.ListN.{get_or}
use mir.Facts.{to_z-of_z}
use mir.Syntax.{w32, w64}
use Rattle.records.specs.Refusal.{Out, val, ◌>>=◌, choose}
use Rattle.arithmetic.specs.Arithmetic.{compare}
use Rattle.arithmetic.specs.Operators.{comparison_of}
use Rattle.arithmetic.proofs.Outcomes.{stands_same, stands_at, held, handed, of_number, of_zero, number_in, first-fault, second-fault, both-in, truth-same, of-truth, turned}
use Rattle.expressions.specs.Nodes.{node_at}
use Rattle.expressions.specs.OperandValues.{operand_number, operand_truth, decide}
use Rattle.expressions.proofs.Arms.{no-number-arm, constant-arm, variable-arm, choice-arm, arithmetic-arm, no-truth-arm, comparison-arm, negation-arm, decided-arm, constant-leaf, variable-leaf}
use Rattle.expressions.proofs.values.+chosen_compared_computed_decided_number_outcome_operand_number_operand_truth_truth_outcome.Goals as goal

pub compared-returns-then-x-gt-HIGHEST : goal.compared-returns-then-x-gt-HIGHEST
compared-returns-then-x-gt-HIGHEST t c =
    let k = c.args in
    let y : Out ℤ = operand_number (node_at k.nodes.now) k.vars.now k.n k.b in
    let first = c.operand_number-x in
    truth-same c.truth_fault.ensures (first-fault (held first.type_inv first.ensures) c.if-x-gt-HIGHEST.true (λ u. (y >>= λ w. val (compare (comparison_of k.code) u w))))

pub compared-returns-then-y-gt-HIGHEST : goal.compared-returns-then-y-gt-HIGHEST
compared-returns-then-y-gt-HIGHEST t c =
    let first = c.operand_number-x in
    let second = c.operand_number-y in
    truth-same c.truth_fault-then-y-gt-HIGHEST.ensures
    (second-fault (held second.type_inv second.ensures) (number_in (held first.type_inv first.ensures) c.if-x-gt-HIGHEST.false) c.if-y-gt-HIGHEST.true (λ u w. val (compare (comparison_of c.args.code) u w)))

pub compared-returns : goal.compared-returns
compared-returns t c =
    let first = c.operand_number-x in
    let second = c.operand_number-y in
    truth-same (of-truth c.compare.result c.truth_value.ensures)
    (ap val c.compare.ensures
    ∙ both-in (λ u w. val (compare (comparison_of c.args.code) u w)) (number_in (held first.type_inv first.ensures) c.if-x-gt-HIGHEST.false) (number_in (held second.type_inv second.ensures) c.if-y-gt-HIGHEST.false))

pub number_outcome-returns-then-code-gt8 : goal.number_outcome-returns-then-code-gt8
number_outcome-returns-then-code-gt8 t c =
    let k = c.args in
    let f = c.fields_at-f.result in
    let g : 8 < f.code = c.if-code-gt8.true in
    stands_same of_zero (no-number-arm k.nodes.now k.vars.now k.n f c.fields_at-f.ensures (λ l m. omega (arith, g)))

pub number_outcome-returns-then-code-eq8 : goal.number_outcome-returns-then-code-eq8
number_outcome-returns-then-code-eq8 t c =
    let k = c.args in
    let f = c.fields_at-f.result in
    handed {o = choose (operand_truth (node_at k.nodes.now) k.vars.now k.n f.a) (operand_number (node_at k.nodes.now) k.vars.now k.n f.b) (operand_number (node_at k.nodes.now) k.vars.now k.n f.c)}
    c.chosen.type_inv c.chosen.ensures (choice-arm k.nodes.now k.vars.now k.n f c.fields_at-f.ensures c.if-code-eq8.true)

pub number_outcome-returns-then-code-gt2 : goal.number_outcome-returns-then-code-gt2
number_outcome-returns-then-code-gt2 t c =
    let k = c.args in
    let f = c.fields_at-f.result in
    let g : f.code ≤ 8 = c.if-code-gt8.false in
    let h : f.code ≡ 8 → ⊥ = c.if-code-eq8.false in
    handed c.computed.type_inv c.computed.ensures (arithmetic-arm k.nodes.now k.vars.now k.n f c.fields_at-f.ensures c.if-code-gt2.true (omega (arith, g, h)))

pub number_outcome-returns-then-code-eq2 : goal.number_outcome-returns-then-code-eq2
number_outcome-returns-then-code-eq2 t c =
    let k = c.args in
    handed c.variable.type_inv c.variable.ensures (variable-arm k.nodes.now k.vars.now k.n c.fields_at-f.result c.fields_at-f.ensures c.if-code-eq2.true)

pub number_outcome-returns-then-code-eq1 : goal.number_outcome-returns-then-code-eq1
number_outcome-returns-then-code-eq1 t c =
    let k = c.args in
    let z = c.i32_at in
    stands_at (to_z-of_z {w = w64} (record { sfits = c.wide.type_inv }) ∙ c.wide.ensures ∙ to_z-of_z {w = w32} (record { sfits = z.type_inv }))
    (stands_same (of_number z.result z.type_inv) (ap val z.ensures ∙ constant-arm k.nodes.now k.vars.now k.n c.fields_at-f.result c.fields_at-f.ensures c.if-code-eq1.true))

pub number_outcome-returns : goal.number_outcome-returns
number_outcome-returns t c =
    let k = c.args in
    let f = c.fields_at-f.result in
    let g : f.code ≤ 2 = c.if-code-gt2.false in
    let h : f.code ≡ 2 → ⊥ = c.if-code-eq2.false in
    let i : f.code ≡ 1 → ⊥ = c.if-code-eq1.false in
    stands_same of_zero (no-number-arm k.nodes.now k.vars.now k.n f c.fields_at-f.ensures (λ l m. omega (arith, g, h, i)))

pub operand_number-returns-then-n-a : goal.operand_number-returns-then-n-a
operand_number-returns-then-n-a t c = rw (le-ltb c.args.a c.args.n c.if-n-a.true) of_zero

pub operand_number-returns-then-code-eq2 : goal.operand_number-returns-then-code-eq2
operand_number-returns-then-code-eq2 t c =
    let k = c.args in
    let v = k.vars.now in
    rw (lt-ltb k.a k.n c.if-n-a.false)
    (handed c.variable.type_inv c.variable.ensures (ap (λ j. val (get_or v j (pos 0))) c.u16_within.ensures ∙ variable-leaf k.nodes.now v k.a c.if-code-eq2.true))

pub operand_number-returns-then-code-eq1 : goal.operand_number-returns-then-code-eq1
operand_number-returns-then-code-eq1 t c =
    let k = c.args in
    let z = c.i32_within in
    rw (lt-ltb k.a k.n c.if-n-a.false)
    (stands_at (to_z-of_z {w = w64} (record { sfits = c.wide.type_inv }) ∙ c.wide.ensures ∙ to_z-of_z {w = w32} (record { sfits = z.type_inv }))
    (stands_same (of_number z.result z.type_inv) (ap val z.ensures ∙ constant-leaf k.nodes.now k.vars.now k.a c.if-code-eq1.true)))

pub operand_truth-returns-then-n-a : goal.operand_truth-returns-then-n-a
operand_truth-returns-then-n-a t c = rw (le-ltb c.args.a c.args.n c.if-n-a.true) (of-truth false refl)

pub truth_outcome-returns-then-code-lt16 : goal.truth_outcome-returns-then-code-lt16
truth_outcome-returns-then-code-lt16 t c =
    let k = c.args in
    let f = c.fields_at-f.result in
    let g : f.code < 16 = c.if-code-lt16.true in
    truth-same (of-truth false refl) (no-truth-arm k.nodes.now k.vars.now k.n f c.fields_at-f.ensures (λ l m. omega (arith, g)))

pub truth_outcome-returns-then-code-lt19 : goal.truth_outcome-returns-then-code-lt19
truth_outcome-returns-then-code-lt19 t c =
    let k = c.args in
    let f = c.fields_at-f.result in
    let g : 16 ≤ f.code = c.if-code-lt16.false in
    truth-same c.compared.ensures (comparison-arm k.nodes.now k.vars.now k.n f c.fields_at-f.ensures (omega (arith, g)) c.if-code-lt19.true)

pub truth_outcome-returns-then-code-eq19 : goal.truth_outcome-returns-then-code-eq19
truth_outcome-returns-then-code-eq19 t c =
    let k = c.args in
    truth-same (rw c.negated.ensures (turned c.operand_truth.ensures)) (negation-arm k.nodes.now k.vars.now k.n c.fields_at-f.result c.fields_at-f.ensures c.if-code-eq19.true)

pub truth_outcome-returns-then-code-lt22 : goal.truth_outcome-returns-then-code-lt22
truth_outcome-returns-then-code-lt22 t c =
    let k = c.args in
    let f = c.fields_at-f.result in
    let g : 19 ≤ f.code = c.if-code-lt19.false in
    let h : f.code ≡ 19 → ⊥ = c.if-code-eq19.false in
    truth-same {o = decide (eqb f.code 21) (operand_truth (node_at k.nodes.now) k.vars.now k.n f.a) (operand_truth (node_at k.nodes.now) k.vars.now k.n f.b)}
    c.decided.ensures (decided-arm k.nodes.now k.vars.now k.n f c.fields_at-f.ensures (omega (arith, g, h)) c.if-code-lt22.true)

pub truth_outcome-returns : goal.truth_outcome-returns
truth_outcome-returns t c =
    let k = c.args in
    let f = c.fields_at-f.result in
    let g : 22 ≤ f.code = c.if-code-lt22.false in
    truth-same (of-truth false refl) (no-truth-arm k.nodes.now k.vars.now k.n f c.fields_at-f.ensures (λ l m. omega (arith, g)))
