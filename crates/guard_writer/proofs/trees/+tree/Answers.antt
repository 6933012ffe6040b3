use Rattle.std.proofs.Common.{◌∷◌, ◌++◌, ◌<◌, ◌-◌, arith, sym, ap, ◌∙◌}
use Rattle.records.proofs.Wrote.{wrote_then}
use Rattle.expressions.specs.Nodes.{node_at}
use Rattle.guards.specs.Trees.{negation, binary_level, level}
use Rattle.guards.specs.Texts.{sign, text_of, text_in}
use Rattle.guards.specs.Lists.{tree_of}
use Rattle.guard_writer.specs.Codes.{code_level, code_binary}
use Rattle.guard_writer.specs.Operands.{operand_tree}
use Rattle.guard_writer.proofs.Texts.{near-left, near-then, near-as, wrote_as, level-most, anywhere, zero-text}
use Rattle.guard_writer.proofs.Rules.{no_operand, enclosed-operand}
use Rattle.guard_writer.proofs.Codes.{node-by-level, negated-operand}
use Rattle.guard_writer.proofs.trees.+tree.Goals as goal

pub put_binary-put_operand-sign_at-requires : goal.put_binary-put_operand-sign_at-requires
unfolding text_of
put_binary-put_operand-sign_at-requires t c =
    let o = code_binary c.args.code in
    let A = operand_tree (node_at c.args.nodes.now) c.args.n c.args.a in
    let C = operand_tree (node_at c.args.nodes.now) c.args.n c.args.b in
    let k = c.requires.0 in
    let n = near-left (text_in (binary_level o) A ++ sign o) (text_in (binary_level o - 1) C) c.requires.1 in
    (omega arith, near-as (near-left (text_in (binary_level o) A) (sign o) n) (ap (λ j. text_in j A) (sym k)))

pub put_binary-put_sign-right_at-requires : goal.put_binary-put_sign-right_at-requires
unfolding text_of
put_binary-put_sign-right_at-requires t c =
    let o = code_binary c.args.code in
    let A = operand_tree (node_at c.args.nodes.now) c.args.n c.args.a in
    let C = operand_tree (node_at c.args.nodes.now) c.args.n c.args.b in
    let k = c.requires.0 in
    let n = near-left (text_in (binary_level o) A ++ sign o) (text_in (binary_level o - 1) C) c.requires.1 in
    let w = wrote_as c.put_operand-sign_at.ensures (ap (λ j. text_in j A) k) in
    near-then (sign o) n w

pub put_binary-put_operand-requires : goal.put_binary-put_operand-requires
unfolding text_of
put_binary-put_operand-requires t c =
    let o = code_binary c.args.code in
    let A = operand_tree (node_at c.args.nodes.now) c.args.n c.args.a in
    let C = operand_tree (node_at c.args.nodes.now) c.args.n c.args.b in
    let k = c.requires.0 in
    let w = wrote_as c.put_operand-sign_at.ensures (ap (λ j. text_in j A) k) in
    (omega arith, near-as (near-then (text_in (binary_level o - 1) C) c.requires.1 (wrote_then w c.put_sign-right_at.ensures)) (ap (λ j. text_in (j - 1) C) (sym k)))

pub put_binary-returns : goal.put_binary-returns
unfolding text_of
put_binary-returns t c =
    let A = operand_tree (node_at c.args.nodes.now) c.args.n c.args.a in
    let C = operand_tree (node_at c.args.nodes.now) c.args.n c.args.b in
    let k = c.requires.0 in
    let w = wrote_as c.put_operand-sign_at.ensures (ap (λ j. text_in j A) k) in
    wrote_then (wrote_then w c.put_sign-right_at.ensures) (wrote_as c.put_operand.ensures (ap (λ j. text_in (j - 1) C) k))

pub put_choice-put_operand-asked-requires : goal.put_choice-put_operand-asked-requires
unfolding text_of
put_choice-put_operand-asked-requires t c =
    let asked = text_in 6 (operand_tree (node_at c.args.nodes.now) c.args.n c.args.t) in
    let A = operand_tree (node_at c.args.nodes.now) c.args.n c.args.a in
    let C = operand_tree (node_at c.args.nodes.now) c.args.n c.args.b in
    let n = near-left (asked ++ (63 ∷ text_of A)) (58 ∷ text_of C) c.requires in
    (omega arith, near-left asked (63 ∷ text_of A) n)

pub put_choice-put_text-first_at-requires : goal.put_choice-put_text-first_at-requires
unfolding text_of
put_choice-put_text-first_at-requires t c =
    let asked = text_in 6 (operand_tree (node_at c.args.nodes.now) c.args.n c.args.t) in
    let A = operand_tree (node_at c.args.nodes.now) c.args.n c.args.a in
    let C = operand_tree (node_at c.args.nodes.now) c.args.n c.args.b in
    let n = near-left (asked ++ (63 ∷ text_of A)) (58 ∷ text_of C) c.requires in
    omega (arith, (near-then (63 ∷ text_of A) n c.put_operand-asked.ensures).near)

pub put_choice-put_operand-first-requires : goal.put_choice-put_operand-first-requires
unfolding text_of
put_choice-put_operand-first-requires t c =
    let asked = text_in 6 (operand_tree (node_at c.args.nodes.now) c.args.n c.args.t) in
    let A = operand_tree (node_at c.args.nodes.now) c.args.n c.args.a in
    let C = operand_tree (node_at c.args.nodes.now) c.args.n c.args.b in
    let n = near-left (asked ++ (63 ∷ text_of A)) (58 ∷ text_of C) c.requires in
    (omega arith, near-as (near-then (text_of A) (near-then (63 ∷ text_of A) n c.put_operand-asked.ensures) c.put_text-first_at.ensures) (sym (anywhere A)))

pub put_choice-put_text-second_at-requires : goal.put_choice-put_text-second_at-requires
unfolding text_of
put_choice-put_text-second_at-requires t c =
    let A = operand_tree (node_at c.args.nodes.now) c.args.n c.args.a in
    let C = operand_tree (node_at c.args.nodes.now) c.args.n c.args.b in
    let w = wrote_then c.put_operand-asked.ensures (wrote_then c.put_text-first_at.ensures (wrote_as c.put_operand-first.ensures (anywhere A))) in
    omega (arith, (near-then (58 ∷ text_of C) c.requires w).near)

pub put_choice-put_operand-requires : goal.put_choice-put_operand-requires
unfolding text_of
put_choice-put_operand-requires t c =
    let A = operand_tree (node_at c.args.nodes.now) c.args.n c.args.a in
    let C = operand_tree (node_at c.args.nodes.now) c.args.n c.args.b in
    let w = wrote_then c.put_operand-asked.ensures (wrote_then c.put_text-first_at.ensures (wrote_as c.put_operand-first.ensures (anywhere A))) in
    (omega arith, near-as (near-then (text_of C) (near-then (58 ∷ text_of C) c.requires w) c.put_text-second_at.ensures) (sym (anywhere C)))

pub put_choice-returns : goal.put_choice-returns
unfolding text_of
put_choice-returns t c =
    let A = operand_tree (node_at c.args.nodes.now) c.args.n c.args.a in
    let C = operand_tree (node_at c.args.nodes.now) c.args.n c.args.b in
    let w = wrote_then c.put_operand-asked.ensures (wrote_then c.put_text-first_at.ensures (wrote_as c.put_operand-first.ensures (anywhere A))) in
    wrote_then w (wrote_then c.put_text-second_at.ensures (wrote_as c.put_operand.ensures (anywhere C)))

pub put_negation-put_negation-requires : goal.put_negation-put_negation-requires
unfolding text_of
put_negation-put_negation-requires t c =
    let s = c.args.nodes.now in
    let is = c.is_negation.ensures c.if-is_negation.true in
    let e = ap (λ j. text_of (negation (operand_tree (node_at s) c.args.a j))) c.u16_at.ensures ∙ negated-operand s c.args.n c.args.a is.0 is.1 in
    (omega arith, near-as (near-then (text_in 1 (operand_tree (node_at s) c.args.n c.args.a)) c.requires c.put_text-next.ensures) (sym e))

pub put_negation-returns-then-is_negation : goal.put_negation-returns-then-is_negation
unfolding text_of
put_negation-returns-then-is_negation t c =
    let s = c.args.nodes.now in
    let is = c.is_negation.ensures c.if-is_negation.true in
    let e = ap (λ j. text_of (negation (operand_tree (node_at s) c.args.a j))) c.u16_at.ensures ∙ negated-operand s c.args.n c.args.a is.0 is.1 in
    wrote_then c.put_text-next.ensures (wrote_as c.put_negation.ensures e)

pub put_negation-put_operand-requires : goal.put_negation-put_operand-requires
unfolding text_of
put_negation-put_operand-requires t c =
    (omega arith, near-then (text_in 1 (operand_tree (node_at c.args.nodes.now) c.args.n c.args.a)) c.requires c.put_text-next.ensures)

pub put_negation-returns : goal.put_negation-returns
unfolding text_of
put_negation-returns t c =
    wrote_then c.put_text-next.ensures c.put_operand.ensures

pub put_node-put_negation-requires : goal.put_node-put_negation-requires
put_node-put_negation-requires t c =
    let q = node-by-level c.args.nodes.now c.args.n c.fields_at-f.result c.fields_at-f.ensures in
    (omega arith, near-as c.requires.2 (sym (ap text_of (q.is_negation (q.same ∙ sym c.requires.0 ∙ c.if-k-eq1.true)))))

pub put_node-returns-then-k-eq1 : goal.put_node-returns-then-k-eq1
put_node-returns-then-k-eq1 t c =
    let q = node-by-level c.args.nodes.now c.args.n c.fields_at-f.result c.fields_at-f.ensures in
    wrote_as c.put_negation.ensures (ap text_of (q.is_negation (q.same ∙ sym c.requires.0 ∙ c.if-k-eq1.true)))

pub put_node-put_choice-requires : goal.put_node-put_choice-requires
put_node-put_choice-requires t c =
    let q = node-by-level c.args.nodes.now c.args.n c.fields_at-f.result c.fields_at-f.ensures in
    (omega arith, near-as c.requires.2 (sym (ap text_of (q.is_choice (q.same ∙ sym c.requires.0 ∙ c.if-k-eq7.true)))))

pub put_node-returns-then-k-eq7 : goal.put_node-returns-then-k-eq7
put_node-returns-then-k-eq7 t c =
    let q = node-by-level c.args.nodes.now c.args.n c.fields_at-f.result c.fields_at-f.ensures in
    wrote_as c.put_choice.ensures (ap text_of (q.is_choice (q.same ∙ sym c.requires.0 ∙ c.if-k-eq7.true)))

pub put_node-put_binary-requires : goal.put_node-put_binary-requires
put_node-put_binary-requires t c =
    let q = node-by-level c.args.nodes.now c.args.n c.fields_at-f.result c.fields_at-f.ensures in
    let m = level-most (tree_of (node_at c.args.nodes.now) c.args.n) in
    let l : 1 < code_level c.fields_at-f.result.code = omega (arith, c.requires.0, c.requires.1, c.if-k-eq1.false, q.same) in
    let h : code_level c.fields_at-f.result.code < 7 = omega (arith, c.requires.0, c.if-k-eq7.false, q.same) in
    let e = q.is_binary l h in
    (omega arith, (c.requires.0 ∙ sym (ap level e), near-as c.requires.2 (sym (ap text_of e))))

pub put_node-returns : goal.put_node-returns
put_node-returns t c =
    let q = node-by-level c.args.nodes.now c.args.n c.fields_at-f.result c.fields_at-f.ensures in
    let m = level-most (tree_of (node_at c.args.nodes.now) c.args.n) in
    let l : 1 < code_level c.fields_at-f.result.code = omega (arith, c.requires.0, c.requires.1, c.if-k-eq1.false, q.same) in
    let h : code_level c.fields_at-f.result.code < 7 = omega (arith, c.requires.0, c.if-k-eq7.false, q.same) in
    wrote_as c.put_binary.ensures (ap text_of (q.is_binary l h))

pub put_operand-returns-then-n-a : goal.put_operand-returns-then-n-a
put_operand-returns-then-n-a t c =
    wrote_as c.put_text.ensures (zero-text c.args.k ∙ ap (text_in c.args.k) (no_operand (node_at c.args.nodes.now) c.args.n c.args.a c.if-n-a.true))

pub put_operand-returns : goal.put_operand-returns
put_operand-returns t c =
    let e = enclosed-operand (node_at c.args.nodes.now) c.args.n c.args.k c.args.a c.if-n-a.false (omega (arith, c.level_at-own.ensures, c.if-own-k.false)) in
    wrote_as (wrote_then (wrote_then c.put_text-inside.ensures c.put_node-behind.ensures) c.put_text-2.ensures) e
