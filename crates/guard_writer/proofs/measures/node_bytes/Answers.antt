use mathlib.Core.Path.{◌≡◌, sym, ap, ◌∙◌, subst}
use mathlib.Core.Bool.{cond}
use mathlib.Core.List.{List, map}
use Prim.Native.Nat.{ℕ, ◌-◌, ◌<◌}
use native.Mathlib.Omega.{arith}
use Rattle.std.proofs.Common.{Option, Some, None}
use Rattle.std.specs.Prelude.{IfSome}
use lib.Dec.{ltb}
use Rattle.prelude.specs.Lists.{case_of}
use Rattle.expressions.specs.Nodes.{Node, node_at}
use Rattle.expressions.specs.Sorts.{Sort, a_truth, a_number, operands}
use Rattle.expressions.specs.Answers.{sort_for}
use Rattle.expressions.specs.Uses.{operand_numbers, add_use, add_uses}
use Rattle.guards.specs.Trees.{binary_level, level}
use Rattle.guards.specs.Lists.{tree_of}
use Rattle.guard_writer.specs.Codes.{code_level, code_binary}
use Rattle.guard_writer.specs.Measures.{Around, Own, Passes}
use Rattle.guard_writer.proofs.Texts.{level-most}
use Rattle.guard_writer.proofs.Codes.{node-by-level, node-told}
use Rattle.guard_writer.proofs.Owns.{own-negation, own-binary, own-choice, passes-negation, passes-binary, passes-choice}
use Rattle.guard_writer.proofs.measures.node_bytes.Goals as goal

used : (u : List ℕ) (x : Node) {os : List (ℕ × Sort)} → operands x ≡ os → add_uses u (map (λ o. o.0) os) ≡ add_uses u (operand_numbers x)
used u x e = ap (λ os. add_uses u (map (λ o. o.0) os)) (sym e)

two_none : (code : ℕ) → code ≡ 2 → 0 < code_level code → ⊥
unfolding case_of
two_none code e l = let d : code_level code ≡ 0 = ap code_level e in omega arith

leaf_told : (node : ℕ → Node) (n : ℕ) (r : Option ℕ) {P : Type 0} → P → IfSome r (λ b. Own node n b × Passes node n) → IfSome r (λ b. Own node n b × Passes node n × P)
leaf_told node n None p h = tt
leaf_told node n (Some b) p h = (h.0, h.1, p)

pub leaf_bytes-requires : goal.leaf_bytes-requires
leaf_bytes-requires c =
    let x = c.args in
    let f = c.fields_at-f in
    sym (node-by-level x.nodes.now x.n f.result f.ensures).same ∙ sym c.level-k.ensures ∙ c.if-k-eq0.true

pub returns-then-k-eq0 : goal.returns-then-k-eq0
unfolding add_uses
returns-then-k-eq0 c =
    let x = c.args in
    let f = c.fields_at-f in
    let s = x.nodes.now in
    let k = sym c.level-k.ensures ∙ c.if-k-eq0.true in
    let same = used x.uses.now (node_at s x.n) ((node-told s x.n f.result f.ensures).none k) in
    leaf_told (node_at s) x.n c.leaf_bytes.result same c.leaf_bytes.ensures

pub returns-then-k-eq1 : goal.returns-then-k-eq1
unfolding add_uses
returns-then-k-eq1 c =
    let x = c.args in
    let f = c.fields_at-f in
    let s = x.nodes.now in
    let k = sym c.level-k.ensures ∙ c.if-k-eq1.true in
    let t = node-told s x.n f.result f.ensures in
    let w = c.in_ok-operand_bytes in (
      own-negation (node_at s) x.n f.result.a w.field-0 w.ensures (t.one k) ((node-by-level s x.n f.result f.ensures).is_negation k),
      passes-negation (node_at s) x.n f.result.a w.field-0 w.ensures (t.one k) (t.without_variable (λ e. two_none f.result.code e (omega (arith, k)))) (t.known (λ d n. absurd (omega (arith, k, d)))),
      c.add_use.ensures ∙ used x.uses.now (node_at s x.n) (t.one k),
    )

pub returns-then-k-eq7 : goal.returns-then-k-eq7
unfolding add_uses
returns-then-k-eq7 c =
    let x = c.args in
    let f = c.fields_at-f in
    let s = x.nodes.now in
    let k = sym c.level-k.ensures ∙ c.if-k-eq7.true in
    let t = node-told s x.n f.result f.ensures in
    let q = c.in_ok-operand_bytes-2 in
    let w = c.in_ok-operand_bytes-3 in
    let v = c.in_ok-operand_bytes-4 in (
      own-choice (node_at s) x.n f.result.a f.result.b f.result.c q.field-0 w.field-0 v.field-0 q.ensures w.ensures v.ensures (t.three k) ((node-by-level s x.n f.result f.ensures).is_choice k),
      passes-choice (node_at s) x.n f.result.a f.result.b f.result.c q.field-0 w.field-0 v.field-0 q.ensures w.ensures v.ensures (t.three k) (t.without_variable (λ e. two_none f.result.code e (omega (arith, k)))) (t.known (λ d n. absurd (omega (arith, k, d)))),
      c.add_use-then-k-eq7-3.ensures ∙ ap (λ u. add_use u f.result.c) (c.add_use-then-k-eq7-2.ensures ∙ ap (λ u. add_use u f.result.b) c.add_use-then-k-eq7.ensures) ∙ used x.uses.now (node_at s x.n) (t.three k),
    )

pub returns : goal.returns
unfolding add_uses
returns c =
    let x = c.args in
    let f = c.fields_at-f in
    let s = x.nodes.now in
    let q = node-by-level s x.n f.result f.ensures in
    let t = node-told s x.n f.result f.ensures in
    let l : 1 < code_level f.result.code = omega (arith, c.level-k.ensures, c.if-k-eq0.false, c.if-k-eq1.false) in
    let h : code_level f.result.code < 7 = let m = level-most (tree_of (node_at s) x.n) in omega (arith, c.level-k.ensures, c.if-k-eq7.false, q.same) in
    let e = q.is_binary l h in
    let k : c.level-k.result ≡ binary_level (code_binary f.result.code) = c.level-k.ensures ∙ q.same ∙ sym (ap level e) in
    let sort = cond (ltb 19 f.result.code) a_truth a_number in
    let sign = c.sign_bytes in
    let w = c.in_ok-operand_bytes-5 in
    let v = c.in_ok-operand_bytes-6 in
    let first = subst (λ o. Around (node_at s) x.n (binary_level (code_binary f.result.code)) f.result.a o w.field-0) c.operand_sort-sort.ensures (subst (λ j. Around (node_at s) x.n j f.result.a (sort_for c.operand_sort-sort.result) w.field-0) k w.ensures) in
    let second = subst (λ o. Around (node_at s) x.n (binary_level (code_binary f.result.code) - 1) f.result.b o v.field-0) c.operand_sort-sort.ensures (subst (λ j. Around (node_at s) x.n (j - 1) f.result.b (sort_for c.operand_sort-sort.result) v.field-0) k v.ensures) in (
      own-binary (node_at s) x.n (code_binary f.result.code) sort f.result.a f.result.b sign.result w.field-0 v.field-0 first second (t.both l h) sign.ensures.0 sign.ensures.1 e,
      passes-binary (node_at s) x.n (code_binary f.result.code) sort f.result.a f.result.b sign.result w.field-0 v.field-0 first second (t.both l h) (t.without_variable (λ d. two_none f.result.code d (omega (arith, l)))) (t.known (λ d n. absurd (omega (arith, l, d)))),
      c.add_use-3.ensures ∙ ap (λ u. add_use u f.result.b) c.add_use-2.ensures ∙ used x.uses.now (node_at s x.n) (t.both l h),
    )
