use mathlib.Core.Path.{refl, sym, ap, ◌∙◌}
use Prim.Native.Nat.{◌+◌, ◌≤◌}
use native.Mathlib.Omega.{arith}
use lib.IntN.{pos, neg_ℤ}
use lib.ListN.{drop}
use Rattle.records.specs.Refusal.{◌>>=◌}
use Rattle.guards.specs.Trees.{constant, variable}
use Rattle.guards.specs.Grammar.{read}
use Rattle.guard_reader.proofs.PackedParts.{parsed_of-zero}
use Rattle.guard_reader.proofs.Leaves.{no_number, a_number, is_variable, is_negative, is_positive, variable-tree, constant-tree}
use Rattle.guard_reader.proofs.rules.leaf.Goals as goal

pub returns-in_default : goal.returns-in_default
returns-in_default c =
    let x = c.args in
    rw parsed_of-zero (
    λ d _. is_variable x.text.now x.at (sym c.byte_at-b.ensures ∙ c.if-b-eq118.true)
    ∙ ap (λ o. o >>= λ n. read (variable n.got) n.rest) (no_number x.text.now (x.at + 1) 63 c.number_at.result c.number_at.ensures c.in_default.is))

pub returns-then-b-eq118 : goal.returns-then-b-eq118
returns-then-b-eq118 c =
    let x = c.args in
    let r = a_number x.text.now (x.at + 1) 63 c.number_at.result c.number_at.ensures c.in-Some.n c.in-Some.next c.in-Some.is in
    let on : x.at + 1 + 1 ≤ c.in-Some.next = r.onward in
    rw c.packed.ensures (
    record {
      tree = variable c.in-Some.n;
      same = λ d _. is_variable x.text.now x.at (sym c.byte_at-b.ensures ∙ c.if-b-eq118.true) ∙ ap (λ o. o >>= λ n. read (variable n.got) n.rest) r.same ∙ ap (λ k. read (variable c.in-Some.n) (drop k x.text.now)) (sym c.variable.ensures.part.behind);
      has = variable-tree c.requires.few (omega arith) r.inside c.in-Some.n c.variable.ensures;
    })

pub returns-in_default-number_at : goal.returns-in_default-number_at
returns-in_default-number_at c =
    let x = c.args in
    rw parsed_of-zero (
    λ d _. is_negative x.text.now x.at (sym c.byte_at-b.ensures ∙ c.if-b-eq45.true)
    ∙ ap (λ o. o >>= λ n. read (constant (neg_ℤ (pos n.got))) n.rest) (no_number x.text.now (x.at + 1) 2147483648 c.number_at-then-b-eq45.result c.number_at-then-b-eq45.ensures c.in_default-number_at.is))

pub returns-then-b-eq45 : goal.returns-then-b-eq45
returns-then-b-eq45 c =
    let x = c.args in
    let r = a_number x.text.now (x.at + 1) 2147483648 c.number_at-then-b-eq45.result c.number_at-then-b-eq45.ensures c.in-Some-number_at.n c.in-Some-number_at.next c.in-Some-number_at.is in
    let on : x.at + 1 + 1 ≤ c.in-Some-number_at.next = r.onward in
    rw c.packed-then-b-eq45.ensures (
    record {
      tree = constant (neg_ℤ (pos c.in-Some-number_at.n));
      same = λ d _. is_negative x.text.now x.at (sym c.byte_at-b.ensures ∙ c.if-b-eq45.true) ∙ ap (λ o. o >>= λ n. read (constant (neg_ℤ (pos n.got))) n.rest) r.same ∙ ap (λ k. read (constant (neg_ℤ (pos c.in-Some-number_at.n))) (drop k x.text.now)) (sym c.constant.ensures.part.behind);
      has = constant-tree c.requires.few (omega arith) r.inside (neg_ℤ (pos c.in-Some-number_at.n)) c.negative.result c.negative.ensures c.constant.ensures;
    })

pub returns-in_default-number_at-2 : goal.returns-in_default-number_at-2
returns-in_default-number_at-2 c =
    let x = c.args in
    rw parsed_of-zero (
    λ d _. is_positive x.text.now x.at (λ e. c.if-b-eq118.false (c.byte_at-b.ensures ∙ e)) (λ e. c.if-b-eq45.false (c.byte_at-b.ensures ∙ e))
    ∙ ap (λ o. o >>= λ n. read (constant (pos n.got)) n.rest) (no_number x.text.now x.at 2147483647 c.number_at-2.result c.number_at-2.ensures c.in_default-number_at-2.is))

pub returns : goal.returns
returns c =
    let x = c.args in
    let r = a_number x.text.now x.at 2147483647 c.number_at-2.result c.number_at-2.ensures c.in-Some-number_at-2.n c.in-Some-number_at-2.next c.in-Some-number_at-2.is in
    let on : x.at + 1 ≤ c.in-Some-number_at-2.next = r.onward in
    rw c.packed-2.ensures (
    record {
      tree = constant (pos c.in-Some-number_at-2.n);
      same = λ d _. is_positive x.text.now x.at (λ e. c.if-b-eq118.false (c.byte_at-b.ensures ∙ e)) (λ e. c.if-b-eq45.false (c.byte_at-b.ensures ∙ e)) ∙ ap (λ o. o >>= λ n. read (constant (pos n.got)) n.rest) r.same ∙ ap (λ k. read (constant (pos c.in-Some-number_at-2.n)) (drop k x.text.now)) (sym c.constant-2.ensures.part.behind);
      has = constant-tree c.requires.few (omega arith) r.inside (pos c.in-Some-number_at-2.n) c.in-Some-number_at-2.n refl c.constant-2.ensures;
    })
