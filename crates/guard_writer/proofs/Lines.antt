-- The line of an accepted list: it is short, and what the call answers. Assumes nothing.
use mathlib.Core.Path.{◌≡◌, sym, ap, ◌∙◌, subst}
use mathlib.Core.Bool.{Bool, true, false, cond}
use mathlib.Core.Option.{some, none}
use mathlib.Core.List.{List, ◌++◌}
use Prim.Native.Nat.{ℕ, suc, ◌*◌, ◌-◌, ◌/◌, ◌≤◌, ◌<◌}
use native.Mathlib.Nat.{zero-add}
use native.Mathlib.Omega.{arith}
use borrow.Author.Tests.{ltb-true, ltb-false, eqb-true, lt-ltb, le-ltb}
use lib.Dec.{ltb, eqb}
use lib.ListN.{length, drop}
use lib.Seq.{sets-eq}
use Rattle.prelude.specs.Lists.{all, upto}
use Rattle.prelude.proofs.Numbers.{all-at}
use Rattle.records.specs.Refusal.{Refusal, short_space, val, fault, fault_if, ◌>>◌, unless_refused}
use Rattle.records.specs.Wrote.{Wrote}
use Rattle.expressions.specs.Nodes.{Node, node_at}
use Rattle.expressions.specs.Sorts.{sort_of, is_truth, nodes_named, operands_fit, operand_uses}
use Rattle.model.specs.Outcome.{Outcome, settled}
use Rattle.guards.specs.Texts.{text_of}
use Rattle.guards.specs.Lists.{tree_of, is_known, used_rightly, is_one_tree, list_refusal}
use Rattle.guards.specs.Calls.{written, written_line, write_guard}
use Rattle.guard_writer.specs.Operands.{Near}
use Rattle.guard_writer.specs.Measures.{OwnAll}
use Rattle.guard_writer.proofs.Listed.{passed, tree-parts}
use Rattle.guard_writer.proofs.Short.{short-text, own-text}

-- ---- how short

used-once : (node : ℕ → Node) (size k : ℕ) → k < size → all (used_rightly node size) (upto size) ≡ true → operand_uses node size k ≤ 1
used-once node size k h e = go (eqb (suc k) size) (eqb-true (operand_uses node size k) (cond (eqb (suc k) size) 0 1) (all-at (used_rightly node size) size k h e))
  where
    go : (last : Bool) → operand_uses node size k ≡ cond last 0 1 → operand_uses node size k ≤ 1
    go true d = omega arith
    go false d = omega arith

module _ (s : List ℕ) (accepted : none ≡ list_refusal (node_at s) (length s / 16)) where
  abbrev size : ℕ
  size = length s / 16

  tests : (ltb 1024 size ≡ false) × (is_one_tree (node_at s) size ≡ true)
  tests = passed (ltb 1024 size) (all (is_known (node_at s) size) (upto size)) (nodes_named (node_at s) size 64) (is_one_tree (node_at s) size) accepted

  parts : (ltb 0 size ≡ true) × (all (used_rightly (node_at s) size) (upto size) ≡ true)
  parts = tree-parts (ltb 0 size) (operands_fit (node_at s) size) (is_truth (sort_of (node_at s (size - 1)))) (all (used_rightly (node_at s) size) (upto size)) tests.1

  pub few-nodes : size ≤ 1024
  few-nodes = ltb-false 1024 size tests.0

  pub some-nodes : 0 < size
  some-nodes = ltb-true 0 size parts.0

  once : (k : ℕ) → k < size - 1 → operand_uses (node_at s) size k ≤ 1
  once k h = used-once (node_at s) size k (omega arith) parts.1

  -- 21 bytes to a node are enough, and so are those that are each node's own
  pub line-short : length (written_line s) ≤ 21 * size
  line-short = let some = some-nodes in omega (arith, short-text (node_at s) size (size - 1) (omega arith) once)

  pub line-own : (bytes : ℕ) → OwnAll (node_at s) size bytes → length (written_line s) ≤ bytes
  line-own bytes own =
      let some = some-nodes in
      let e : size ≡ suc (size - 1) = omega arith in
      own-text (node_at s) size (size - 1) (omega arith) once bytes (subst (λ k. OwnAll (node_at s) k bytes) e own)

  pub short-line : length (written_line s) ≤ 21 * 1024
  short-line = omega (arith, line-short, few-nodes)

  pub near-line : Near 0 (written_line s)
  near-line = record { near = omega (arith, short-line) }

-- the text of the root's tree
pub line-is : (s : List ℕ) {root : ℕ} → root ≡ length s / 16 - 1 → text_of (tree_of (node_at s) root) ≡ written_line s
line-is s e = ap (λ n. text_of (tree_of (node_at s) n)) e

-- ---- what the call answers

pub refused-answer : (s lent : List ℕ) (w : Refusal) → some w ≡ list_refusal (node_at s) (length s / 16) → ◌≡◌ {A = Outcome ℕ (List ℕ)} (record { answer = fault w; lent = lent }) (write_guard s lent)
refused-answer s lent w e i = settled lent (unless_refused (e i) (fault_if (ltb (length lent) (length (written_line s))) short_space >> val (written (length (written_line s)) (written_line s) lent)))

module _ (s lent : List ℕ) (accepted : none ≡ list_refusal (node_at s) (length s / 16)) where
  pub too_short : length lent < length (written_line s) → ◌≡◌ {A = Outcome ℕ (List ℕ)} (record { answer = fault short_space; lent = lent }) (write_guard s lent)
  too_short h =
      let t : true ≡ ltb (length lent) (length (written_line s)) = sym (lt-ltb (length lent) (length (written_line s)) h) in
      λ i. settled lent (unless_refused (accepted i) (fault_if (t i) short_space >> val (written (length (written_line s)) (written_line s) lent)))

  pub line-answer : length (written_line s) ≤ length lent → {out : List ℕ} {n : ℕ} → Wrote lent 0 (written_line s) out n → ◌≡◌ {A = Outcome ℕ (List ℕ)} (record { answer = val n; lent = out }) (write_guard s lent)
  line-answer h {out} {n} w =
      let text = written_line s in
      let t : false ≡ ltb (length lent) (length text) = sym (le-ltb (length lent) (length text) h) in
      let size : n ≡ length text = omega (arith, w.behind) in
      let bytes : out ≡ text ++ drop (length text) lent = w.written ∙ sets-eq text lent 0 (omega arith) ∙ ap (λ k. text ++ drop k lent) (zero-add (length text)) in
      (λ i. settled lent (val (size i, bytes i))) ∙ (λ i. settled lent (unless_refused (accepted i) (fault_if (t i) short_space >> val (written (length text) text lent))))
