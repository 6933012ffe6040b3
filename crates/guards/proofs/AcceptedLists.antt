-- A list of nodes that the writer takes is a tree that a line can hold. Assumes nothing.
use mathlib.Core.Path.{◌≡◌, refl, sym, ◌∙◌, subst}
use mathlib.Core.Bool.{Bool, true, false, ◌||◌}
use mathlib.Core.Option.{none}
use mathlib.Core.List.{List, [], ◌∷◌}
use Prim.Native.Nat.{ℕ, zero, suc, ◌-◌, ◌^◌, ◌≤◌, ◌<◌}
use native.Mathlib.Omega.{arith}
use borrow.Author.Tests.{lt-ltb, ltb-true, ltb-false, le-leb, not-false}
use lib.Dec.{ltb}
use lib.Signed.{mag}
use Rattle.prelude.specs.Lists.{all, upto}
use Rattle.prelude.proofs.Counts.{and-true, impossible}
use Rattle.prelude.proofs.Numbers.{both_true, all-at}
use Rattle.records.specs.Refusal.{Refusal, lowest}
use Rattle.records.proofs.RoundTrips.{OfBytes}
use Rattle.expressions.specs.Nodes as N
use Rattle.expressions.specs.Nodes.{Node, node_at}
use Rattle.expressions.specs.Sorts as S
use Rattle.expressions.specs.Sorts.{Sort, a_number, a_truth, neither, sort_of, same_sort, operands, variables_of, operand_fits, node_fits, node_named, nodes_named, operands_fit}
use Rattle.guards.specs.Trees.{Binary, arithmetic, comparison, both, either, Tree, binary, gives_truth, takes_truths, is_truth, pair_fits, fits, is_writable}
use Rattle.model.specs.Limits.{most_nodes, most_variables}
use Rattle.guards.specs.Lists.{is_known, used_rightly, is_one_tree, list_refusal, tree_by, tree_at, tree_of}
use Rattle.guards.proofs.NodeRecords.{Recordable, node_at-recordable}
use Rattle.guards.proofs.NodeTrees.{operand_tree, operand_tree-lower}

-- ---- what the tests say

lowest-none : (w : Refusal) (b : Bool) (xs : List (Refusal × Bool)) → lowest ((w, b) ∷ xs) ≡ none → (b ≡ false) × (lowest xs ≡ none)
unfolding lowest
lowest-none w true xs e = let z : ◌≡◌ {A = ℕ} 0 1 = cc in absurd (omega arith)
lowest-none w false xs e = (refl, e)

pub record Accepted (node : ℕ → Node) (size : ℕ) : Type 0 where
  pub few : size ≤ most_nodes
  pub known : all (is_known node size) (upto size) ≡ true
  pub named : nodes_named node size most_variables ≡ true
  pub filled : 0 < size
  pub fit : operands_fit node size ≡ true
  pub root : S.is_truth (sort_of (node (size - 1))) ≡ true
  pub used : all (used_rightly node size) (upto size) ≡ true

pub accepted : (node : ℕ → Node) (size : ℕ) → list_refusal node size ≡ none → Accepted node size
accepted node size e =
    let a = lowest-none _ _ _ e in
    let b = lowest-none _ _ _ a.1 in
    let c = lowest-none _ _ _ b.1 in
    let d = lowest-none _ _ _ c.1 in
    let x = and-true _ _ (not-false (is_one_tree node size) d.0) in
    let y = and-true _ _ x.0 in
    let z = and-true _ _ y.0 in
    record {
      few = ltb-false most_nodes size a.0;
      known = not-false _ b.0;
      named = not-false _ c.0;
      filled = ltb-true 0 size z.0;
      fit = z.1;
      root = y.1;
      used = x.1;
    }

-- ---- the tree of a node

-- a tree that a line can hold, its operands of the right sorts, and itself of sort s
abbrev pub Held : Sort → Tree → Type 0
Held s t = (is_writable t ≡ true) × (fits t ≡ true) × (is_truth t ≡ S.is_truth s)

same-sort : (s u : Sort) → same_sort s u ≡ true → S.is_truth u ≡ S.is_truth s
same-sort a_number a_number e = refl
same-sort a_number a_truth e = impossible (sym e)
same-sort a_number neither e = refl
same-sort a_truth a_number e = impossible (sym e)
same-sort a_truth a_truth e = refl
same-sort a_truth neither e = impossible (sym e)
same-sort neither u e = impossible (sym e)

alike-fit : (b : Bool) → pair_fits b b b ≡ true
alike-fit true = refl
alike-fit false = refl

binary-held : (o : Binary) (s r : Sort) (t u : Tree) → takes_truths o ≡ S.is_truth s → gives_truth o ≡ S.is_truth r → Held s t → Held s u → Held r (binary o t u)
unfolding is_writable fits
binary-held o s r t u e g p q =
    let f : pair_fits (takes_truths o) (is_truth t) (is_truth u) ≡ true = (λ i. pair_fits (e i) (p.2 i) (q.2 i)) ∙ alike-fit (S.is_truth s) in
    (both_true p.0 q.0, both_true (both_true p.1 q.1) f, g)

module _ (node : ℕ → Node) (n d : ℕ) (lower : (a : ℕ) → a < n → Held (sort_of (node a)) (tree_at node d a)) where
  abbrev below : ℕ → Tree
  below a = operand_tree node d n a

  operand-held : (a : ℕ) (s : Sort) → operand_fits node n (a, s) ≡ true → Held s (below a)
  operand-held a s e =
      let x = and-true (ltb a n) (same_sort s (sort_of (node a))) e in
      let l = ltb-true a n x.0 in
      let h = lower a l in
      subst (Held s) (sym (operand_tree-lower node d n a l)) (h.0, h.1, h.2 ∙ same-sort s (sort_of (node a)) x.1)

  two-held : (a b : ℕ) (s : Sort) → all (operand_fits node n) ((a, s) ∷ (b, s) ∷ []) ≡ true → Held s (below a) × Held s (below b)
  unfolding all
  two-held a b s f =
      let x = and-true (operand_fits node n (a, s)) _ f in
      let y = and-true (operand_fits node n (b, s)) _ x.1 in
      (operand-held a s x.0, operand-held b s y.0)

  node-held : (x : Node) → Recordable x → all (operand_fits node n) (operands x) ≡ true → all (λ v. ltb v most_variables) (variables_of x) ≡ true →
      (S.is_number (sort_of x) || S.is_truth (sort_of x)) ≡ true → Held (sort_of x) (tree_by below x)
  unfolding all is_writable fits
  node-held (N.constant z) c f v k = (lt-ltb (mag z) (2 ^ 31) c, refl, refl)
  node-held (N.variable w) c f v k = let l : w < 64 = ltb-true w 64 (and-true (ltb w 64) true v).0 in (le-leb w 63 (omega arith), refl, refl)
  node-held (N.arithmetic o a b) c f v k = let h = two-held a b a_number f in binary-held (arithmetic o) a_number a_number (below a) (below b) refl refl h.0 h.1
  node-held (N.choice t a b) c f v k =
      let x = and-true (operand_fits node n (t, a_truth)) _ f in
      let p = operand-held t a_truth x.0 in
      let h = two-held a b a_number x.1 in
      let q = h.0 in
      let r = h.1 in
      let g : pair_fits false (is_truth (below a)) (is_truth (below b)) ≡ true = λ i. pair_fits false (q.2 i) (r.2 i) in
      (both_true (both_true p.0 q.0) r.0, both_true (both_true (both_true (both_true p.1 q.1) r.1) p.2) g, refl)
  node-held (N.comparison o a b) c f v k = let h = two-held a b a_number f in binary-held (comparison o) a_number a_truth (below a) (below b) refl refl h.0 h.1
  node-held (N.negation a) c f v k =
      let p = operand-held a a_truth (and-true (operand_fits node n (a, a_truth)) true f).0 in
      (p.0, both_true p.1 p.2, refl)
  node-held (N.both a b) c f v k = let h = two-held a b a_truth f in binary-held both a_truth a_truth (below a) (below b) refl refl h.0 h.1
  node-held (N.either a b) c f v k = let h = two-held a b a_truth f in binary-held either a_truth a_truth (below a) (below b) refl refl h.0 h.1
  node-held N.unknown c f v k = impossible (sym k)

module _ (node : ℕ → Node) (size : ℕ) (ok : Accepted node size) (low : (n : ℕ) → Recordable (node n)) where
  tree_at-held : (d n : ℕ) → n < d → n < size → Held (sort_of (node n)) (tree_at node d n)
  unfolding tree_at
  tree_at-held zero n l m = absurd (omega arith)
  tree_at-held (suc d) n l m =
      node-held node n d (λ a b. tree_at-held d a (omega arith) (omega arith)) (node n) (low n)
      (all-at (node_fits node) size n m ok.fit)
      (and-true (all (λ o. ltb o.0 size) (operands (node n))) _ (all-at (node_named node size most_variables) size n m ok.named)).1
      (all-at (is_known node size) size n m ok.known)

  pub tree_of-held : Held a_truth (tree_of node (size - 1))
  tree_of-held =
      let s = ok.filled in
      let h = tree_at-held (suc (size - 1)) (size - 1) (omega arith) (omega arith) in
      (h.0, h.1, h.2 ∙ ok.root)

-- of bytes
pub list_refusal-held : (s : List ℕ) → OfBytes s → (size : ℕ) → list_refusal (node_at s) size ≡ none →
    let t = tree_of (node_at s) (size - 1) in
    (is_writable t ≡ true) × (fits t ≡ true) × (is_truth t ≡ true)
list_refusal-held s bytes size e = tree_of-held (node_at s) size (accepted (node_at s) size e) (node_at-recordable s bytes)
