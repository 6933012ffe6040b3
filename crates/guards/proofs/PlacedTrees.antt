-- A tree whose nodes stand in a list of nodes: the list has it back, and its nodes pass the writer's tests of each. Assumes nothing.
use mathlib.Core.Path.{◌≡◌, refl, sym, ap, ◌∙◌}
use mathlib.Core.Bool.{Bool, true, not, cond, ◌&&◌, ◌||◌}
use mathlib.Core.List.{[], ◌∷◌}
use Prim.Native.Nat.{ℕ, ◌+◌, ◌-◌, ◌≤◌, ◌<◌}
use native.Mathlib.Nat.{add_assoc}
use native.Mathlib.Omega.{arith}
use borrow.Author.Tests.{leb-true, lt-ltb, not-true}
use lib.Dec.{ltb}
use Rattle.prelude.specs.Lists.{all, from}
use Rattle.prelude.proofs.Counts.{and-true}
use Rattle.prelude.proofs.Gathered.{from-append}
use Rattle.prelude.proofs.Numbers.{both_true, all_append}
use Rattle.expressions.specs.Nodes as N
use Rattle.expressions.specs.Nodes.{Node}
use Rattle.expressions.specs.Sorts as S
use Rattle.expressions.specs.Sorts.{Sort, a_number, a_truth, sort_of, is_number, operands, variables_of, operand_fits}
use Rattle.guards.specs.Trees.{Binary, arithmetic, comparison, both, either, Tree, constant, variable, negation, binary, choice, node_count, binary_node, takes_truths, is_truth, pair_fits, fits, is_writable}
use Rattle.model.specs.Limits.{most_variables}
use Rattle.guards.specs.Lists.{tree_by, tree_at}
use Rattle.guards.proofs.NodeTrees.{operand_tree, operand_tree-lower, tree_at-node}
use Rattle.guards.proofs.Numbering.{Placed, node_count-some}

abbrev pub tree_sort : Tree → Sort
tree_sort t = cond (is_truth t) a_truth a_number

-- ---- laws of a node between two operands

tree_by-binary : (f : ℕ → Tree) (o : Binary) (a b : ℕ) → tree_by f (binary_node o a b) ≡ binary o (f a) (f b)
tree_by-binary f (arithmetic o) a b = refl
tree_by-binary f (comparison o) a b = refl
tree_by-binary f both a b = refl
tree_by-binary f either a b = refl

sort-binary : (o : Binary) (a b : ℕ) (t u : Tree) → sort_of (binary_node o a b) ≡ tree_sort (binary o t u)
sort-binary (arithmetic o) a b t u = refl
sort-binary (comparison o) a b t u = refl
sort-binary both a b t u = refl
sort-binary either a b t u = refl

module _ (node : ℕ → Node) where
  -- ---- the tree is had back

  operand-is : (d n a : ℕ) (t : Tree) → a < n → tree_at node d a ≡ t → operand_tree node d n a ≡ t
  operand-is d n a t l e = operand_tree-lower node d n a l ∙ e

  pub placed-tree : (m : ℕ) (t : Tree) → Placed node m t → (d n : ℕ) → n + 1 ≡ m + node_count t → n < d → tree_at node d n ≡ t
  unfolding Placed node_count
  placed-tree m (constant z) p d n e l = tree_at-node node d n (N.constant z) l (ap node (let h : n ≡ m = omega arith in h) ∙ p)
  placed-tree m (variable v) p d n e l = tree_at-node node d n (N.variable v) l (ap node (let h : n ≡ m = omega arith in h) ∙ p)
  placed-tree m (negation t) p d n e l =
      let c = node_count-some t in
      let k = m + node_count t in
      tree_at-node node d n (N.negation (k - 1)) l (ap node (let h : n ≡ k = omega arith in h) ∙ p.1)
      ∙ ap negation (operand-is (d - 1) n (k - 1) t (omega arith) (placed-tree m t p.0 (d - 1) (k - 1) (omega arith) (omega arith)))
  placed-tree m (binary o a b) p d n e l =
      let ca = node_count-some a in
      let cb = node_count-some b in
      let k = m + node_count a in
      let j = k + node_count b in
      tree_at-node node d n (binary_node o (k - 1) (j - 1)) l (ap node (let h : n ≡ j = omega arith in h) ∙ p.2)
      ∙ tree_by-binary (operand_tree node (d - 1) n) o (k - 1) (j - 1)
      ∙ (λ i. binary o
      (operand-is (d - 1) n (k - 1) a (omega arith) (placed-tree m a p.0 (d - 1) (k - 1) (omega arith) (omega arith)) i)
      (operand-is (d - 1) n (j - 1) b (omega arith) (placed-tree k b p.1 (d - 1) (j - 1) (omega arith) (omega arith)) i))
  placed-tree m (choice t a b) p d n e l =
      let ct = node_count-some t in
      let ca = node_count-some a in
      let cb = node_count-some b in
      let k = m + node_count t in
      let j = k + node_count a in
      let f = j + node_count b in
      tree_at-node node d n (N.choice (k - 1) (j - 1) (f - 1)) l (ap node (let h : n ≡ f = omega arith in h) ∙ p.3)
      ∙ (λ i. choice
      (operand-is (d - 1) n (k - 1) t (omega arith) (placed-tree m t p.0 (d - 1) (k - 1) (omega arith) (omega arith)) i)
      (operand-is (d - 1) n (j - 1) a (omega arith) (placed-tree k a p.1 (d - 1) (j - 1) (omega arith) (omega arith)) i)
      (operand-is (d - 1) n (f - 1) b (omega arith) (placed-tree j b p.2 (d - 1) (f - 1) (omega arith) (omega arith)) i))

  -- ---- its nodes pass the tests of each node: known, operands lower and of the right sort, a variable of the 64

  pub placed-sort : (m : ℕ) (t : Tree) → Placed node m t → sort_of (node (m + node_count t - 1)) ≡ tree_sort t
  unfolding Placed node_count
  placed-sort m (constant z) p = ap sort_of (ap node (let h : m + 1 - 1 ≡ m = omega arith in h) ∙ p)
  placed-sort m (variable v) p = ap sort_of (ap node (let h : m + 1 - 1 ≡ m = omega arith in h) ∙ p)
  placed-sort m (negation t) p = ap sort_of (ap node (let h : m + (node_count t + 1) - 1 ≡ m + node_count t = omega arith in h) ∙ p.1)
  placed-sort m (binary o a b) p =
      ap sort_of (ap node (let h : m + (node_count a + node_count b + 1) - 1 ≡ m + node_count a + node_count b = omega arith in h) ∙ p.2)
      ∙ sort-binary o (m + node_count a - 1) (m + node_count a + node_count b - 1) a b
  placed-sort m (choice t a b) p =
      ap sort_of (ap node (let h : m + (node_count t + node_count a + node_count b + 1) - 1 ≡ m + node_count t + node_count a + node_count b = omega arith in h) ∙ p.3)

  abbrev passes_as : ℕ → Node → Bool
  passes_as n x = (is_number (sort_of x) || S.is_truth (sort_of x)) && all (operand_fits node n) (operands x) && all (λ v. ltb v most_variables) (variables_of x)

  abbrev pub passes : ℕ → Bool
  passes n = passes_as n (node n)

  number_fits : (n k : ℕ) (t : Tree) → k < n → sort_of (node k) ≡ tree_sort t → not (is_truth t) ≡ true → operand_fits node n (k, a_number) ≡ true
  number_fits n k t l e h = both_true (lt-ltb k n l) (ap is_number e ∙ ap (λ b. is_number (cond b a_truth a_number)) (not-true (is_truth t) h))

  truth-fits : (n k : ℕ) (t : Tree) → k < n → sort_of (node k) ≡ tree_sort t → is_truth t ≡ true → operand_fits node n (k, a_truth) ≡ true
  truth-fits n k t l e h = both_true (lt-ltb k n l) (ap S.is_truth e ∙ ap (λ b. S.is_truth (cond b a_truth a_number)) h)

  two-fit : (n : ℕ) (x y : ℕ × Sort) → operand_fits node n x ≡ true → operand_fits node n y ≡ true → (all (operand_fits node n) (x ∷ y ∷ []) && true) ≡ true
  unfolding all
  two-fit n x y e f = both_true (both_true e (both_true f refl)) refl

  module _ (n a b : ℕ) (t u : Tree) (la : a < n) (lb : b < n) (ea : sort_of (node a) ≡ tree_sort t) (eb : sort_of (node b) ≡ tree_sort u) where
    two-numbers : (not (is_truth t) && not (is_truth u)) ≡ true → (all (operand_fits node n) ((a, a_number) ∷ (b, a_number) ∷ []) && true) ≡ true
    two-numbers f =
        let g = and-true (not (is_truth t)) (not (is_truth u)) f in
        two-fit n (a, a_number) (b, a_number) (number_fits n a t la ea g.0) (number_fits n b u lb eb g.1)

    two-truths : (is_truth t && is_truth u) ≡ true → (all (operand_fits node n) ((a, a_truth) ∷ (b, a_truth) ∷ []) && true) ≡ true
    two-truths f =
        let g = and-true (is_truth t) (is_truth u) f in
        two-fit n (a, a_truth) (b, a_truth) (truth-fits n a t la ea g.0) (truth-fits n b u lb eb g.1)

    binary-passes : (o : Binary) → pair_fits (takes_truths o) (is_truth t) (is_truth u) ≡ true → passes_as n (binary_node o a b) ≡ true
    unfolding all
    binary-passes (arithmetic o) f = two-numbers f
    binary-passes (comparison o) f = two-numbers f
    binary-passes both f = two-truths f
    binary-passes either f = two-truths f

  all_more : (p : ℕ → Bool) (m c : ℕ) → all p (from m c) ≡ true → p (m + c) ≡ true → all p (from m (c + 1)) ≡ true
  unfolding all from
  all_more p m c h e = ap (all p) (from-append m c 1) ∙ all_append p (from m c) ((m + c) ∷ []) ∙ both_true h (both_true e refl)

  all_join : (p : ℕ → Bool) (m c d : ℕ) → all p (from m c) ≡ true → all p (from (m + c) d) ≡ true → all p (from m (c + d)) ≡ true
  all_join p m c d h e = ap (all p) (from-append m c d) ∙ all_append p (from m c) (from (m + c) d) ∙ both_true h e

  pub placed-passes : (m : ℕ) (t : Tree) → Placed node m t → fits t ≡ true → is_writable t ≡ true → all passes (from m (node_count t)) ≡ true
  unfolding Placed node_count fits is_writable all from
  placed-passes m (constant z) p f w = both_true (ap (passes_as m) p) refl
  placed-passes m (variable v) p f w =
      let l : v ≤ 63 = leb-true v 63 w in
      both_true (ap (passes_as m) p ∙ both_true (lt-ltb v most_variables (omega arith)) refl) refl
  placed-passes m (negation t) p f w =
      let g = and-true (fits t) (is_truth t) f in
      let n = m + node_count t in
      all_more passes m (node_count t) (placed-passes m t p.0 g.0 w)
      (ap (passes_as n) p.1 ∙ both_true (both_true (truth-fits n (n - 1) t (omega (arith, node_count-some t)) (placed-sort m t p.0) g.1) refl) refl)
  placed-passes m (binary o a b) p f w =
      let g = and-true (fits a && fits b) (pair_fits (takes_truths o) (is_truth a) (is_truth b)) f in
      let h = and-true (fits a) (fits b) g.0 in
      let v = and-true (is_writable a) (is_writable b) w in
      let k = m + node_count a in
      let n = k + node_count b in
      let ca = node_count-some a in
      let cb = node_count-some b in
      all_more passes m (node_count a + node_count b)
      (all_join passes m (node_count a) (node_count b) (placed-passes m a p.0 h.0 v.0) (placed-passes k b p.1 h.1 v.1))
      (ap passes (sym (add_assoc m (node_count a) (node_count b)))
      ∙ ap (passes_as n) p.2
      ∙ binary-passes n (k - 1) (n - 1) a b (omega arith) (omega arith) (placed-sort m a p.0) (placed-sort k b p.1) o g.1)
  placed-passes m (choice t a b) p f w =
      let g = and-true (fits t && fits a && fits b && is_truth t) (not (is_truth a) && not (is_truth b)) f in
      let x = and-true (fits t && fits a && fits b) (is_truth t) g.0 in
      let y = and-true (fits t && fits a) (fits b) x.0 in
      let h = and-true (fits t) (fits a) y.0 in
      let u = and-true (is_writable t && is_writable a) (is_writable b) w in
      let v = and-true (is_writable t) (is_writable a) u.0 in
      let q = and-true (not (is_truth a)) (not (is_truth b)) g.1 in
      let k = m + node_count t in
      let j = k + node_count a in
      let n = j + node_count b in
      let ct = node_count-some t in
      let ca = node_count-some a in
      let cb = node_count-some b in
      let e : m + (node_count t + node_count a) ≡ j = sym (add_assoc m (node_count t) (node_count a)) in
      all_more passes m (node_count t + node_count a + node_count b)
      (all_join passes m (node_count t + node_count a) (node_count b)
      (all_join passes m (node_count t) (node_count a) (placed-passes m t p.0 h.0 v.0) (placed-passes k a p.1 h.1 v.1))
      (ap (λ i. all passes (from i (node_count b))) e ∙ placed-passes j b p.2 y.1 u.1))
      (ap passes (let d : m + (node_count t + node_count a + node_count b) ≡ n = omega arith in d)
      ∙ ap (passes_as n) p.3
      ∙ both_true
      (both_true (truth-fits n (k - 1) t (omega arith) (placed-sort m t p.0) x.1)
      (both_true (number_fits n (j - 1) a (omega arith) (placed-sort k a p.1) q.0)
      (both_true (number_fits n (n - 1) b (omega arith) (placed-sort j b p.2) q.1) refl)))
      refl)
