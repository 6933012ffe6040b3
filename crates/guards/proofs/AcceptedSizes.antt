-- A list of nodes that the writer takes has as many nodes as its tree: each node but the root is an operand once, so that of the sum of all trees' nodes those
-- of every tree but the root's are counted once as parts. Assumes nothing.
use mathlib.Core.Path.{◌≡◌, refl, sym, ap, ◌∙◌}
use mathlib.Core.Bool.{Bool, true, false, cond}
use mathlib.Core.Option.{none}
use mathlib.Core.List.{List, [], ◌∷◌, ◌++◌}
use Prim.Native.Nat.{ℕ, zero, suc, ◌+◌, ◌-◌, ◌*◌, ◌≤◌, ◌<◌}
use native.Mathlib.Nat.{add-zero, zero-add, zero-mul, one-mul, add-mul}
use native.Mathlib.Omega.{arith}
use borrow.Author.Tests.{ltb-true, eq-eqb, ne_eqb, eqb-true, eqb-false}
use lib.Dec.{T, ltb, eqb, ltb→lt, lt→ltb}
use Rattle.prelude.specs.Lists.{all, count, gather, from, upto}
use Rattle.prelude.proofs.Bools.{and_left, and_right, of-true}
use Rattle.prelude.proofs.Counts.{and-true}
use Rattle.prelude.proofs.Numbers.{all-at, count-append}
use Rattle.prelude.proofs.Sums.{sum_from, sum_alike, sum-add, sum-append, sum-zero}
use Rattle.prelude.proofs.Lists.{gather-all, all-mapped}
use Rattle.expressions.specs.Nodes as N
use Rattle.expressions.specs.Nodes.{Node, node_at}
use Rattle.expressions.specs.Sorts.{Sort, a_number, a_truth, sort_of, same_sort, operands, operand_fits, node_fits, operand_uses}
use Rattle.expressions.specs.Uses.{operand_numbers}
use Rattle.expressions.proofs.Uses.{times}
use Rattle.guards.specs.Trees.{Tree, node_count}
use Rattle.guards.specs.Lists.{used_rightly, list_refusal, tree_by, tree_at, tree_of}
use Rattle.guards.proofs.NodeTrees.{operand_tree, operand_tree-lower, tree_at-deep}
use Rattle.guards.proofs.AcceptedLists.{Accepted, accepted}

-- ---- sums over lists

unfoldable sum_over : (ℕ → ℕ) → List ℕ → ℕ
sum_over c [] = 0
sum_over c (x ∷ xs) = c x + sum_over c xs

module _ (c : ℕ → ℕ) where
  over-append : (xs ys : List ℕ) → sum_over c (xs ++ ys) ≡ sum_over c xs + sum_over c ys
  unfolding sum_over
  over-append [] ys = omega arith
  over-append (x ∷ xs) ys = omega (arith, over-append xs ys)

  over-gather : (f : ℕ → List ℕ) (k n : ℕ) → sum_over c (gather f (from k n)) ≡ sum_from (λ i. sum_over c (f i)) k n
  unfolding sum_over sum_from gather from
  over-gather f k zero = refl
  over-gather f k (suc n) = over-append (f k) (gather f (from (suc k) n)) ∙ ap (λ m. sum_over c (f k) + m) (over-gather f (suc k) n)

  -- by numbers below n: each counts as often as it is there
  abbrev weight : List ℕ → ℕ → ℕ
  weight xs k = times k xs * c k

  weight-cons : (x : ℕ) (xs : List ℕ) (k : ℕ) → weight (x ∷ xs) k ≡ weight (x ∷ []) k + weight xs k
  weight-cons x xs k = ap (λ m. m * c k) (count-append (λ n. eqb n k) (x ∷ []) xs) ∙ add-mul (times k (x ∷ [])) (times k xs) (c k)

  weight-other : (x k : ℕ) → (x ≡ k → ⊥) → weight (x ∷ []) k ≡ 0
  unfolding count
  weight-other x k h = ap (λ b. cond b 1 0 * c k) (ne_eqb x k h) ∙ zero-mul (c k)

  weight-same : (x k : ℕ) → x ≡ k → weight (x ∷ []) k ≡ c x
  unfolding count
  weight-same x k h = ap (λ b. cond b 1 0 * c k) (eq-eqb x k h) ∙ one-mul (c k) ∙ ap c (sym h)

  one-weight : (x k n : ℕ) → k ≤ x → x < k + n → sum_from (weight (x ∷ [])) k n ≡ c x
  unfolding sum_from
  one-weight x k zero l h = absurd (omega arith)
  one-weight x k (suc n) l h = go (eqb x k) refl (λ m. one-weight x (suc k) n m (omega arith))
    where
      go : (b : Bool) → eqb x k ≡ b → (suc k ≤ x → sum_from (weight (x ∷ [])) (suc k) n ≡ c x) → weight (x ∷ []) k + sum_from (weight (x ∷ [])) (suc k) n ≡ c x
      go true e ih =
          let d : x ≡ k = eqb-true x k e in
          let z : sum_from (weight (x ∷ [])) (suc k) n ≡ 0 = sum_alike (weight (x ∷ [])) (λ i. 0) (suc k) n (λ i a b. weight-other x i (λ f. omega arith)) ∙ sum-zero (suc k) n in
          omega (arith, weight-same x k d)
      go false e ih = let d : x ≡ k → ⊥ = eqb-false x k e in omega (arith, weight-other x k d, ih (omega arith))

  over-weight : (n : ℕ) (xs : List ℕ) → T (all (λ x. ltb x n) xs) → sum_over c xs ≡ sum_from (weight xs) 0 n
  unfolding sum_over all count
  over-weight n [] t = sym (sum_alike (weight []) (λ i. 0) 0 n (λ i a b. zero-mul (c i)) ∙ sum-zero 0 n)
  over-weight n (x ∷ xs) t =
      let l : x < n = ltb→lt x n (and_left (ltb x n) (all (λ x. ltb x n) xs) t) in
      let a : sum_from (weight (x ∷ xs)) 0 n ≡ sum_from (λ k. weight (x ∷ []) k + weight xs k) 0 n = sum_alike _ _ 0 n (λ k a b. weight-cons x xs k) in
      let b = sum-add (weight (x ∷ [])) (weight xs) 0 n in
      omega (arith, one-weight x 0 n (omega arith) (omega arith), over-weight n xs (and_right (ltb x n) (all (λ x. ltb x n) xs) t))

-- ---- a tree has one node more than the trees of its operands

module _ (node : ℕ → Node) where
  abbrev size_of : ℕ → ℕ
  size_of n = node_count (tree_of node n)

  module _ (n : ℕ) where
    abbrev below : ℕ → Tree
    below a = operand_tree node n n a

    operand-size : (a : ℕ) (s : Sort) → operand_fits node n (a, s) ≡ true → node_count (below a) ≡ size_of a
    operand-size a s e =
        let l : a < n = ltb-true a n (and-true (ltb a n) (same_sort s (sort_of (node a))) e).0 in
        ap node_count (operand_tree-lower node n n a l ∙ tree_at-deep node n (suc a) a l (omega arith))

    two-sizes : (a b : ℕ) (s : Sort) → all (operand_fits node n) ((a, s) ∷ (b, s) ∷ []) ≡ true → (node_count (below a) ≡ size_of a) × (node_count (below b) ≡ size_of b)
    unfolding all
    two-sizes a b s f =
        let x = and-true (operand_fits node n (a, s)) _ f in
        (operand-size a s x.0, operand-size b s (and-true (operand_fits node n (b, s)) _ x.1).0)

    node-size : (x : Node) → all (operand_fits node n) (operands x) ≡ true → node_count (tree_by below x) ≡ 1 + sum_over size_of (operand_numbers x)
    unfolding all sum_over node_count
    node-size (N.constant z) f = refl
    node-size (N.variable v) f = refl
    node-size (N.arithmetic o a b) f = let h = two-sizes a b a_number f in omega arith
    node-size (N.choice t a b) f =
        let x = and-true (operand_fits node n (t, a_truth)) _ f in
        let p = operand-size t a_truth x.0 in
        let h = two-sizes a b a_number x.1 in
        omega arith
    node-size (N.comparison o a b) f = let h = two-sizes a b a_number f in omega arith
    node-size (N.negation a) f = let p = operand-size a a_truth (and-true (operand_fits node n (a, a_truth)) true f).0 in omega arith
    node-size (N.both a b) f = let h = two-sizes a b a_truth f in omega arith
    node-size (N.either a b) f = let h = two-sizes a b a_truth f in omega arith
    node-size N.unknown f = refl

-- ---- of a list that is taken

sum_ones : (k n : ℕ) → sum_from (λ i. 1) k n ≡ n
unfolding sum_from
sum_ones k zero = refl
sum_ones k (suc n) = omega (arith, sum_ones (suc k) n)

sum-last : (f : ℕ → ℕ) (n : ℕ) → 0 < n → sum_from f 0 n ≡ sum_from f 0 (n - 1) + f (n - 1)
unfolding sum_from
sum-last f n l =
    ap (sum_from f 0) (let e : n ≡ n - 1 + 1 = omega arith in e)
    ∙ sum-append f 0 (n - 1) 1
    ∙ ap (λ m. sum_from f 0 (n - 1) + m) (add-zero (f (0 + (n - 1))) ∙ ap f (zero-add (n - 1)))

module _ (node : ℕ → Node) (size : ℕ) (ok : Accepted node size) where
  abbrev places : List ℕ
  places = gather (λ n. operand_numbers (node n)) (upto size)

  fit_at : (n : ℕ) → n < size → all (operand_fits node n) (operands (node n)) ≡ true
  fit_at n l = all-at (node_fits node) size n l ok.fit

  places-low : T (all (λ x. ltb x size) places)
  places-low = gather-all (λ x. ltb x size) (λ n. operand_numbers (node n)) 0 size (λ n l. low n (omega arith))
    where
      low : (n : ℕ) → n < size → T (all (λ x. ltb x size) (operand_numbers (node n)))
      low n l =
          all-mapped (operand_fits node n) (λ x. ltb x size) (λ o. o.0)
          (λ o t. let b : o.0 < n = ltb→lt o.0 n (and_left (ltb o.0 n) _ t) in lt→ltb o.0 size (omega arith))
          (operands (node n)) (of-true (fit_at n l))

  -- the sum of all trees' nodes: one for each node, and those of the operands
  sum-of-sizes : sum_from (size_of node) 0 size ≡ size + sum_from (weight (size_of node) places) 0 size
  unfolding tree_at
  sum-of-sizes =
      let c = size_of node in
      let ops : ℕ → List ℕ = λ n. operand_numbers (node n) in
      let a : sum_from c 0 size ≡ sum_from (λ n. 1 + sum_over c (ops n)) 0 size = sum_alike c (λ n. 1 + sum_over c (ops n)) 0 size (λ n x y. node-size node n (node n) (fit_at n (omega arith))) in
      let b : sum_from (λ n. 1 + sum_over c (ops n)) 0 size ≡ sum_from (λ n. 1) 0 size + sum_from (λ n. sum_over c (ops n)) 0 size = sum-add (λ n. 1) (λ n. sum_over c (ops n)) 0 size in
      omega (arith, sum_ones 0 size, over-gather c ops 0 size, over-weight c size places places-low)

  used-at : (k : ℕ) → k < size → times k places ≡ cond (eqb (suc k) size) 0 1
  used-at k l = eqb-true (operand_uses node size k) (cond (eqb (suc k) size) 0 1) (all-at (used_rightly node size) size k l ok.used)

  weight-lower : (k : ℕ) → k < size - 1 → weight (size_of node) places k ≡ size_of node k
  weight-lower k l = ap (λ m. m * size_of node k) (used-at k (omega arith) ∙ ap (λ b. cond b 0 1) (ne_eqb (suc k) size (λ g. omega arith))) ∙ one-mul (size_of node k)

  weight-root : weight (size_of node) places (size - 1) ≡ 0
  weight-root =
      let f = ok.filled in
      ap (λ m. m * size_of node (size - 1)) (used-at (size - 1) (omega arith) ∙ ap (λ b. cond b 0 1) (eq-eqb (suc (size - 1)) size (omega arith))) ∙ zero-mul (size_of node (size - 1))

  pub tree_of-size : node_count (tree_of node (size - 1)) ≡ size
  tree_of-size =
      let f = ok.filled in
      omega (
        arith,
        sum-of-sizes,
        sum-last (size_of node) size f,
        sum-last (weight (size_of node) places) size f,
        weight-root,
        sum_alike (weight (size_of node) places) (size_of node) 0 (size - 1) (λ k a b. weight-lower k (omega arith)),
      )

-- of bytes
pub list_refusal-size : (s : List ℕ) (size : ℕ) → list_refusal (node_at s) size ≡ none → node_count (tree_of (node_at s) (size - 1)) ≡ size
list_refusal-size s size e = tree_of-size (node_at s) size (accepted (node_at s) size e)
