-- What the reader gives is accepted by the writer: the records of a tree's nodes, in the reader's numbering, are a list that the writer takes, and its tree is
-- the tree. Assumes nothing.
use mathlib.Core.Path.{◌≡◌, refl, ap, ◌∙◌}
use mathlib.Core.Bool.{Bool, true, false, not, cond, ◌&&◌}
use mathlib.Core.Option.{none}
use mathlib.Core.List.{List, [], ◌∷◌, ◌++◌}
use Prim.Native.Nat.{ℕ, suc, ◌+◌, ◌-◌, ◌≤◌, ◌<◌}
use native.Mathlib.Omega.{arith}
use borrow.Author.Tests.{lt-ltb, le-ltb, eq-eqb, ne_eqb, eqb-true, eqb-false}
use lib.Dec.{ltb, eqb, ltb→lt, lt→ltb}
use Rattle.prelude.specs.Lists.{all, count, upto, bit}
use Rattle.prelude.proofs.Bools.{and_left, is_true, of-true, eqb_comm}
use Rattle.prelude.proofs.Counts.{and-true}
use Rattle.prelude.proofs.Lists.{all-imp}
use Rattle.prelude.proofs.Numbers.{both_true, all-at, all-by}
use Rattle.prelude.proofs.Sums.{sum_from, sum_alike, count-from, once-most, once-least}
use Rattle.records.specs.Refusal.{wrong_amounts, broken_code, dangling_number, broken_node, lowest}
use Rattle.expressions.specs.Nodes.{Node, node_at}
use Rattle.expressions.specs.Sorts as S
use Rattle.expressions.specs.Sorts.{a_number, a_truth, sort_of, operands, variables_of, operand_fits, node_fits, node_named, nodes_named, operands_fit, operand_uses}
use Rattle.expressions.proofs.Uses.{times}
use Rattle.guards.specs.Trees.{Tree, node_count, nodes_from, records_of, is_truth, fits, is_writable}
use Rattle.model.specs.Limits.{most_nodes, most_variables}
use Rattle.guards.specs.Lists.{is_known, used_rightly, is_one_tree, list_refusal, tree_of}
use Rattle.guards.proofs.NodeRecords.{node_at-records}
use Rattle.guards.proofs.Numbering.{Placed, node_count-some, nodes_from-recordable, nodes_from-placed}
use Rattle.guards.proofs.PlacedTrees.{passes, placed-tree, placed-sort, placed-passes}
use Rattle.guards.proofs.PlacedUses.{placed-uses}

-- of the numbers below n each is there once
upto-once : (k n : ℕ) → k < n → times k (upto n) ≡ 1
upto-once k n l =
    let a : times k (upto n) ≡ sum_from (λ i. bit (eqb i k)) 0 n = count-from (λ i. eqb i k) 0 n in
    let b : sum_from (λ i. bit (eqb i k)) 0 n ≡ sum_from (λ i. bit (eqb k i)) 0 n = sum_alike _ _ 0 n (λ i x y. ap bit (eqb_comm i k)) in
    omega (arith, once-most k 0 n, once-least k 0 n (omega arith) (omega arith))

module _ (node : ℕ → Node) (size : ℕ) where
  pub list_refusal-none : size ≤ most_nodes → all (is_known node size) (upto size) ≡ true → nodes_named node size most_variables ≡ true → is_one_tree node size ≡ true → list_refusal node size ≡ none
  unfolding lowest
  list_refusal-none a b c d =
      let e : ltb most_nodes size ≡ false = le-ltb most_nodes size a in
      λ i. lowest ((wrong_amounts, e i) ∷ (broken_code, not (b i)) ∷ (dangling_number, not (c i)) ∷ (broken_node, not (d i)) ∷ [])

  -- ---- nodes that pass the tests of each: the tests of all

  module _ (every : all (passes node) (upto size) ≡ true) where
    parts : (n : ℕ) → n < size → (is_known node size n ≡ true) × (node_fits node n ≡ true) × (all (λ v. ltb v most_variables) (variables_of (node n)) ≡ true)
    parts n l =
        let x = and-true (is_known node size n && node_fits node n) _ (all-at (passes node) size n l every) in
        let y = and-true (is_known node size n) (node_fits node n) x.0 in
        (y.0, y.1, x.1)

    all_known : all (is_known node size) (upto size) ≡ true
    all_known = all-by (is_known node size) size (λ n l. (parts n l).0)

    all_fit : operands_fit node size ≡ true
    all_fit = all-by (node_fits node) size (λ n l. (parts n l).1)

    all_named_lem : nodes_named node size most_variables ≡ true
    all_named_lem = all-by (node_named node size most_variables) size (λ n l. both_true (low n l) (parts n l).2)
      where
        low : (n : ℕ) → n < size → all (λ o. ltb o.0 size) (operands (node n)) ≡ true
        low n l =
            is_true (all-imp (operand_fits node n) (λ o. ltb o.0 size)
            (λ o t. let b : o.0 < n = ltb→lt o.0 n (and_left (ltb o.0 n) _ t) in lt→ltb o.0 size (omega arith))
            (operands (node n)) (of-true (parts n l).1))

module _ (node : ℕ → Node) (t : Tree) (placed : Placed node 0 t) where
  used : (k : ℕ) → k < node_count t → used_rightly node (node_count t) k ≡ true
  unfolding count
  used k l = go (eqb (suc k) (node_count t)) refl (placed-uses node k 0 t placed)
    where
      go : (b : Bool) → eqb (suc k) (node_count t) ≡ b → operand_uses node (node_count t) k + times k ((0 + node_count t - 1) ∷ []) ≡ times k (upto (node_count t)) →
          eqb (operand_uses node (node_count t) k) (cond b 0 1) ≡ true
      go true e h =
          let d : suc k ≡ node_count t = eqb-true (suc k) (node_count t) e in
          let r : times k ((0 + node_count t - 1) ∷ []) ≡ 1 = ap (λ b. cond b 1 0) (eq-eqb (0 + node_count t - 1) k (omega arith)) in
          eq-eqb (operand_uses node (node_count t) k) 0 (omega (arith, upto-once k (node_count t) l))
      go false e h =
          let d : suc k ≡ node_count t → ⊥ = eqb-false (suc k) (node_count t) e in
          let r : times k ((0 + node_count t - 1) ∷ []) ≡ 0 = ap (λ b. cond b 1 0) (ne_eqb (0 + node_count t - 1) k (λ f. d (omega arith))) in
          eq-eqb (operand_uses node (node_count t) k) 1 (omega (arith, upto-once k (node_count t) l))

  root-truth : is_truth t ≡ true → S.is_truth (sort_of (node (node_count t - 1))) ≡ true
  root-truth e =
      ap (λ n. S.is_truth (sort_of (node n))) (let d : node_count t - 1 ≡ 0 + node_count t - 1 = omega arith in d)
      ∙ ap S.is_truth (placed-sort node 0 t placed)
      ∙ ap (λ b. S.is_truth (cond b a_truth a_number)) e

  pub placed-accepted : is_writable t ≡ true → fits t ≡ true → is_truth t ≡ true → node_count t ≤ most_nodes → list_refusal node (node_count t) ≡ none
  placed-accepted w f e l =
      let size = node_count t in
      let every = placed-passes node 0 t placed f w in
      let some-node = node_count-some t in
      list_refusal-none node size l (all_known node size every) (all_named_lem node size every)
      (both_true (both_true (both_true (lt-ltb 0 size (omega arith)) (all_fit node size every)) (root-truth e)) (all-by (used_rightly node size) size used))

-- ---- the records that the reader writes, whatever stands behind them

module _ (t : Tree) (writable : is_writable t ≡ true) (few : node_count t ≤ most_nodes) (rest : List ℕ) where
  placed : Placed (node_at (records_of (nodes_from 0 t) ++ rest)) 0 t
  placed =
      nodes_from-placed (node_at (records_of (nodes_from 0 t) ++ rest)) 0 t
      (λ i l. ap (node_at (records_of (nodes_from 0 t) ++ rest)) (let e : 0 + i ≡ i = omega arith in e)
      ∙ node_at-records (nodes_from 0 t) rest i (nodes_from-recordable 0 t writable (omega arith)) l)

  pub list_refusal-read : fits t ≡ true → is_truth t ≡ true → list_refusal (node_at (records_of (nodes_from 0 t) ++ rest)) (node_count t) ≡ none
  list_refusal-read f e = placed-accepted (node_at (records_of (nodes_from 0 t) ++ rest)) t placed writable f e few

  pub tree_of-read : tree_of (node_at (records_of (nodes_from 0 t) ++ rest)) (node_count t - 1) ≡ t
  tree_of-read =
      let c = node_count-some t in
      placed-tree (node_at (records_of (nodes_from 0 t) ++ rest)) 0 t placed (suc (node_count t - 1)) (node_count t - 1) (omega arith) (omega arith)
