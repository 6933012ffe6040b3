-- The bytes that are a node's own, and its tests, by what its operands take. Assumes nothing.
use mathlib.Core.Path.{◌≡◌, refl, ap, ◌∙◌}
use mathlib.Core.Bool.{Bool, true, false, ◌&&◌, ◌||◌}
use mathlib.Core.List.{List, [], ◌∷◌, ◌++◌, map}
use Prim.Native.Nat.{ℕ, ◌+◌, ◌-◌, ◌≤◌, ◌<◌}
use native.Mathlib.Omega.{arith}
use borrow.Author.Tests.{ltb-true, lt-ltb}
use lib.Dec.{ltb}
use lib.ListN.{length, length-append}
use Rattle.prelude.specs.Lists.{all, upto}
use Rattle.prelude.proofs.Numbers.{both_true, all-by}
use Rattle.expressions.specs.Nodes.{Node}
use Rattle.expressions.specs.Sorts.{Sort, a_number, a_truth, sort_of, is_number, is_truth, same_sort, operands, variables_of, node_named, operand_fits, node_fits, nodes_named, operands_fit}
use Rattle.guards.specs.Trees.{Binary, negation, binary, choice, binary_level, level}
use Rattle.guards.specs.Texts.{sign, text_of, text_in}
use Rattle.guards.specs.Lists.{is_known, tree_of}
use Rattle.guard_writer.specs.Operands.{operand_tree}
use Rattle.guard_writer.specs.Measures.{total, cut, text_length, Around, Own, Passes}
use Rattle.guard_writer.proofs.Texts.{anywhere}
use Rattle.guard_writer.proofs.Rules.{bare-operand, enclosed-operand}
use Rattle.guard_writer.proofs.Short.{cut_in}

-- ---- operands

module _ (node : ℕ → Node) (n k a : ℕ) (sort : Sort) where
  module _ (h : a < n) where
    module _ (same : same_sort sort (sort_of (node a)) ≡ true) where
      fitting : operand_fits node n (a, sort) ≡ true
      fitting = both_true (lt-ltb a n h) same

      pub around-bare : level (tree_of node a) ≤ k → Around node n k a sort 0
      around-bare l = record { few = omega arith; enough = omega (arith, ap length (bare-operand node n k a h l), cut_in (text_length node) n a h); fits = fitting }

      pub around-enclosed : k < level (tree_of node a) → Around node n k a sort 2
      around-enclosed l = record {
        few = omega arith;
        enough = omega (arith, ap length (enclosed-operand node n k a h l), length-append (text_of (tree_of node a)) (41 ∷ []), cut_in (text_length node) n a h);
        fits = fitting;
      }

-- ---- a node

module _ (node : ℕ → Node) (n : ℕ) where
  abbrev operand : ℕ → ℕ
  operand a = cut (text_length node) n a

  abbrev numbers : List (ℕ × Sort) → List ℕ
  numbers os = map (λ o. o.0) os

  abbrev Known : Type 0
  Known = (is_number (sort_of (node n)) || is_truth (sort_of (node n))) ≡ true

  pub own-leaf : (bytes : ℕ) → bytes ≤ 21 → text_length node n ≤ bytes → Own node n bytes
  own-leaf bytes f e = record { few = omega arith; enough = omega arith }

  passes : (os : List (ℕ × Sort)) → operands (node n) ≡ os → all (operand_fits node n) os ≡ true → variables_of (node n) ≡ [] → Known → Passes node n
  unfolding all
  passes os e f v s = record { known = s; variables = ap (all (λ x. ltb x 64)) v; fits = ap (all (operand_fits node n)) e ∙ f }

  pub passes-constant : operands (node n) ≡ [] → variables_of (node n) ≡ [] → Known → Passes node n
  unfolding all
  passes-constant e v s = passes [] e refl v s

  pub passes-variable : (x : ℕ) → operands (node n) ≡ [] → variables_of (node n) ≡ x ∷ [] → Known → x < 64 → Passes node n
  unfolding all
  passes-variable x e v s l = record { known = s; variables = ap (all (λ y. ltb y 64)) v ∙ both_true (lt-ltb x 64 l) refl; fits = ap (all (operand_fits node n)) e }

  -- one operand, a truth
  module _ (a r : ℕ) (w : Around node n 1 a a_truth r) (u : operands (node n) ≡ (a, a_truth) ∷ []) where
    pub own-negation : negation (operand_tree node n a) ≡ tree_of node n → Own node n (1 + r)
    unfolding text_of total
    own-negation e = record { few = omega (arith, w.few); enough = omega (arith, w.enough, ap (λ t. length (text_of t)) e, ap (λ os. total operand (numbers os)) u) }

    pub passes-negation : variables_of (node n) ≡ [] → Known → Passes node n
    unfolding all
    passes-negation v s = passes ((a, a_truth) ∷ []) u (both_true w.fits refl) v s

  -- two of a sort
  module _ (o : Binary) (sort : Sort) (a b s l r : ℕ) (w : Around node n (binary_level o) a sort l) (v : Around node n (binary_level o - 1) b sort r) (u : operands (node n) ≡ (a, sort) ∷ (b, sort) ∷ []) where
    pub own-binary : s ≤ 2 → length (sign o) ≤ s → binary o (operand_tree node n a) (operand_tree node n b) ≡ tree_of node n → Own node n (s + l + r)
    unfolding text_of total
    own-binary f g e =
        let left = text_in (binary_level o) (operand_tree node n a) in
        let right = text_in (binary_level o - 1) (operand_tree node n b) in
        record {
          few = omega (arith, w.few, v.few);
          enough = omega (arith, w.enough, v.enough, length-append (left ++ sign o) right, length-append left (sign o), ap (λ t. length (text_of t)) e, ap (λ os. total operand (numbers os)) u);
        }

    pub passes-binary : variables_of (node n) ≡ [] → Known → Passes node n
    unfolding all
    passes-binary d k = passes ((a, sort) ∷ (b, sort) ∷ []) u (both_true w.fits (both_true v.fits refl)) d k

  -- a truth and two numbers
  module _ (t a b q l r : ℕ) (x : Around node n 6 t a_truth q) (w : Around node n 7 a a_number l) (v : Around node n 7 b a_number r) (u : operands (node n) ≡ (t, a_truth) ∷ (a, a_number) ∷ (b, a_number) ∷ []) where
    pub own-choice : choice (operand_tree node n t) (operand_tree node n a) (operand_tree node n b) ≡ tree_of node n → Own node n (2 + q + l + r)
    unfolding text_of total
    own-choice e =
        let asked = text_in 6 (operand_tree node n t) in
        let first = operand_tree node n a in
        let second = operand_tree node n b in
        record {
          few = omega (arith, x.few, w.few, v.few);
          enough = omega (
            arith,
            x.enough,
            w.enough,
            v.enough,
            ap length (anywhere first),
            ap length (anywhere second),
            length-append (asked ++ (63 ∷ text_of first)) (58 ∷ text_of second),
            length-append asked (63 ∷ text_of first),
            ap (λ y. length (text_of y)) e,
            ap (λ os. total operand (numbers os)) u,
          );
        }

    pub passes-choice : variables_of (node n) ≡ [] → Known → Passes node n
    unfolding all
    passes-choice d k =
        passes ((t, a_truth) ∷ (a, a_number) ∷ (b, a_number) ∷ []) u (both_true x.fits (both_true w.fits (both_true v.fits refl))) d k

-- ---- all nodes

and_left : (p q : Bool) → (p && q) ≡ true → p ≡ true
and_left true q e = refl
and_left false q e = e

and_right : (p q : Bool) → (p && q) ≡ true → q ≡ true
and_right true q e = e
and_right false true e = refl
and_right false false e = e

-- operands that fit are below their node
below : (node : ℕ → Node) (n size : ℕ) → n ≤ size → (os : List (ℕ × Sort)) → all (operand_fits node n) os ≡ true → all (λ o. ltb o.0 size) os ≡ true
unfolding all
below node n size h [] e = refl
below node n size h (o ∷ os) e =
    let f : operand_fits node n o ≡ true = and_left (operand_fits node n o) (all (operand_fits node n) os) e in
    let l : o.0 < n = ltb-true o.0 n (and_left (ltb o.0 n) (same_sort o.1 (sort_of (node o.0))) f) in
    both_true (lt-ltb o.0 size (omega arith)) (below node n size h os (and_right (operand_fits node n o) (all (operand_fits node n) os) e))

module _ (node : ℕ → Node) (size : ℕ) (p : (n : ℕ) → n < size → Passes node n) where
  pub all_known : all (is_known node size) (upto size) ≡ true
  all_known = all-by (is_known node size) size (λ n h. (p n h).known)

  pub all_named_lem : nodes_named node size 64 ≡ true
  all_named_lem = all-by (node_named node size 64) size (λ n h. both_true (below node n size (omega arith) (operands (node n)) (p n h).fits) (p n h).variables)

  pub all_fit : operands_fit node size ≡ true
  all_fit = all-by (node_fits node) size (λ n h. (p n h).fits)
