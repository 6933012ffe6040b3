-- A tree whose nodes are used once at most has a short text: the bytes that are the nodes' own, 21 to a node at most. A node's bytes are its own and those of its
-- operands; over all nodes up to one, the bytes of operands are those of lower nodes, each counted once, which leaves the nodes' own. Assumes nothing.
use mathlib.Core.Path.{◌≡◌, refl, sym, ap, ◌∙◌, subst}
use mathlib.Core.Bool.{Bool, true, false, cond}
use mathlib.Core.List.{List, [], ◌∷◌, ◌++◌}
use Prim.Native.Nat.{ℕ, zero, suc, ◌+◌, ◌*◌, ◌-◌, ◌≤◌, ◌<◌, zero-le}
use native.Mathlib.Nat.{suc-mul}
use native.Mathlib.Numerals.{add-one}
use native.Mathlib.Omega.{arith}
use borrow.Author.Tests.{ltb-true, ltb-false, eqb-true, eqb-false, lt-ltb, le-ltb}
use lib.Dec.{leb, ltb, eqb}
use lib.IntN.{ℤ, pos, negsuc}
use lib.ListN.{length, length-append}
use Rattle.prelude.specs.Lists.{count, gather, from, upto}
use Rattle.prelude.proofs.Gathered.{from-append, upto-more, gather-more}
use Rattle.prelude.proofs.Lists.{gather_append}
use Rattle.prelude.proofs.Numbers.{count-append}
use Rattle.arithmetic.specs.Operators.{sum, difference, product, quotient, remainder, equal, less, at_most}
use Rattle.model.specs.Replay.{signed_decimal}
use Rattle.lines.proofs.Digits.{length_digits}
use Rattle.expressions.specs.Nodes as N
use Rattle.expressions.specs.Nodes.{Node}
use Rattle.expressions.specs.Sorts.{operand_uses}
use Rattle.expressions.specs.Uses.{operand_numbers, all_operands}
use Rattle.expressions.proofs.Uses.{times}
use Rattle.guards.specs.Trees.{Tree, Binary, binary, constant, arithmetic, comparison, both, either, binary_level, level}
use Rattle.guards.specs.Texts.{sign, text_of, text_in, placed}
use Rattle.guards.specs.Lists.{tree_by, tree_of}
use Rattle.guard_writer.specs.Operands.{operand_tree}
use Rattle.guard_writer.specs.Measures.{total, cut, text_length, Own, OwnAll}
use Rattle.guard_writer.proofs.Texts.{zero-line}
use Rattle.guard_writer.proofs.Rules.{tree-rule}

-- ---- sums over lists

total-append : (f : ℕ → ℕ) (xs ys : List ℕ) → total f (xs ++ ys) ≡ total f xs + total f ys
unfolding total
total-append f [] ys = omega arith
total-append f (x ∷ xs) ys = let h : total f (xs ++ ys) ≡ total f xs + total f ys = total-append f xs ys in omega arith

total-more : (f : ℕ → ℕ) (m : ℕ) → total f (upto (suc m)) ≡ total f (upto m) + f m
unfolding total
total-more f m =
    let h : total f (upto m ++ (m ∷ [])) ≡ total f (upto m) + (f m + 0) = total-append f (upto m) (m ∷ []) in
    ap (λ k. total f (upto k)) (sym (add-one m)) ∙ ap (total f) (upto-more m) ∙ omega arith

total-split : (f g h : ℕ → ℕ) → ((a : ℕ) → f a ≤ g a + h a) → (xs : List ℕ) → total f xs ≤ total g xs + total h xs
unfolding total
total-split f g h e [] = zero-le
total-split f g h e (x ∷ xs) = omega (arith, e x, total-split f g h e xs)

total-most : (f g : ℕ → ℕ) → ((a : ℕ) → f a ≤ g a) → (xs : List ℕ) → total f xs ≤ total g xs
unfolding total
total-most f g e [] = zero-le
total-most f g e (x ∷ xs) = omega (arith, e x, total-most f g e xs)

-- a value for each time that b is met
met : (v b n : ℕ) (xs : List ℕ) → times b xs ≤ n → total (λ a. cond (eqb a b) v 0) xs ≤ n * v
unfolding total count
met v b n [] h = zero-le
met v b n (x ∷ xs) h = go (eqb x b) n h (λ m l. met v b m xs l)
  where
    rest : ℕ
    rest = total (λ a. cond (eqb a b) v 0) xs

    go : (t : Bool) (n : ℕ) → cond t (suc (times b xs)) (times b xs) ≤ n → ((m : ℕ) → times b xs ≤ m → rest ≤ m * v) → cond t v 0 + rest ≤ n * v
    go true zero l ih = absurd (omega arith)
    go true (suc m) l ih = omega (arith, ih m (omega arith), suc-mul m v)
    go false n l ih = omega (arith, ih n l)

module _ (f : ℕ → ℕ) where
  pub cut_in : (b a : ℕ) → a < b → cut f b a ≡ f a
  cut_in b a h = ap (λ t. cond t (f a) 0) (lt-ltb a b h)

  cut_out : (b a : ℕ) → b ≤ a → cut f b a ≡ 0
  cut_out b a h = ap (λ t. cond t (f a) 0) (le-ltb a b h)

  cut-wider : (m b : ℕ) → m ≤ b → (a : ℕ) → cut f m a ≤ cut f b a
  cut-wider m b h a = go (ltb a m) refl
    where
      go : (t : Bool) → ltb a m ≡ t → cond t (f a) 0 ≤ cut f b a
      go true e = let l : a < m = ltb-true a m e in omega (arith, cut_in b a (omega arith))
      go false e = zero-le

  cut-more : (b a : ℕ) → cut f (suc b) a ≤ cut f b a + cond (eqb a b) (f b) 0
  cut-more b a = go (ltb a b) (eqb a b) refl refl
    where
      go : (p q : Bool) → ltb a b ≡ p → eqb a b ≡ q → cut f (suc b) a ≤ cond p (f a) 0 + cond q (f b) 0
      go true q e d = let l : a < b = ltb-true a b e in omega (arith, cut_in (suc b) a (omega arith))
      go false true e d =
          let l : a ≡ b = eqb-true a b d in
          let m : f a ≡ f b = ap f l in
          omega (arith, cut_in (suc b) a (omega arith))
      go false false e d =
          let l : b ≤ a = ltb-false a b e in
          let m : a ≡ b → ⊥ = eqb-false a b d in
          omega (arith, cut_out (suc b) a (omega arith))

  nothing : (xs : List ℕ) → total (cut f 0) xs ≤ 0
  unfolding total
  nothing [] = zero-le
  nothing (x ∷ xs) = omega (arith, cut_out 0 x zero-le, nothing xs)

  -- numbers that are met once at most
  covered : (b : ℕ) (xs : List ℕ) → ((k : ℕ) → k < b → times k xs ≤ 1) → total (cut f b) xs ≤ total f (upto b)
  covered zero xs h = omega (arith, nothing xs)
  covered (suc b) xs h =
      omega (
        arith,
        total-split (cut f (suc b)) (cut f b) (λ a. cond (eqb a b) (f b) 0) (cut-more b) xs,
        covered b xs (λ k l. h k (omega arith)),
        met (f b) b 1 xs (h b (omega arith)),
        total-more f b,
      )

-- ---- one node

pub placed-short : (k l : ℕ) (text : List ℕ) → length (placed k l text) ≤ 2 + length text
placed-short k l text = go (leb l k)
  where
    go : (t : Bool) → length (cond t text (40 ∷ text ++ (41 ∷ []))) ≤ 2 + length text
    go true = omega arith
    go false = omega (arith, length-append text (41 ∷ []))

sign-short : (o : Binary) → length (sign o) ≤ 2
sign-short (arithmetic sum) = omega arith
sign-short (arithmetic difference) = omega arith
sign-short (arithmetic product) = omega arith
sign-short (arithmetic quotient) = omega arith
sign-short (arithmetic remainder) = omega arith
sign-short (comparison equal) = omega arith
sign-short (comparison less) = omega arith
sign-short (comparison at_most) = omega arith
sign-short both = omega arith
sign-short either = omega arith

signed-short : (z : ℤ) → length (signed_decimal z) ≤ 21
signed-short (pos n) = omega (arith, length_digits 20 n)
signed-short (negsuc n) = omega (arith, length_digits 20 (suc n))

module _ (tree : ℕ → Tree) (g : ℕ → ℕ) (short : (a : ℕ) → length (text_of (tree a)) ≤ suc (g a)) where
  placed-operand : (k a : ℕ) → length (text_in k (tree a)) ≤ 3 + g a
  placed-operand k a = omega (arith, placed-short k (level (tree a)) (text_of (tree a)), short a)

  binary-short : (o : Binary) (a b : ℕ) → length (text_of (binary o (tree a) (tree b))) ≤ 21 + total g (a ∷ b ∷ [])
  unfolding text_of total
  binary-short o a b =
      let left = text_in (binary_level o) (tree a) in
      let right = text_in (binary_level o - 1) (tree b) in
      omega (arith, length-append (left ++ sign o) right, length-append left (sign o), sign-short o, placed-operand (binary_level o) a, placed-operand (binary_level o - 1) b)

  node-short : (x : Node) → length (text_of (tree_by tree x)) ≤ 21 + total g (operand_numbers x)
  unfolding text_of total
  node-short (N.constant z) = omega (arith, signed-short z)
  node-short (N.variable v) = omega (arith, length_digits 20 v)
  node-short (N.arithmetic o a b) = binary-short (arithmetic o) a b
  node-short (N.choice t a b) =
      let asked = text_in 6 (tree t) in
      omega (
        arith,
        length-append (asked ++ (63 ∷ text_of (tree a))) (58 ∷ text_of (tree b)),
        length-append asked (63 ∷ text_of (tree a)),
        placed-operand 6 t,
        short a,
        short b,
      )
  node-short (N.comparison o a b) = binary-short (comparison o) a b
  node-short (N.negation a) = omega (arith, placed-operand 1 a)
  node-short (N.both a b) = binary-short both a b
  node-short (N.either a b) = binary-short either a b
  node-short N.unknown = omega (arith, signed-short (pos 0))

-- ---- all nodes

module _ (node : ℕ → Node) where
  operand_short : (n a : ℕ) → length (text_of (operand_tree node n a)) ≤ suc (cut (text_length node) n a)
  operand_short n a = go (ltb a n)
    where
      go : (t : Bool) → length (text_of (cond t (tree_of node a) (constant (pos 0)))) ≤ suc (cond t (text_length node a) 0)
      go true = omega arith
      go false = omega (arith, ap length zero-line)

  tree-short : (n : ℕ) → Own node n 21
  tree-short n = record {
    few = omega arith;
    enough = omega (arith, ap (λ t. length (text_of t)) (tree-rule node n), node-short (operand_tree node n) (cut (text_length node) n) (operand_short n) (node n));
  }

  operands-more : (m : ℕ) → all_operands node (suc m) ≡ all_operands node m ++ operand_numbers (node m)
  operands-more m = ap (all_operands node) (sym (add-one m)) ∙ gather-more (λ n. operand_numbers (node n)) m

  -- the bytes that are the nodes' own, one node after the other
  pub own-none : OwnAll node 0 0
  unfolding total from
  own-none = record { few = zero-le; enough = λ b h. zero-le }

  pub own-more : (m first bytes : ℕ) → OwnAll node m first → Own node m bytes → OwnAll node (suc m) (first + bytes)
  own-more m first bytes all own = record {
    few = omega (arith, all.few, own.few);
    enough = λ b h.
        omega (
          arith,
          total-more (text_length node) m,
          all.enough b (omega arith),
          own.enough,
          total-most (cut (text_length node) m) (cut (text_length node) b) (cut-wider (text_length node) m b (omega arith)) (operand_numbers (node m)),
          ap (total (cut (text_length node) b)) (operands-more m),
          total-append (cut (text_length node) b) (all_operands node m) (operand_numbers (node m)),
        );
  }

  all_short : (m : ℕ) → OwnAll node m (21 * m)
  all_short zero = own-none
  all_short (suc m) = subst (OwnAll node (suc m)) (let e : 21 * m + 21 ≡ 21 * suc m = omega arith in e) (own-more m (21 * m) 21 (all_short m) (tree-short m))

  -- the first nodes use none more often than all do
  first-uses : (m r k : ℕ) → times k (all_operands node m) ≤ operand_uses node (m + r) k
  first-uses m r k =
      let f : ℕ → List ℕ = λ n. operand_numbers (node n) in
      omega (
        arith,
        ap (times k) (ap (gather f) (from-append 0 m r) ∙ gather_append f (upto m) (from (0 + m) r)),
        count-append (λ n. eqb n k) (all_operands node m) (gather f (from (0 + m) r)),
      )

  module _ (size n : ℕ) (h : n < size) (used : (k : ℕ) → k < n → operand_uses node size k ≤ 1) where
    -- bytes that are the nodes' own are enough
    pub own-text : (bytes : ℕ) → OwnAll node (suc n) bytes → length (text_of (tree_of node n)) ≤ bytes
    own-text bytes own =
        let e : suc n + (size - suc n) ≡ size = omega arith in
        omega (
          arith,
          own.enough n (omega arith),
          covered (text_length node) n (all_operands node (suc n)) (λ k l. omega (arith, first-uses (suc n) (size - suc n) k, ap (λ s. operand_uses node s k) e, used k l)),
          total-more (text_length node) n,
        )

    pub short-text : length (text_of (tree_of node n)) ≤ 21 * suc n
    short-text = own-text (21 * suc n) (all_short (suc n))
