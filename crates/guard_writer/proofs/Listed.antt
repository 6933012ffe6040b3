-- A list of nodes by its tests: the first that fails refuses it, and uses are tested as they are counted. Assumes nothing.
use mathlib.Core.Path.{◌≡◌, refl, sym, ap, ◌∙◌, subst}
use mathlib.Core.Bool.{Bool, true, false, not, cond, ◌&&◌}
use mathlib.Core.Option.{Option, some, none}
use mathlib.Core.List.{List, [], ◌∷◌}
use Prim.Native.Nat.{ℕ, zero, suc, min, ◌-◌, ◌≤◌}
use native.Mathlib.Omega.{arith}
use borrow.Author.Tests.{ltb-true, ne_eqb}
use lib.Dec.{T, ltb, eqb}
use lib.ListN.{get_or, replicate}
use Rattle.prelude.specs.Lists.{all, upto}
use Rattle.prelude.proofs.Counts.{get_or-upto}
use Rattle.prelude.proofs.Numbers.{all_alike}
use Rattle.records.specs.Refusal.{Refusal, wrong_amounts, broken_code, dangling_number, broken_node, lowest}
use Rattle.expressions.specs.Nodes.{Node}
use Rattle.expressions.specs.Sorts.{sort_of, is_truth, operands_fit, operand_uses}
use Rattle.expressions.specs.Uses.{all_operands, add_uses}
use Rattle.expressions.proofs.Uses.{counted, once}
use Rattle.guards.specs.Lists.{used_rightly, is_one_tree}

-- ---- the order of the tests

abbrev pub refusal_by : Bool → Bool → Bool → Bool → Option Refusal
refusal_by many known named one = lowest ((wrong_amounts, many) ∷ (broken_code, not known) ∷ (dangling_number, not named) ∷ (broken_node, not one) ∷ [])

module _ (many known named one : Bool) where
  pub all-passed : many ≡ false → known ≡ true → named ≡ true → one ≡ true → none ≡ refusal_by many known named one
  unfolding lowest
  all-passed e f g h = sym (λ i. refusal_by (e i) (f i) (g i) (h i))

never : {A : Type 0} {w : Refusal} → none ≡ some w → A
never e = let z : ◌≡◌ {A = ℕ} 0 1 = cc in absurd (omega arith)

-- what is not refused passed them
pub passed : (many known named one : Bool) → none ≡ refusal_by many known named one → (many ≡ false) × (one ≡ true)
unfolding lowest
passed true known named one e = never e
passed false false named one e = never e
passed false true false one e = never e
passed false true true false e = never e
passed false true true true e = (refl, refl)

-- ---- one tree

-- what a tree of its nodes is asked: that there is a node, and that each is used as it should be
pub tree-parts : (a b c d : Bool) → (a && b && c && d) ≡ true → (a ≡ true) × (d ≡ true)
tree-parts true true true true e = (refl, refl)
tree-parts true true true false e = (refl, e)
tree-parts true true false d e = absurd (subst T (sym e) tt)
tree-parts true false c d e = absurd (subst T (sym e) tt)
tree-parts false b c d e = absurd (subst T (sym e) tt)

pub some-node : (node : ℕ → Node) (size : ℕ) → is_one_tree node size ≡ true → 1 ≤ size
some-node node size e = ltb-true 0 size (tree-parts (ltb 0 size) (operands_fit node size) (is_truth (sort_of (node (size - 1)))) (all (used_rightly node size) (upto size)) e).0

-- ---- uses

none-used : (n : ℕ) → eqb (min 2 n) 0 ≡ eqb n 0
none-used zero = refl
none-used (suc n) = ne_eqb (min 2 (suc n)) 0 (λ e. omega arith) ∙ sym (ne_eqb (suc n) 0 (λ e. omega arith))

used : (last : Bool) (n : ℕ) → eqb (min 2 n) (cond last 0 1) ≡ eqb n (cond last 0 1)
used true n = none-used n
used false n = once n

pub uses-right : (node : ℕ → Node) (size : ℕ) (uses : List ℕ) → size ≤ 1024 → uses ≡ add_uses (replicate 1024 0) (all_operands node size) →
    all (λ k. eqb (get_or uses k 0) (cond (eqb (suc k) size) 0 1)) (upto size) ≡ all (used_rightly node size) (upto size)
uses-right node size uses l e =
    all_alike (λ k. eqb (get_or uses k 0) (cond (eqb (suc k) size) 0 1)) (used_rightly node size) size
    (λ k h.
    ap (λ u. eqb (get_or u k 0) (cond (eqb (suc k) size) 0 1)) (e ∙ counted 1024 (all_operands node size))
    ∙ ap (λ m. eqb m (cond (eqb (suc k) size) 0 1)) (get_or-upto (λ j. min 2 (operand_uses node size j)) 0 1024 k (omega arith))
    ∙ used (eqb (suc k) size) (operand_uses node size k))
