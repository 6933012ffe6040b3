-- A node by its record's code: what is shown of each entry of the table of codes, and of what no entry has, holds of the node. Assumes nothing.
use mathlib.Core.Path.{◌≡◌, refl, sym, ◌∙◌, subst}
use mathlib.Core.Bool.{Bool, true, false, cond, ◌&&◌}
use mathlib.Core.List.{List}
use Prim.Native.Nat.{ℕ, suc, ◌≤◌, ◌<◌}
use native.Mathlib.Omega.{arith}
use borrow.Author.Tests.{leb-true, eqb-true, eqb-false}
use lib.Dec.{T, leb, eqb}
use lib.IntN.{ℤ, pos}
use Rattle.prelude.specs.Lists.{case_of}
use Rattle.records.specs.Refusal.{Out, val}
use Rattle.expressions.specs.Nodes.{Node, constant, variable, arithmetic, choice, comparison, negation, both, either, unknown, node_by}
use Rattle.arithmetic.specs.Operators.{sum, difference, product, quotient, remainder, equal, less, at_most, arithmetic_of, comparison_of}
use Rattle.expressions.specs.Values.{number_by, truth_by}
use Rattle.expressions.specs.OperandValues.{decide}
use Rattle.expressions.specs.Sorts.{sort_of, is_number, is_truth}

-- a code that no entry has
abbrev pub Other : ℕ → Type 0
Other k = (1 ≤ k → k ≤ 8 → ⊥) × (16 ≤ k → k ≤ 21 → ⊥)

past : (k lo : ℕ) → lo ≤ k → (k ≡ lo → ⊥) → suc lo ≤ k
past k lo l n = omega arith

far : (k hi : ℕ) → suc hi ≤ k → k ≤ hi → ⊥
far k hi l h = omega arith

-- code k, or another
is_code : (Q : Bool → Type 0) (code k : ℕ) → (code ≡ k → Q true) → ((code ≡ k → ⊥) → Q false) → Q (eqb code k)
is_code Q code k p q = go (eqb code k) (eqb-true code k) (eqb-false code k)
  where
    go : (t : Bool) → (t ≡ true → code ≡ k) → (t ≡ false → code ≡ k → ⊥) → Q t
    go true e n = p (e refl)
    go false e n = q (n refl)

one_of : (Q : ℕ → Type 0) (code k : ℕ) → Q k → ((code ≡ k → ⊥) → Q code) → Q code
one_of Q code k q r = is_code (λ t. Q code) code k (λ e. subst Q (sym e) q) r

-- either the entry, or what the entries after it have
entry : (P : ℕ → Node → Type 0) (code k : ℕ) (x rest : Node) → P k x → ((code ≡ k → ⊥) → P code rest) → P code (cond (eqb code k) x rest)
entry P code k x rest p q = is_code (λ t. P code (cond t x rest)) code k (λ e. subst (λ j. P j x) (sym e) p) q

module _ (P : ℕ → Node → Type 0) (a b c : ℕ) (z : ℤ)
    (at_1 : P 1 (constant z))
    (at-2 : P 2 (variable a))
    (at-3 : P 3 (arithmetic sum a b))
    (at-4 : P 4 (arithmetic difference a b))
    (at_5 : P 5 (arithmetic product a b))
    (at-6 : P 6 (arithmetic quotient a b))
    (at_7 : P 7 (arithmetic remainder a b))
    (at_8 : P 8 (choice a b c))
    (at-16 : P 16 (comparison equal a b))
    (at-17 : P 17 (comparison less a b))
    (at-18 : P 18 (comparison at_most a b))
    (at-19 : P 19 (negation a))
    (at-20 : P 20 (both a b))
    (at-21 : P 21 (either a b))
    (other : (k : ℕ) → Other k → P k unknown) where
  pub by_code : (code : ℕ) → P code (node_by code a b c z)
  unfolding case_of
  by_code code =
      entry P code 1 (constant z) _ at_1 (λ n1.
      entry P code 2 (variable a) _ at-2 (λ n2.
      entry P code 3 (arithmetic sum a b) _ at-3 (λ n3.
      entry P code 4 (arithmetic difference a b) _ at-4 (λ n4.
      entry P code 5 (arithmetic product a b) _ at_5 (λ n5.
      entry P code 6 (arithmetic quotient a b) _ at-6 (λ n6.
      entry P code 7 (arithmetic remainder a b) _ at_7 (λ n7.
      entry P code 8 (choice a b c) _ at_8 (λ n8.
      entry P code 16 (comparison equal a b) _ at-16 (λ n16.
      entry P code 17 (comparison less a b) _ at-17 (λ n17.
      entry P code 18 (comparison at_most a b) _ at-18 (λ n18.
      entry P code 19 (negation a) _ at-19 (λ n19.
      entry P code 20 (both a b) _ at-20 (λ n20.
      entry P code 21 (either a b) _ at-21 (λ n21.
      other code (λ l h. far code 8 (past code 8 (past code 7 (past code 6 (past code 5 (past code 4 (past code 3 (past code 2 (past code 1 l n1) n2) n3) n4) n5) n6) n7) n8) h, λ l h. far code 21 (past code 21 (past code 20 (past code 19 (past code 18 (past code 17 (past code 16 l n16) n17) n18) n19) n20) n21) h)))))))))))))))

-- a test that fails at both ends
outside : (lo hi k : ℕ) → (lo ≤ k → k ≤ hi → ⊥) → (leb lo k && leb k hi) ≡ false
outside lo hi k h = go (leb lo k) (leb k hi) (leb-true lo k) (leb-true k hi)
  where
    go : (t u : Bool) → (t ≡ true → lo ≤ k) → (u ≡ true → k ≤ hi) → (t && u) ≡ false
    go true true p q = absurd (h (p refl) (q refl))
    go true false p q = refl
    go false u p q = refl

module _ (code a b c : ℕ) (z : ℤ) where
  pub number-codes : (leb 1 code && leb code 8) ≡ is_number (sort_of (node_by code a b c z))
  number-codes = by_code (λ k x. (leb 1 k && leb k 8) ≡ is_number (sort_of x)) a b c z refl refl refl refl refl refl refl refl refl refl refl refl refl refl (λ k o. outside 1 8 k o.0) code

  pub truth-codes : (leb 16 code && leb code 21) ≡ is_truth (sort_of (node_by code a b c z))
  truth-codes = by_code (λ k x. (leb 16 k && leb k 21) ≡ is_truth (sort_of x)) a b c z refl refl refl refl refl refl refl refl refl refl refl refl refl refl (λ k o. outside 16 21 k o.1) code

module _ (code a b c : ℕ) (z : ℤ) where
  pub arithmetic-codes : 2 < code → code < 8 → arithmetic (arithmetic_of code) a b ≡ node_by code a b c z
  unfolding case_of
  arithmetic-codes l h =
      let Q : ℕ → Type 0 = λ k. arithmetic (arithmetic_of k) a b ≡ node_by k a b c z in
      one_of Q code 3 refl (λ n3. one_of Q code 4 refl (λ n4. one_of Q code 5 refl (λ n5. one_of Q code 6 refl (λ n6. one_of Q code 7 refl (λ n7. absurd (omega arith))))))

  pub comparison-codes : 15 < code → code < 19 → comparison (comparison_of code) a b ≡ node_by code a b c z
  unfolding case_of
  comparison-codes l h =
      let Q : ℕ → Type 0 = λ k. comparison (comparison_of k) a b ≡ node_by k a b c z in
      one_of Q code 16 refl (λ n16. one_of Q code 17 refl (λ n17. one_of Q code 18 refl (λ n18. absurd (omega arith))))

-- What a node comes to, given what its operands come to.
module _ (number : ℕ → Out ℤ) (truth : ℕ → Out Bool) (vars : List ℤ) where
  no-number-node : (x : Node) → is_number (sort_of x) ≡ false → val (pos 0) ≡ number_by number truth vars x
  no-number-node (constant v) h = absurd (subst T h tt)
  no-number-node (variable v) h = absurd (subst T h tt)
  no-number-node (arithmetic o a b) h = absurd (subst T h tt)
  no-number-node (choice t a b) h = absurd (subst T h tt)
  no-number-node (comparison o a b) h = refl
  no-number-node (negation a) h = refl
  no-number-node (both a b) h = refl
  no-number-node (either a b) h = refl
  no-number-node unknown h = refl

  no-truth-node : (x : Node) → is_truth (sort_of x) ≡ false → val false ≡ truth_by number truth vars x
  no-truth-node (constant v) h = refl
  no-truth-node (variable v) h = refl
  no-truth-node (arithmetic o a b) h = refl
  no-truth-node (choice t a b) h = refl
  no-truth-node (comparison o a b) h = absurd (subst T h tt)
  no-truth-node (negation a) h = absurd (subst T h tt)
  no-truth-node (both a b) h = absurd (subst T h tt)
  no-truth-node (either a b) h = absurd (subst T h tt)
  no-truth-node unknown h = refl

  module _ (code a b c : ℕ) (z : ℤ) where
    pub no_number : (1 ≤ code → code ≤ 8 → ⊥) → val (pos 0) ≡ number_by number truth vars (node_by code a b c z)
    no_number h = no-number-node (node_by code a b c z) (sym (number-codes code a b c z) ∙ outside 1 8 code h)

    pub no_truth : (16 ≤ code → code ≤ 21 → ⊥) → val false ≡ truth_by number truth vars (node_by code a b c z)
    no_truth h = no-truth-node (node_by code a b c z) (sym (truth-codes code a b c z) ∙ outside 16 21 code h)

    pub decided-codes : 19 < code → code < 22 → decide (eqb code 21) (truth a) (truth b) ≡ truth_by number truth vars (node_by code a b c z)
    unfolding case_of
    decided-codes l h =
        let Q : ℕ → Type 0 = λ k. decide (eqb k 21) (truth a) (truth b) ≡ truth_by number truth vars (node_by k a b c z) in
        one_of Q code 20 refl (λ n20. one_of Q code 21 refl (λ n21. absurd (omega arith)))
