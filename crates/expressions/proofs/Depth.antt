-- What a node comes to, by the rule for one node: any depth above the node's number gives it, and only nodes up to it count. Assumes nothing.
use mathlib.Core.Path.{◌≡◌, refl, ap, ◌∙◌}
use mathlib.Core.Bool.{Bool, true, false, cond}
use mathlib.Core.List.{List}
use Prim.Native.Nat.{ℕ, zero, suc, ◌≤◌, ◌<◌}
use native.Mathlib.Omega.{arith}
use borrow.Author.Tests.{ltb-true}
use lib.Dec.{ltb}
use lib.IntN.{ℤ, pos}
use lib.ListN.{get_or}
use Rattle.records.specs.Refusal.{Out, val}
use Rattle.expressions.specs.Nodes.{Node, constant, variable, arithmetic, choice, comparison, negation, both, either, unknown}
use Rattle.expressions.specs.Values.{number_by, truth_by, number_at, truth_at, number, truth}
use Rattle.expressions.specs.OperandValues.{operand_number, operand_truth}

-- an operand's value: one that is not lower than its node comes to d
abbrev below : {A : Type 0} → A → (ℕ → Out A) → ℕ → ℕ → Out A
below d value n a = cond (ltb a n) (value a) (val d)

below-same : {A : Type 0} (d : A) (f g : ℕ → Out A) (n a : ℕ) → (a < n → f a ≡ g a) → below d f n a ≡ below d g n a
below-same d f g n a e = go (ltb a n) (λ t. e (ltb-true a n t))
  where
    go : (t : Bool) → (t ≡ true → f a ≡ g a) → cond t (f a) (val d) ≡ cond t (g a) (val d)
    go true h = h refl
    go false h = refl

-- two lists of variables, u and w, that have the same values
module _ (u w : List ℤ) (alike : (v : ℕ) → get_or u v (pos 0) ≡ get_or w v (pos 0)) where
  number_by_lem : (f : ℕ → Out ℤ) (g : ℕ → Out Bool) (x : Node) → number_by f g u x ≡ number_by f g w x
  number_by_lem f g (constant z) = refl
  number_by_lem f g (variable v) = ap val (alike v)
  number_by_lem f g (arithmetic o a b) = refl
  number_by_lem f g (choice t a b) = refl
  number_by_lem f g (comparison o a b) = refl
  number_by_lem f g (negation a) = refl
  number_by_lem f g (both a b) = refl
  number_by_lem f g (either a b) = refl
  number_by_lem f g unknown = refl

  truth-by : (f : ℕ → Out ℤ) (g : ℕ → Out Bool) (x : Node) → truth_by f g u x ≡ truth_by f g w x
  truth-by f g (constant z) = refl
  truth-by f g (variable v) = refl
  truth-by f g (arithmetic o a b) = refl
  truth-by f g (choice t a b) = refl
  truth-by f g (comparison o a b) = refl
  truth-by f g (negation a) = refl
  truth-by f g (both a b) = refl
  truth-by f g (either a b) = refl
  truth-by f g unknown = refl

  abbrev Same : (ℕ → Node) → (ℕ → Node) → ℕ → ℕ → ℕ → Type 0
  Same f g d e n = (number_at f u d n ≡ number_at g w e n) × (truth_at f u d n ≡ truth_at g w e n)

  -- two lookups that agree up to n, at two depths above n
  same : (f g : ℕ → Node) (d e n : ℕ) → n < d → n < e → ((k : ℕ) → k ≤ n → f k ≡ g k) → Same f g d e n
  unfolding number_at
  same f g zero e n h k eq = absurd (omega arith)
  same f g (suc d) zero n h k eq = absurd (omega arith)
  same f g (suc d) (suc e) n h k eq =
      let lower : (a : ℕ) → a < n → Same f g d e a = λ a l. same f g d e a (omega arith) (omega arith) (λ j m. eq j (omega arith)) in
      let p : (a : ℕ) → below (pos 0) (number_at f u d) n a ≡ below (pos 0) (number_at g w e) n a =
      λ a. below-same (pos 0) (number_at f u d) (number_at g w e) n a (λ l. (lower a l).0)
      in
      let q : (a : ℕ) → below false (truth_at f u d) n a ≡ below false (truth_at g w e) n a =
      λ a. below-same false (truth_at f u d) (truth_at g w e) n a (λ l. (lower a l).1)
      in
      let r : f n ≡ g n = eq n (omega arith) in
      let y : ℕ → Out ℤ = below (pos 0) (number_at g w e) n in
      let z : ℕ → Out Bool = below false (truth_at g w e) n in
      ((λ i. number_by (λ a. p a i) (λ a. q a i) u (r i)) ∙ number_by_lem y z (g n), (λ i. truth_by (λ a. p a i) (λ a. q a i) u (r i)) ∙ truth-by y z (g n))

module _ (vars : List ℤ) where
  -- the rule for one node, with the values of lower nodes
  module _ (node : ℕ → Node) (n : ℕ) where
    deep : (a : ℕ) → a < n → Same vars vars (λ v. refl) node node n (suc a) a
    deep a l = same vars vars (λ v. refl) node node n (suc a) a l (omega arith) (λ j m. refl)

    operand-number : (a : ℕ) → below (pos 0) (number_at node vars n) n a ≡ operand_number node vars n a
    operand-number a = below-same (pos 0) (number_at node vars n) (number node vars) n a (λ l. (deep a l).0)

    operand-truth : (a : ℕ) → below false (truth_at node vars n) n a ≡ operand_truth node vars n a
    operand-truth a = below-same false (truth_at node vars n) (truth node vars) n a (λ l. (deep a l).1)

    pub number-rule : number node vars n ≡ number_by (operand_number node vars n) (operand_truth node vars n) vars (node n)
    unfolding number_at
    number-rule i = number_by (λ a. operand-number a i) (λ a. operand-truth a i) vars (node n)

    pub truth-rule : truth node vars n ≡ truth_by (operand_number node vars n) (operand_truth node vars n) vars (node n)
    unfolding number_at
    truth-rule i = truth_by (λ a. operand-number a i) (λ a. operand-truth a i) vars (node n)
