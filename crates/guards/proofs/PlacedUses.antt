-- A tree whose nodes stand in a list of nodes: each but the root is an operand once. Assumes nothing.
use mathlib.Core.Path.{◌≡◌, refl, ap, ◌∙◌}
use mathlib.Core.List.{List, [], ◌∷◌}
use Prim.Native.Nat.{ℕ, ◌+◌, ◌-◌}
use native.Mathlib.Nat.{add_assoc}
use native.Mathlib.Omega.{arith}
use lib.Dec.{eqb}
use Rattle.prelude.specs.Lists.{count, gather, from}
use Rattle.prelude.proofs.Gathered.{from-append, gather-one}
use Rattle.prelude.proofs.Lists.{gather_append}
use Rattle.prelude.proofs.Numbers.{count-append}
use Rattle.expressions.specs.Nodes as N
use Rattle.expressions.specs.Nodes.{Node}
use Rattle.expressions.specs.Uses.{operand_numbers}
use Rattle.expressions.proofs.Uses.{times}
use Rattle.guards.specs.Trees.{Binary, arithmetic, comparison, both, either, Tree, constant, variable, negation, binary, choice, node_count, binary_node}
use Rattle.guards.proofs.Numbering.{Placed}

numbers-binary : (o : Binary) (a b : ℕ) → operand_numbers (binary_node o a b) ≡ a ∷ b ∷ []
numbers-binary (arithmetic o) a b = refl
numbers-binary (comparison o) a b = refl
numbers-binary both a b = refl
numbers-binary either a b = refl

module _ (node : ℕ → Node) where
  abbrev pub operands_in : ℕ → ℕ → List ℕ
  operands_in m c = gather (λ n. operand_numbers (node n)) (from m c)

  module _ (k : ℕ) where
    abbrev one : ℕ → ℕ
    one n = times k (n ∷ [])

    from_more : (m c d : ℕ) → times k (from m (c + d)) ≡ times k (from m c) + times k (from (m + c) d)
    from_more m c d = ap (times k) (from-append m c d) ∙ count-append _ (from m c) (from (m + c) d)

    uses-more : (m c d : ℕ) → times k (operands_in m (c + d)) ≡ times k (operands_in m c) + times k (operands_in (m + c) d)
    uses-more m c d =
        ap (λ l. times k (gather (λ n. operand_numbers (node n)) l)) (from-append m c d)
        ∙ ap (times k) (gather_append (λ n. operand_numbers (node n)) (from m c) (from (m + c) d))
        ∙ count-append _ (operands_in m c) (operands_in (m + c) d)

    uses-one : (m n : ℕ) (x : Node) → m ≡ n → node n ≡ x → times k (operands_in m 1) ≡ times k (operand_numbers x)
    unfolding from
    uses-one m n x e h = ap (times k) (gather-one (λ n. operand_numbers (node n)) m ∙ ap operand_numbers (ap node e ∙ h))

    from_one : (m n : ℕ) → m ≡ n → times k (from m 1) ≡ one n
    unfolding from
    from_one m n e = ap one e

    none_of : times k [] ≡ 0
    unfolding count
    none_of = refl

    two-of : (x y : ℕ) → times k (x ∷ y ∷ []) ≡ one x + one y
    two-of x y = count-append _ (x ∷ []) (y ∷ [])

    -- the operands and the root together are all its nodes
    pub placed-uses : (m : ℕ) (t : Tree) → Placed node m t → times k (operands_in m (node_count t)) + one (m + node_count t - 1) ≡ times k (from m (node_count t))
    unfolding Placed node_count
    placed-uses m (constant z) p =
        omega (arith, uses-one m m (N.constant z) refl p, from_one m (m + 1 - 1) (omega arith), none_of)
    placed-uses m (variable v) p =
        omega (arith, uses-one m m (N.variable v) refl p, from_one m (m + 1 - 1) (omega arith), none_of)
    placed-uses m (negation t) p =
        let c = node_count t in
        let ih = placed-uses m t p.0 in
        omega (arith, ih, uses-more m c 1, uses-one (m + c) (m + c) (N.negation (m + c - 1)) refl p.1, from_more m c 1, from_one (m + c) (m + (c + 1) - 1) (omega arith))
    placed-uses m (binary o a b) p =
        let c = node_count a in
        let d = node_count b in
        let x = m + c - 1 in
        let y = m + c + d - 1 in
        omega (
          arith,
          placed-uses m a p.0,
          placed-uses (m + c) b p.1,
          uses-more m (c + d) 1,
          uses-more m c d,
          uses-one (m + (c + d)) (m + c + d) (binary_node o x y) (omega arith) p.2,
          ap (times k) (numbers-binary o x y),
          two-of x y,
          from_more m (c + d) 1,
          from_more m c d,
          from_one (m + (c + d)) (m + (c + d + 1) - 1) (omega arith),
        )
    placed-uses m (choice t a b) p =
        let c = node_count t in
        let d = node_count a in
        let e = node_count b in
        let x = m + c - 1 in
        let y = m + c + d - 1 in
        let z = m + c + d + e - 1 in
        omega (
          arith,
          placed-uses m t p.0,
          placed-uses (m + c) a p.1,
          placed-uses (m + c + d) b p.2,
          uses-more m (c + d + e) 1,
          uses-more m (c + d) e,
          uses-more m c d,
          ap (λ i. times k (operands_in i e)) (add_assoc m c d),
          uses-one (m + (c + d + e)) (m + c + d + e) (N.choice x y z) (omega arith) p.3,
          count-append (λ n. eqb n k) (x ∷ []) (y ∷ z ∷ []),
          two-of y z,
          from_more m (c + d + e) 1,
          from_more m (c + d) e,
          from_more m c d,
          ap (λ i. times k (from i e)) (add_assoc m c d),
          from_one (m + (c + d + e)) (m + (c + d + e + 1) - 1) (omega arith),
        )
