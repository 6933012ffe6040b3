-- A node by where its whole record begins, and truths that are left to one operand. Assumes nothing.
use mathlib.Core.Path.{◌≡◌, refl, sym, ap, ◌∙◌, subst}
use mathlib.Core.Bool.{Bool, true, false, cond, not, ◌&&◌}
use mathlib.Core.List.{List}
use Prim.Native.Nat.{ℕ, ◌+◌, ◌*◌, ◌-◌, ◌≤◌, ◌<◌}
use native.Mathlib.Omega.{arith}
use borrow.Author.Tests.{leb-true, eqb-true, eqb-false, lt-ltb, le-ltb, le-leb}
use lib.Dec.{T, eqb, ltb, leb}
use lib.IntN.{ℤ, pos}
use lib.ListN.{length}
use Rattle.prelude.proofs.Counts.{and-true}
use Rattle.records.specs.Bytes.{byte, two}
use Rattle.records.specs.Refusal.{Out, val, fault, choose}
use Rattle.arithmetic.specs.Operators.{arithmetic_of, comparison_of}
use Rattle.arithmetic.specs.Outcomes.{TruthStandsFor}
use Rattle.arithmetic.proofs.Outcomes.{truth-same, of-truth, turned}
use Rattle.expressions.specs.Nodes.{node_at}
use Rattle.expressions.specs.Values.{number, truth}
use Rattle.expressions.specs.OperandValues.{operand_number, operand_truth, compute_operands, compare_operands, decide}
use Rattle.expressions.specs.Coded.{HasFields}
use Rattle.expressions.specs.declared.nodes.Fields.{Fields}
use Rattle.expressions.proofs.Decided.{undecided, stays}
use Rattle.expressions.proofs.Arms.{no-number-arm, choice-arm, arithmetic-arm, no-truth-arm, comparison-arm, negation-arm, decided-arm}

-- ---- the arms of node n, whose record begins at a place

module _ (s : List ℕ) (vars : List ℤ) (at n : ℕ) (e : at ≡ 16 * n) where
  abbrev fields : Fields
  fields = record { code = byte s (at + 1); a = two s (at + 2); b = two s (at + 4); c = two s (at + 6) }

  has : HasFields s n fields
  has = record { code = ap (λ k. byte s (k + 1)) e; a = ap (λ k. two s (k + 2)) e; b = ap (λ k. two s (k + 4)) e; c = ap (λ k. two s (k + 6)) e }

  pub no-number-from : (code : ℕ) → code ≡ byte s (at + 1) → (1 ≤ code → code ≤ 8 → ⊥) → val (pos 0) ≡ number (node_at s) vars n
  no-number-from code k f = no-number-arm s vars n fields has (subst (λ x. 1 ≤ x → x ≤ 8 → ⊥) k f)

  pub choice-from : (code : ℕ) → code ≡ byte s (at + 1) → code ≡ 8 → choose (operand_truth (node_at s) vars n (two s (at + 2))) (operand_number (node_at s) vars n (two s (at + 4))) (operand_number (node_at s) vars n (two s (at + 6))) ≡ number (node_at s) vars n
  choice-from code k c = choice-arm s vars n fields has (sym k ∙ c)

  pub arithmetic-from : (code : ℕ) → code ≡ byte s (at + 1) → 2 < code → code < 8 → compute_operands (node_at s) vars (arithmetic_of (byte s (at + 1))) n (two s (at + 2)) (two s (at + 4)) ≡ number (node_at s) vars n
  arithmetic-from code k l m = arithmetic-arm s vars n fields has (subst (λ x. 2 < x) k l) (subst (λ x. x < 8) k m)

  pub no-truth-from : (16 ≤ byte s (at + 1) → byte s (at + 1) ≤ 21 → ⊥) → val false ≡ truth (node_at s) vars n
  no-truth-from = no-truth-arm s vars n fields has

  pub comparison-from : 15 < byte s (at + 1) → byte s (at + 1) < 19 → compare_operands (node_at s) vars (comparison_of (byte s (at + 1))) n (two s (at + 2)) (two s (at + 4)) ≡ truth (node_at s) vars n
  comparison-from = comparison-arm s vars n fields has

  pub negation-from : byte s (at + 1) ≡ 19 → choose (operand_truth (node_at s) vars n (two s (at + 2))) (val false) (val true) ≡ truth (node_at s) vars n
  negation-from = negation-arm s vars n fields has

  pub decided-from : 19 < byte s (at + 1) → byte s (at + 1) < 22 → decide (eqb (byte s (at + 1)) 21) (operand_truth (node_at s) vars n (two s (at + 2))) (operand_truth (node_at s) vars n (two s (at + 4))) ≡ truth (node_at s) vars n
  decided-from = decided-arm s vars n fields has

-- ---- truths that are turned or not

abbrev pub turn_if : Bool → Out Bool → Out Bool
turn_if flip o = cond flip (choose o (val false) (val true)) o

pub turned-again : (flip : Bool) (o : Out Bool) → turn_if flip (choose o (val false) (val true)) ≡ turn_if (not flip) o
turned-again false o = refl
turned-again true (val true) = refl
turned-again true (val false) = refl
turned-again true (fault w) = refl

pub turned-stands : (flip : Bool) {t : ℕ} {o : Out Bool} → TruthStandsFor t o → TruthStandsFor (cond flip (cond (ltb t 2) (1 - t) t) t) (turn_if flip o)
turned-stands true s = turned s
turned-stands false s = s

pub turned-false : (flip : Bool) {t : ℕ} → t ≡ cond flip 1 0 → TruthStandsFor t (turn_if flip (val false))
turned-false true e = of-truth true e
turned-false false e = of-truth false e

-- ---- not, and, or

-- the codes of those that leave a truth to one operand
pub connective : (k : ℕ) → (leb 19 k && leb k 21) ≡ true → (19 ≤ k) × (k ≤ 21)
connective k e =
    let b = and-true (leb 19 k) (leb k 21) e in
    (leb-true 19 k b.0, leb-true k 21 b.1)

pub no-connective : (k : ℕ) → (leb 19 k && leb k 21) ≡ false → 19 ≤ k → k ≤ 21 → ⊥
no-connective k e l m = subst T (sym (λ i. le-leb 19 k l i && le-leb k 21 m i) ∙ e) tt

-- the truth that does not decide is true for and, false for or
undeciding : (k : ℕ) → 19 < k → k < 22 → ◌≡◌ {A = ℕ} (cond (eqb k 20) 1 0) (cond (not (eqb k 21)) 1 0)
undeciding k l m = ap {B = ℕ} (λ u. cond u 1 0) (go (eqb k 21) (eqb-true k 21) (eqb-false k 21))
  where
    go : (u : Bool) → (u ≡ true → k ≡ 21) → (u ≡ false → k ≡ 21 → ⊥) → eqb k 20 ≡ not u
    go true e n = ap (λ j. eqb j 20) (e refl)
    go false e n =
        let d : k ≡ 21 → ⊥ = n refl in
        let q : k ≡ 20 = omega (arith, l, m, d) in
        ap (λ j. eqb j 20) q

-- The truth of the node that begins at `start` is what is left to the node at `at`, whose code is given, turned or not.
pub record LeftTo (s : List ℕ) (vars : List ℤ) (start at : ℕ) (flip : Bool) (code : ℕ) : Type 0 where
  pub node : ℕ
  pub begins : at ≡ 16 * node
  pub below : at ≤ start
  pub whole : start + 16 ≤ length s
  pub coded : code ≡ byte s (at + 1)
  pub same : (n : ℕ) → start ≡ 16 * n → truth (node_at s) vars n ≡ turn_if flip (truth (node_at s) vars node)

-- and to an operand of that node
abbrev pub LeftToOperand : List ℕ → List ℤ → ℕ → ℕ → Bool → ℕ → Type 0
LeftToOperand s vars start node flip a = (n : ℕ) → start ≡ 16 * n → truth (node_at s) vars n ≡ turn_if flip (operand_truth (node_at s) vars node a)

module _ {s : List ℕ} {vars : List ℤ} {start at : ℕ} {flip : Bool} {code : ℕ} (l : LeftTo s vars start at flip code) where
  abbrev B : ℕ → Out Bool
  B = operand_truth (node_at s) vars l.node

  between : 19 ≤ code → code ≤ 21 → (code ≡ 19 → ⊥) → (19 < byte s (at + 1)) × (byte s (at + 1) < 22)
  between f g h =
      let k : code ≡ byte s (at + 1) = l.coded in
      (omega (arith, f, h, k), omega (arith, g, k))

  and-or : (19 ≤ code) × (code ≤ 21) → (code ≡ 19 → ⊥) → decide (eqb (byte s (at + 1)) 21) (B (two s (at + 2))) (B (two s (at + 4))) ≡ truth (node_at s) vars l.node
  and-or f h =
      let b = between f.0 f.1 h in
      decided-from s vars at l.node l.begins b.0 b.1

  pub left-by-not : code ≡ 19 → LeftToOperand s vars start l.node (not flip) (two s (at + 2))
  left-by-not e n q = l.same n q ∙ ap (turn_if flip) (sym (negation-from s vars at l.node l.begins (sym l.coded ∙ e))) ∙ turned-again flip (B (two s (at + 2)))

  module _ (f : (19 ≤ code) × (code ≤ 21)) (h : code ≡ 19 → ⊥) {t : ℕ} (first : TruthStandsFor t (B (two s (at + 2)))) where
    pub left-to-second : t ≡ cond (eqb (byte s (at + 1)) 20) 1 0 → LeftToOperand s vars start l.node flip (two s (at + 4))
    left-to-second e n q =
        let b = between f.0 f.1 h in
        l.same n q ∙ ap (turn_if flip) (sym (undecided first (eqb (byte s (at + 1)) 21) (B (two s (at + 4))) (e ∙ undeciding (byte s (at + 1)) b.0 b.1) ∙ and-or f h))

    pub first-decides : (t ≡ cond (eqb (byte s (at + 1)) 20) 1 0 → ⊥) → (n : ℕ) → start ≡ 16 * n → TruthStandsFor (cond flip (cond (ltb t 2) (1 - t) t) t) (truth (node_at s) vars n)
    first-decides d n q =
        let b = between f.0 f.1 h in
        let o = stays first (eqb (byte s (at + 1)) 21) (B (two s (at + 4))) (λ e. d (e ∙ sym (undeciding (byte s (at + 1)) b.0 b.1))) in
        truth-same (turned-stands flip o) (ap (turn_if flip) (and-or f h) ∙ sym (l.same n q))

  -- an operand that is not lower, and one that is
  pub left-to-none : (u : Bool) (a : ℕ) {t : ℕ} → LeftToOperand s vars start l.node u a → at ≤ 16 * a → t ≡ cond u 1 0 → (n : ℕ) → start ≡ 16 * n → TruthStandsFor t (truth (node_at s) vars n)
  left-to-none u a j m e n q =
      let k : at ≡ 16 * l.node = l.begins in
      let o : val false ≡ B a = rw (le-ltb a l.node (omega (arith, m, k))) refl in
      truth-same (turned-false u e) (ap (turn_if u) o ∙ sym (j n q))

  pub left-to-lower : (u : Bool) (a : ℕ) → LeftToOperand s vars start l.node u a → 16 * a < at → LeftTo s vars start (16 * a) u (byte s (16 * a + 1))
  left-to-lower u a j m =
      let k : at ≡ 16 * l.node = l.begins in
      let b : at ≤ start = l.below in
      let o : B a ≡ truth (node_at s) vars a = rw (lt-ltb a l.node (omega (arith, m, k))) refl in
      record { node = a; begins = refl; below = omega (arith, m, b); whole = l.whole; coded = refl; same = λ n q. j n q ∙ ap (turn_if u) o }

  -- where no operand is left
  pub left-to-no-truth : (16 ≤ code → code ≤ 21 → ⊥) → {t : ℕ} → t ≡ cond flip 1 0 → (n : ℕ) → start ≡ 16 * n → TruthStandsFor t (truth (node_at s) vars n)
  left-to-no-truth f e n q =
      let none : 16 ≤ byte s (at + 1) → byte s (at + 1) ≤ 21 → ⊥ = subst (λ x. 16 ≤ x → x ≤ 21 → ⊥) l.coded f in
      truth-same (turned-false flip e) (ap (turn_if flip) (no-truth-from s vars at l.node l.begins none) ∙ sym (l.same n q))

  pub left-to-comparison : 16 ≤ code → code ≤ 18 → {t : ℕ} → TruthStandsFor t (compare_operands (node_at s) vars (comparison_of (byte s (at + 1))) l.node (two s (at + 2)) (two s (at + 4))) → (n : ℕ) → start ≡ 16 * n → TruthStandsFor (cond flip (cond (ltb t 2) (1 - t) t) t) (truth (node_at s) vars n)
  left-to-comparison f g o n q =
      let k : code ≡ byte s (at + 1) = l.coded in
      truth-same (turned-stands flip o) (ap (turn_if flip) (comparison-from s vars at l.node l.begins (omega (arith, f, k)) (omega (arith, g, k))) ∙ sym (l.same n q))
