-- Trees of nodes by the codes of their records. Assumes nothing.
use mathlib.Core.Path.{◌≡◌, refl, sym, ap, ◌∙◌, subst}
use mathlib.Core.Bool.{Bool, true, false, cond, ◌||◌}
use mathlib.Core.List.{List, [], ◌∷◌}
use Prim.Native.Nat.{ℕ, ◌+◌, ◌*◌, ◌<◌}
use native.Mathlib.Omega.{arith}
use borrow.Author.Tests.{eqb-true, ne_eqb}
use Rattle.std.proofs.Common.{Option}
use lib.Dec.{ltb, eqb}
use lib.IntN.{ℤ, pos}
use Rattle.prelude.specs.Lists.{case_of}
use Rattle.records.specs.Bytes.{byte, two, four±}
use Rattle.expressions.specs.Nodes.{Node, node_by, node_at}
use Rattle.expressions.specs.Sorts.{Sort, a_number, a_truth, neither, sort_of, is_number, is_truth, same_sort, operands, variables_of}
use Rattle.expressions.specs.Coded.{HasFields, coded_node}
use Rattle.expressions.specs.declared.nodes.Fields.{Fields}
use Rattle.expressions.proofs.Codes.{Other, by_code}
use Rattle.expressions.proofs.Fields.{coded-at, number_at, truth-at}
use Rattle.guards.specs.Trees.{Tree, constant, variable, negation, binary, choice, level}
use Rattle.guards.specs.Texts.{sign, text_of, text_in}
use Rattle.guards.specs.Lists.{tree_by, tree_of}
use Rattle.guard_writer.specs.Codes.{code_level, code_sort, code_binary, first_byte, second_byte, sign_bytes}
use Rattle.guard_writer.specs.Operands.{operand_tree}
use Rattle.guard_writer.proofs.Rules.{tree-rule, bare-operand}

-- a code that no entry has is of no level
other-level : (k : ℕ) → Other k → code_level k ≡ 0
unfolding case_of
other-level k o =
    rw (
      ne_eqb k 3 (λ e. o.0 (omega arith) (omega arith)),
      ne_eqb k 4 (λ e. o.0 (omega arith) (omega arith)),
      ne_eqb k 5 (λ e. o.0 (omega arith) (omega arith)),
      ne_eqb k 6 (λ e. o.0 (omega arith) (omega arith)),
      ne_eqb k 7 (λ e. o.0 (omega arith) (omega arith)),
      ne_eqb k 8 (λ e. o.0 (omega arith) (omega arith)),
      ne_eqb k 16 (λ e. o.1 (omega arith) (omega arith)),
      ne_eqb k 17 (λ e. o.1 (omega arith) (omega arith)),
      ne_eqb k 18 (λ e. o.1 (omega arith) (omega arith)),
      ne_eqb k 19 (λ e. o.1 (omega arith) (omega arith)),
      ne_eqb k 20 (λ e. o.1 (omega arith) (omega arith)),
      ne_eqb k 21 (λ e. o.1 (omega arith) (omega arith)),
    )

-- what each level says of the tree: 0 a variable, a constant or 0, 1 a negation, 7 a choice, and between them two operands
pub record ByLevel (tree : ℕ → Tree) (a b c : ℕ) (z : ℤ) (code : ℕ) (t : Tree) : Type 0 where
  pub same : code_level code ≡ level t
  pub is_variable : code ≡ 2 → variable a ≡ t
  pub is_constant : code ≡ 1 → constant z ≡ t
  pub is_zero : code_level code ≡ 0 → (code ≡ 2 → ⊥) → (code ≡ 1 → ⊥) → constant (pos 0) ≡ t
  pub is_negation : code_level code ≡ 1 → negation (tree a) ≡ t
  pub is_choice : code_level code ≡ 7 → choice (tree a) (tree b) (tree c) ≡ t
  pub is_binary : 1 < code_level code → code_level code < 7 → binary (code_binary code) (tree a) (tree b) ≡ t

module _ (tree : ℕ → Tree) (a b c : ℕ) (z : ℤ) where
  abbrev By : ℕ → Node → Type 0
  By k x = ByLevel tree a b c z k (tree_by tree x)

  -- of two operands
  two_operands : (k : ℕ) (t : Tree) → code_level k ≡ level t → 1 < code_level k → code_level k < 7 → (k ≡ 2 → ⊥) → (k ≡ 1 → ⊥) → binary (code_binary k) (tree a) (tree b) ≡ t → ByLevel tree a b c z k t
  two_operands k t s l h n m e = record {
    same = s;
    is_variable = λ d. absurd (n d);
    is_constant = λ d. absurd (m d);
    is_zero = λ d p q. absurd (omega arith);
    is_negation = λ d. absurd (omega arith);
    is_choice = λ d. absurd (omega arith);
    is_binary = λ p q. e;
  }

  pub by_level : (code : ℕ) → ByLevel tree a b c z code (tree_by tree (node_by code a b c z))
  unfolding case_of
  by_level =
      by_code By a b c z
      (record { same = refl; is_variable = λ e. absurd (omega arith); is_constant = λ e. refl; is_zero = λ d p q. absurd (q refl); is_negation = λ d. absurd (omega arith); is_choice = λ d. absurd (omega arith); is_binary = λ p q. absurd (omega arith) })
      (record { same = refl; is_variable = λ e. refl; is_constant = λ e. absurd (omega arith); is_zero = λ d p q. absurd (p refl); is_negation = λ d. absurd (omega arith); is_choice = λ d. absurd (omega arith); is_binary = λ p q. absurd (omega arith) })
      (two_operands 3 _ refl (omega arith) (omega arith) (λ e. omega arith) (λ e. omega arith) refl)
      (two_operands 4 _ refl (omega arith) (omega arith) (λ e. omega arith) (λ e. omega arith) refl)
      (two_operands 5 _ refl (omega arith) (omega arith) (λ e. omega arith) (λ e. omega arith) refl)
      (two_operands 6 _ refl (omega arith) (omega arith) (λ e. omega arith) (λ e. omega arith) refl)
      (two_operands 7 _ refl (omega arith) (omega arith) (λ e. omega arith) (λ e. omega arith) refl)
      (record { same = refl; is_variable = λ e. absurd (omega arith); is_constant = λ e. absurd (omega arith); is_zero = λ d p q. absurd (omega arith); is_negation = λ d. absurd (omega arith); is_choice = λ d. refl; is_binary = λ p q. absurd (omega arith) })
      (two_operands 16 _ refl (omega arith) (omega arith) (λ e. omega arith) (λ e. omega arith) refl)
      (two_operands 17 _ refl (omega arith) (omega arith) (λ e. omega arith) (λ e. omega arith) refl)
      (two_operands 18 _ refl (omega arith) (omega arith) (λ e. omega arith) (λ e. omega arith) refl)
      (record { same = refl; is_variable = λ e. absurd (omega arith); is_constant = λ e. absurd (omega arith); is_zero = λ d p q. absurd (omega arith); is_negation = λ d. refl; is_choice = λ d. absurd (omega arith); is_binary = λ p q. absurd (omega arith) })
      (two_operands 20 _ refl (omega arith) (omega arith) (λ e. omega arith) (λ e. omega arith) refl)
      (two_operands 21 _ refl (omega arith) (omega arith) (λ e. omega arith) (λ e. omega arith) refl)
      (λ k o. record {
        same = other-level k o;
        is_variable = λ e. absurd (o.0 (omega arith) (omega arith));
        is_constant = λ e. absurd (o.0 (omega arith) (omega arith));
        is_zero = λ d p q. refl;
        is_negation = λ d. absurd (omega (arith, other-level k o));
        is_choice = λ d. absurd (omega (arith, other-level k o));
        is_binary = λ p q. absurd (omega (arith, other-level k o));
      })

-- what a code tells of a node's operands, of its variable and of its sort
pub record Told (a b c code : ℕ) (x : Node) : Type 0 where
  pub none : code_level code ≡ 0 → operands x ≡ []
  pub one : code_level code ≡ 1 → operands x ≡ (a, a_truth) ∷ []
  pub both : 1 < code_level code → code_level code < 7 → operands x ≡ (a, cond (ltb 19 code) a_truth a_number) ∷ (b, cond (ltb 19 code) a_truth a_number) ∷ []
  pub three : code_level code ≡ 7 → operands x ≡ (a, a_truth) ∷ (b, a_number) ∷ (c, a_number) ∷ []
  pub its_variable : code ≡ 2 → variables_of x ≡ a ∷ []
  pub without_variable : (code ≡ 2 → ⊥) → variables_of x ≡ []
  pub known : (code_level code ≡ 0 → (code ≡ 2 → ⊥) → code ≡ 1) → (is_number (sort_of x) || is_truth (sort_of x)) ≡ true

module _ (a b c : ℕ) (z : ℤ) where
  told-two : (k : ℕ) (x : Node) → 1 < code_level k → code_level k < 7 → (k ≡ 2 → ⊥) → operands x ≡ (a, cond (ltb 19 k) a_truth a_number) ∷ (b, cond (ltb 19 k) a_truth a_number) ∷ [] → variables_of x ≡ [] →
      (is_number (sort_of x) || is_truth (sort_of x)) ≡ true → Told a b c k x
  told-two k x l h n e v s = record {
    none = λ d. absurd (omega arith);
    one = λ d. absurd (omega arith);
    both = λ p q. e;
    three = λ d. absurd (omega arith);
    its_variable = λ d. absurd (n d);
    without_variable = λ d. v;
    known = λ d. s;
  }

  told-by : (code : ℕ) → Told a b c code (node_by code a b c z)
  unfolding case_of
  told-by =
      by_code (Told a b c) a b c z
      (record { none = λ d. refl; one = λ d. absurd (omega arith); both = λ p q. absurd (omega arith); three = λ d. absurd (omega arith); its_variable = λ d. absurd (omega arith); without_variable = λ d. refl; known = λ d. refl })
      (record { none = λ d. refl; one = λ d. absurd (omega arith); both = λ p q. absurd (omega arith); three = λ d. absurd (omega arith); its_variable = λ d. refl; without_variable = λ d. absurd (d refl); known = λ d. refl })
      (told-two 3 _ (omega arith) (omega arith) (λ e. omega arith) refl refl refl)
      (told-two 4 _ (omega arith) (omega arith) (λ e. omega arith) refl refl refl)
      (told-two 5 _ (omega arith) (omega arith) (λ e. omega arith) refl refl refl)
      (told-two 6 _ (omega arith) (omega arith) (λ e. omega arith) refl refl refl)
      (told-two 7 _ (omega arith) (omega arith) (λ e. omega arith) refl refl refl)
      (record { none = λ d. absurd (omega arith); one = λ d. absurd (omega arith); both = λ p q. absurd (omega arith); three = λ d. refl; its_variable = λ d. absurd (omega arith); without_variable = λ d. refl; known = λ d. refl })
      (told-two 16 _ (omega arith) (omega arith) (λ e. omega arith) refl refl refl)
      (told-two 17 _ (omega arith) (omega arith) (λ e. omega arith) refl refl refl)
      (told-two 18 _ (omega arith) (omega arith) (λ e. omega arith) refl refl refl)
      (record { none = λ d. absurd (omega arith); one = λ d. refl; both = λ p q. absurd (omega arith); three = λ d. absurd (omega arith); its_variable = λ d. absurd (omega arith); without_variable = λ d. refl; known = λ d. refl })
      (told-two 20 _ (omega arith) (omega arith) (λ e. omega arith) refl refl refl)
      (told-two 21 _ (omega arith) (omega arith) (λ e. omega arith) refl refl refl)
      (λ k o. record {
        none = λ d. refl;
        one = λ d. absurd (omega (arith, other-level k o));
        both = λ p q. absurd (omega (arith, other-level k o));
        three = λ d. absurd (omega (arith, other-level k o));
        its_variable = λ e. absurd (o.0 (omega arith) (omega arith));
        without_variable = λ d. refl;
        known = λ f. let e : k ≡ 1 = f (other-level k o) (λ d. o.0 (omega arith) (omega arith)) in absurd (o.0 (omega arith) (omega arith));
      })

-- node n, whose record has the fields f
module _ (s : List ℕ) (n : ℕ) (f : Fields) (h : HasFields s n f) where
  tree-coded : tree_by (operand_tree (node_at s) n) (coded_node f (four± s (16 * n + 8))) ≡ tree_of (node_at s) n
  tree-coded = ap (tree_by (operand_tree (node_at s) n)) (coded-at s n f h) ∙ sym (tree-rule (node_at s) n)

  pub node-by-level : ByLevel (operand_tree (node_at s) n) f.a f.b f.c (four± s (16 * n + 8)) f.code (tree_of (node_at s) n)
  node-by-level = rw (← tree-coded) (by_level (operand_tree (node_at s) n) f.a f.b f.c (four± s (16 * n + 8)) f.code)

  pub node-told : Told f.a f.b f.c f.code (node_at s n)
  node-told = rw (← coded-at s n f h) (told-by f.a f.b f.c (four± s (16 * n + 8)) f.code)

-- by the bytes of its record
abbrev pub fields : List ℕ → ℕ → Fields
fields s n = record { code = byte s (16 * n + 1); a = two s (16 * n + 2); b = two s (16 * n + 4); c = two s (16 * n + 6) }

pub record-by-level : (s : List ℕ) (n : ℕ) → ByLevel (operand_tree (node_at s) n) (two s (16 * n + 2)) (two s (16 * n + 4)) (two s (16 * n + 6)) (four± s (16 * n + 8)) (byte s (16 * n + 1)) (tree_of (node_at s) n)
record-by-level s n = node-by-level s n (fields s n) (record { code = refl; a = refl; b = refl; c = refl })

pub record-told : (s : List ℕ) (n : ℕ) → Told (two s (16 * n + 2)) (two s (16 * n + 4)) (two s (16 * n + 6)) (byte s (16 * n + 1)) (node_at s n)
record-told s n = node-told s n (fields s n) (record { code = refl; a = refl; b = refl; c = refl })

-- the sort that is asked for, by the code
pub sort-told : (s : List ℕ) (n : ℕ) (sort : Sort) → code_sort (byte s (16 * n + 1)) sort ≡ same_sort sort (sort_of (node_at s n))
sort-told s n a_number = number_at s n
sort-told s n a_truth = truth-at s n
sort-told s n neither = refl

-- the text of an operand that is a negation, where a negation takes it
pub negated-operand : (s : List ℕ) (n a : ℕ) → a < n → byte s (16 * a + 1) ≡ 19 → text_of (negation (operand_tree (node_at s) a (two s (16 * a + 2)))) ≡ text_in 1 (operand_tree (node_at s) n a)
unfolding case_of
negated-operand s n a h e =
    let t = (record-by-level s a).is_negation (ap code_level e) in
    ap text_of t ∙ bare-operand (node_at s) n 1 a h (omega (arith, ap level t))

-- ---- signs

one_of : (Q : ℕ → Type 0) (code k : ℕ) → Q k → (eqb code k ≡ false → Q code) → Q code
one_of Q code k q r = go (eqb code k) refl
  where
    go : (t : Bool) → eqb code k ≡ t → Q code
    go true e = subst Q (sym (eqb-true code k e)) q
    go false e = r e

pub sign-bytes : (code : ℕ) → sign_bytes (first_byte code) (second_byte code) ≡ sign (code_binary code)
unfolding case_of
sign-bytes code =
    let Q : ℕ → Type 0 = λ k. sign_bytes (first_byte k) (second_byte k) ≡ sign (code_binary k) in
    one_of Q code 3 refl (λ n3.
    one_of Q code 4 refl (λ n4.
    one_of Q code 5 refl (λ n5.
    one_of Q code 6 refl (λ n6.
    one_of Q code 7 refl (λ n7.
    one_of Q code 16 refl (λ n16.
    one_of Q code 17 refl (λ n17.
    one_of Q code 18 refl (λ n18.
    one_of Q code 20 refl (λ n20.
    rw (n3, n4, n5, n6, n7, n16, n17, n18, n20))))))))))

pub sign-told : (code : ℕ) {first : ℕ} {second : Option ℕ} → first ≡ first_byte code → second ≡ second_byte code → sign_bytes first second ≡ sign (code_binary code)
sign-told code e f = (λ i. sign_bytes (e i) (f i)) ∙ sign-bytes code
