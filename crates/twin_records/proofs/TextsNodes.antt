-- A node's record in an accepted file is written as it stands: its operator is known, and what the operator does not use is zero. Assumes nothing.
use mathlib.Core.Path.{◌≡◌, refl, sym, ap, ◌∙◌}
use mathlib.Core.Bool.{Bool, true, false, not, ◌||◌}
use mathlib.Core.List.{List, [], ◌∷◌, ◌++◌, map}
use Prim.Native.Nat.{ℕ, zero, suc, ◌+◌, ◌-◌, ◌*◌, ◌^◌, ◌≤◌, ◌<◌}
use native.Mathlib.Omega.{arith}
use borrow.Author.Tests.{eqb-true, eqb-false, leb-true}
use lib.Dec.{T, eqb}
use lib.ListN.{get_or, take, drop}
use lib.Seq.{get_or-take, get_or-drop}
use Rattle.prelude.specs.Lists.{all, case_of}
use Rattle.records.specs.Bytes.{byte, two, four, four±, bytes2, bytes4, records, kind, of_kind}
use Rattle.records.specs.Refusal.{odd_length}
use Rattle.records.proofs.Records.{record_at, byte-record}
use Rattle.records.proofs.RoundTrips.{two-record, four-record, unsigned_signed}
use Rattle.prelude.proofs.Counts.{and-true}
use Rattle.framing.proofs.Framed.{length-of_kind, framed-thing}
use Rattle.expressions.specs.Nodes.{node_by, read_node, node_at, write_node}
use Rattle.model.specs.ChartFile.{zero_bytes, between, unused_transition, unused_variable, unused_node, unused_action, unused, unused_are_zero, transition_in_code, variable_in_code, node_in_code, action_in_code, in_code, chart_limits, chart_tests}
use Rattle.prelude.proofs.Bools.{is_true, not-not}
use Rattle.prelude.proofs.Lists as M
use Rattle.model.proofs.ChartFile.{lowest-none}
use Rattle.chart_records.specs.declared.Shape.{Shape}
use Rattle.chart_records.specs.Places.{first_node, node_part}
use Rattle.chart_records.proofs.Places.{node-part}
use Rattle.chart_records.proofs.PlacesRead.{first-node}
use Rattle.chart_records.specs.Accepted.{Accepted}
use Rattle.chart_steps.proofs.Accepted.{all_get_d, all-kept}

-- bytes 1 to 15, from the fields as they are read
abbrev pub node_text : ℕ → ℕ → ℕ → ℕ → ℕ → List ℕ
node_text code a b c z = code ∷ bytes2 a ++ bytes2 b ++ bytes2 c ++ bytes4 z ++ (0 ∷ 0 ∷ 0 ∷ 0 ∷ [])

zero_in : (l : List ℕ) (j : ℕ) → all (λ b. eqb b 0) l ≡ true → get_or l j 0 ≡ 0
unfolding all
zero_in [] j t = refl
zero_in (x ∷ xs) zero t = eqb-true x 0 (and-true (eqb x 0) (all (λ b. eqb b 0) xs) t).0
zero_in (x ∷ xs) (suc j) t = zero_in xs j (and-true (eqb x 0) (all (λ b. eqb b 0) xs) t).1

module _ (r : List ℕ) where
  byte-zero : (x e k : ℕ) → zero_bytes x e r ≡ true → x ≤ k → k ≤ e → byte r k ≡ 0
  byte-zero x e k t l h =
      ap (byte r) (let q : k ≡ x + (k - x) = omega arith in q)
      ∙ sym (get_or-take (e + 1 - x) (drop x r) (k - x) 0 (omega arith) ∙ get_or-drop x r (k - x) 0)
      ∙ zero_in (take (e + 1 - x) (drop x r)) (k - x) t

  two-zero : (x e k : ℕ) → zero_bytes x e r ≡ true → x ≤ k → k + 1 ≤ e → two r k ≡ 0
  two-zero x e k t l h = omega (arith, byte-zero x e k t l (omega arith), byte-zero x e (k + 1) t (omega arith) h)

  constant-zero : (x : ℕ) → zero_bytes x 11 r ≡ true → x ≤ 8 → four r 8 ≡ 0
  constant-zero x t l = omega (arith, two-zero x 11 8 t l (omega arith), two-zero x 11 10 t (omega arith) (omega arith))

  -- what an operator leaves unused
  abbrev ranges : ℕ → List (ℕ × ℕ)
  ranges code =
      case_of code
      ((1, (2, 7) ∷ []) ∷ (2, (4, 11) ∷ []) ∷ (8, (8, 11) ∷ []) ∷ (19, (4, 11) ∷ [])
      ∷ map (λ o. (o, (6, 11) ∷ [])) (3 ∷ 4 ∷ 5 ∷ 6 ∷ 7 ∷ 16 ∷ 17 ∷ 18 ∷ 20 ∷ 21 ∷ [])) []

  module _ (low : four r 8 < 2 ^ 32) (coded : node_in_code r ≡ true) (clean : unused_are_zero (unused_node r) r ≡ true) where
    abbrev Copied : Type 0
    Copied = node_text (byte r 1) (two r 2) (two r 4) (two r 6) (four r 8) ≡ write_node (read_node r)

    clean-range : (k x e : ℕ) → byte r 1 ≡ k → ranges k ≡ (x, e) ∷ [] → zero_bytes x e r ≡ true
    unfolding all
    clean-range k x e is q =
        let t : all (λ y. zero_bytes y.0 y.1 r) (ranges (byte r 1)) ≡ true = (and-true (zero_bytes 12 15 r) (all (λ y. zero_bytes y.0 y.1 r) (ranges (byte r 1))) clean).1 in
        (and-true (zero_bytes x e r) true (sym (ap (all (λ y. zero_bytes y.0 y.1 r)) (ap ranges is ∙ q)) ∙ t)).0

    same : (k a b c z : ℕ) → byte r 1 ≡ k → two r 2 ≡ a → two r 4 ≡ b → two r 6 ≡ c → four r 8 ≡ z → node_text k a b c z ≡ write_node (node_by k (two r 2) (two r 4) (two r 6) (four± r 8)) → Copied
    same k a b c z is p q s t w =
        (λ i. node_text (is i) (p i) (q i) (s i) (t i)) ∙ w ∙ ap (λ o. write_node (node_by o (two r 2) (two r 4) (two r 6) (four± r 8))) (sym is)

    -- with a constant; with one operand; with two; with three
    constant-copied : byte r 1 ≡ 1 → Copied
    unfolding case_of
    constant-copied is =
        let t : zero_bytes 2 7 r ≡ true = clean-range 1 2 7 is refl in
        same 1 0 0 0 (four r 8) is (two-zero 2 7 2 t (omega arith) (omega arith)) (two-zero 2 7 4 t (omega arith) (omega arith)) (two-zero 2 7 6 t (omega arith) (omega arith)) refl
        (ap (node_text 1 0 0 0) (sym (unsigned_signed (2 ^ 31) (four r 8) low)))

    one : (k : ℕ) → byte r 1 ≡ k → ranges k ≡ (4, 11) ∷ [] → node_text k (two r 2) 0 0 0 ≡ write_node (node_by k (two r 2) (two r 4) (two r 6) (four± r 8)) → Copied
    one k is q w =
        let t : zero_bytes 4 11 r ≡ true = clean-range k 4 11 is q in
        same k (two r 2) 0 0 0 is refl (two-zero 4 11 4 t (omega arith) (omega arith)) (two-zero 4 11 6 t (omega arith) (omega arith)) (constant-zero 4 t (omega arith)) w

    pair : (k : ℕ) → byte r 1 ≡ k → ranges k ≡ (6, 11) ∷ [] → node_text k (two r 2) (two r 4) 0 0 ≡ write_node (node_by k (two r 2) (two r 4) (two r 6) (four± r 8)) → Copied
    pair k is q w =
        let t : zero_bytes 6 11 r ≡ true = clean-range k 6 11 is q in
        same k (two r 2) (two r 4) 0 0 is refl refl (two-zero 6 11 6 t (omega arith) (omega arith)) (constant-zero 6 t (omega arith)) w

    choice-copied : byte r 1 ≡ 8 → Copied
    unfolding case_of
    choice-copied is = same 8 (two r 2) (two r 4) (two r 6) 0 is refl refl refl (constant-zero 8 (clean-range 8 8 11 is refl) (omega arith)) refl

    by-operator : (k : ℕ) → (byte r 1 ≡ k → Copied) → ((byte r 1 ≡ k → ⊥) → Copied) → Copied
    by-operator k hit miss = go (eqb (byte r 1) k) refl
      where
        go : (b : Bool) → eqb (byte r 1) k ≡ b → Copied
        go true e = hit (eqb-true (byte r 1) k e)
        go false e = miss (eqb-false (byte r 1) k e)

    from-sixteen : 16 ≤ byte r 1 → byte r 1 ≤ 21 → Copied
    unfolding case_of
    from-sixteen l m =
        by-operator 16 (λ e. pair 16 e refl refl) (λ n16.
        by-operator 17 (λ e. pair 17 e refl refl) (λ n17.
        by-operator 18 (λ e. pair 18 e refl refl) (λ n18.
        by-operator 19 (λ e. one 19 e refl refl) (λ n19.
        by-operator 20 (λ e. pair 20 e refl refl) (λ n20.
        pair 21 (omega arith) refl refl)))))

    from-five : 5 ≤ byte r 1 → byte r 1 ≤ 8 → Copied
    unfolding case_of
    from-five l m =
        by-operator 5 (λ e. pair 5 e refl refl) (λ n5.
        by-operator 6 (λ e. pair 6 e refl refl) (λ n6.
        by-operator 7 (λ e. pair 7 e refl refl) (λ n7.
        choice-copied (omega arith))))

    from_one : 1 ≤ byte r 1 → byte r 1 ≤ 8 → Copied
    unfolding case_of
    from_one l m =
        by-operator 1 constant-copied (λ n1.
        by-operator 2 (λ e. one 2 e refl refl) (λ n2.
        by-operator 3 (λ e. pair 3 e refl refl) (λ n3.
        by-operator 4 (λ e. pair 4 e refl refl) (λ n4.
        from-five (omega arith) m))))

    pub node-copied : Copied
    node-copied = go (between 1 8 (byte r 1)) refl coded
      where
        go : (b : Bool) → between 1 8 (byte r 1) ≡ b → (b || between 16 21 (byte r 1)) ≡ true → Copied
        go true e t = let h = and-true _ _ e in from_one (leb-true 1 (byte r 1) h.0) (leb-true (byte r 1) 8 h.1)
        go false e t = let h = and-true _ _ t in from-sixteen (leb-true 16 (byte r 1) h.0) (leb-true (byte r 1) 21 h.1)

-- ---- the nodes of an accepted file

module _ (s : List ℕ) (sh : Shape) (ok : Accepted s sh) where
  off : (k : ℕ) → k < 10 → T (not (get_or (chart_tests s) k (odd_length, false)).1)
  off k h = M.all_get_d (λ x. not x.1) (chart_tests s) (odd_length, false) k (lowest-none (chart_tests s) ok.unrefused) h

  clean-records : all (λ r. unused_are_zero (unused r) r) (records s) ≡ true
  clean-records = is_true (not-not (all (λ r. unused_are_zero (unused r) r) (records s)) (off 3 (omega arith)))

  coded-records : all in_code (records s) ≡ true
  coded-records = is_true (not-not (all in_code (records s)) (off 4 (omega arith)))

  module _ (n : ℕ) (h : n < sh.nodes) where
    abbrev m : ℕ
    m = first_node sh + n

    of_node : (p q : List ℕ → Bool) → ((r : List ℕ) → kind r ≡ 5 → p r ≡ q r) → all p (records s) ≡ true → q (record_at s m) ≡ true
    of_node p q same t =
        ap q (sym (framed-thing 1 chart_limits s ok.shape.framed 5 n (omega (arith, ok.shape.nodes)) ∙ ap (λ k. record_at s (k + n)) (first-node s sh ok.shape)))
        ∙ all_get_d q (of_kind 5 s) [] n (all-kept p q (λ r. eqb (kind r) 5) (λ r e. same r (eqb-true (kind r) 5 e)) (records s) t) (omega (arith, length-of_kind 5 s, ok.shape.nodes))

    node-clean : unused_are_zero (unused_node (record_at s m)) (record_at s m) ≡ true
    unfolding case_of
    node-clean =
        of_node (λ r. unused_are_zero (unused r) r) (λ r. unused_are_zero (unused_node r) r)
        (λ r e. ap (λ k. unused_are_zero (case_of k ((1, (1, 1) ∷ (4, 15) ∷ []) ∷ (2, (2, 15) ∷ []) ∷ (3, unused_transition r) ∷ (4, unused_variable) ∷ (5, unused_node r) ∷ (6, unused_action r) ∷ []) []) r) e) clean-records

    node-coded : node_in_code (record_at s m) ≡ true
    unfolding case_of
    node-coded =
        of_node in_code node_in_code (λ r e. ap (λ k. case_of k ((3, transition_in_code r) ∷ (4, variable_in_code r) ∷ (5, node_in_code r) ∷ (6, action_in_code r) ∷ []) true) e) coded-records

    pub node-text : four s (16 * m + 8) < 2 ^ 32 →
        node_text (byte s (16 * m + 1)) (two s (16 * m + 2)) (two s (16 * m + 4)) (two s (16 * m + 6)) (four s (16 * m + 8)) ≡ write_node (node_at (node_part s sh) n)
    node-text low =
        (λ i. node_text (sym (byte-record s m 1 (omega arith)) i) (sym (two-record s m 2 (omega arith)) i) (sym (two-record s m 4 (omega arith)) i) (sym (two-record s m 6 (omega arith)) i) (sym (four-record s m 8 (omega arith)) i))
        ∙ node-copied (record_at s m) (omega (arith, low, four-record s m 8 (omega arith))) node-coded node-clean
        ∙ ap write_node (node-part s (first_node sh) sh.nodes n h)
