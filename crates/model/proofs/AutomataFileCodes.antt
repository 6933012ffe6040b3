-- Unused bytes and codes of a file that was written, of any automata whose things have codes. Assumes nothing.
use mathlib.Core.Path.{sym, subst}
use mathlib.Core.Option.{Option, some, none}
use mathlib.Core.Bool.{Bool, true, false, ◌&&◌}
use mathlib.Core.List.{List, [], ◌∷◌, map}
use Prim.Native.Nat.{ℕ}
use lib.Dec.{T, leb}
use Rattle.prelude.specs.Lists.{all, case_of, bit}
use Rattle.records.specs.Bytes.{bytes2, records}
use Rattle.arithmetic.specs.Operators as O
use Rattle.expressions.specs.Nodes as N
use Rattle.expressions.specs.Nodes.{Node, write_node}
use Rattle.model.specs.Runs.{Variable, Deed, assign, raise, Action}
use Rattle.model.specs.ChartFile.{unused_are_zero, is_event}
use Rattle.model.specs.AutomataTable as A
use Rattle.model.specs.AutomataTable.{Automata, Edge, Literal, LiteralTrigger, Clock, sections, write_automata, write_edge, write_literal, write_clock, write_variable, write_update, write_reset}
use Rattle.model.specs.AutomataFile.{unused_in_table, table_in_code}
use Rattle.prelude.proofs.Bools.{and_left, and_right, both_of}
use Rattle.prelude.proofs.Lists.{all-gather, all_cons, all_nil}
use Rattle.model.proofs.AutomataTableRecords.{record_of, records_of, written-records}
use Rattle.model.proofs.AutomataTableRead.{fits_variable, variable-back}
use Rattle.model.proofs.ChartFile.{ordered, known_node, coded_deed}

-- a test of a kind's records, of each thing that passes another
section-passes : {A : Type 0} (q : List ℕ → Bool) (k : ℕ) (wr : A → List ℕ) (p : A → Bool) → ((x : A) → T (p x) → T (q (record_of k (wr x)))) → (xs : List A) → T (all p xs) →
    T (all q (records_of (k, map wr xs)))
unfolding all
section-passes q k wr p h [] t = tt
section-passes q k wr p h (x ∷ xs) t =
    both_of (q (record_of k (wr x))) (all q (records_of (k, map wr xs))) (h x (and_left (p x) (all p xs) t)) (section-passes q k wr p h xs (and_right (p x) (all p xs) t))

section-all-pass : {A : Type 0} (q : List ℕ → Bool) (k : ℕ) (wr : A → List ℕ) → ((x : A) → T (q (record_of k (wr x)))) → (xs : List A) → T (all q (records_of (k, map wr xs)))
unfolding all
section-all-pass q k wr h [] = tt
section-all-pass q k wr h (x ∷ xs) = both_of (q (record_of k (wr x))) (all q (records_of (k, map wr xs))) (h x) (section-all-pass q k wr h xs)

-- a test of all records, section by section
records-pass : (au : Automata) (q : List ℕ → Bool) →
    T (all q (records_of (33, map (λ i. 0 ∷ bytes2 i) au.initial))) →
    T (all q (records_of (34, map (λ h. h ∷ []) au.homes))) →
    T (all q (records_of (35, map write_edge au.edges))) →
    T (all q (records_of (36, map write_literal au.literals))) →
    T (all q (records_of (37, map write_clock au.clocks))) →
    T (all q (records_of (38, map write_variable au.variables))) →
    T (all q (records_of (39, map write_node au.nodes))) →
    T (all q (records_of (40, map write_update au.updates))) →
    T (all q (records_of (41, map write_reset au.resets))) → T (all q (records (write_automata au)))
records-pass au q t₁ t₂ t₃ t₄ t₅ t₆ t₇ t₈ t₉ =
    subst (λ rs. T (all q rs)) (sym (written-records au))
    (all-gather (λ x. all q (records_of x)) q records_of (λ x u. u) (sections au)
    (all_cons _ _ _ t₁ (all_cons _ _ _ t₂ (all_cons _ _ _ t₃ (all_cons _ _ _ t₄ (all_cons _ _ _ t₅ (all_cons _ _ _ t₆ (all_cons _ _ _ t₇ (all_cons _ _ _ t₈ (all_cons _ _ _ t₉ (all_nil _)))))))))))

-- ---- 4

abbrev clean : List ℕ → Bool
clean r = unused_are_zero (unused_in_table r) r

clean-literal : (l : ℕ × Literal) → T (clean (record_of 36 (write_literal l)))
unfolding all case_of
clean-literal l = go l.1.trigger l.1.guard
  where
    go : (c : LiteralTrigger) (g : Option ℕ) → T (clean (record_of 36 (write_literal (l.0, record { must = l.1.must; trigger = c; guard = g }))))
    go A.always none = tt
    go A.always (some n) = tt
    go (A.event e) none = tt
    go (A.event e) (some n) = tt
    go (A.clock k) none = tt
    go (A.clock k) (some n) = tt

clean-node : (n : Node) → T (clean (record_of 39 (write_node n)))
unfolding all case_of
clean-node (N.constant z) = tt
clean-node (N.variable v) = tt
clean-node (N.arithmetic O.sum a b) = tt
clean-node (N.arithmetic O.difference a b) = tt
clean-node (N.arithmetic O.product a b) = tt
clean-node (N.arithmetic O.quotient a b) = tt
clean-node (N.arithmetic O.remainder a b) = tt
clean-node (N.choice t a b) = tt
clean-node (N.comparison O.equal a b) = tt
clean-node (N.comparison O.less a b) = tt
clean-node (N.comparison O.at_most a b) = tt
clean-node (N.negation a) = tt
clean-node (N.both a b) = tt
clean-node (N.either a b) = tt
clean-node N.unknown = tt

clean-update : (u : ℕ × Action) → T (clean (record_of 40 (write_update u)))
unfolding all case_of
clean-update u = go u.1.deed u.1.guard
  where
    go : (d : Deed) (g : Option ℕ) → T (clean (record_of 40 (write_update (u.0, record { guard = g; deed = d }))))
    go (assign v n) none = tt
    go (assign v n) (some m) = tt
    go (raise e) none = tt
    go (raise e) (some m) = tt

clean-initial : (i : ℕ) → T (clean (record_of 33 (0 ∷ bytes2 i)))
unfolding all case_of
clean-initial i = tt

clean-home : (h : ℕ) → T (clean (record_of 34 (h ∷ [])))
unfolding all case_of
clean-home h = tt

clean-edge : (e : Edge) → T (clean (record_of 35 (write_edge e)))
unfolding all case_of
clean-edge e = tt

clean-clock : (c : Clock) → T (clean (record_of 37 (write_clock c)))
unfolding all case_of
clean-clock c = tt

clean-variable : (v : Variable) → T (clean (record_of 38 (write_variable v)))
unfolding all case_of
clean-variable v = tt

clean-reset : (x : ℕ × ℕ) → T (clean (record_of 41 (write_reset x)))
unfolding all case_of
clean-reset x = tt

pub written-clean : (au : Automata) → T (all (λ r. unused_are_zero (unused_in_table r) r) (records (write_automata au)))
written-clean au =
    records-pass au clean
    (section-all-pass clean 33 (λ i. 0 ∷ bytes2 i) clean-initial au.initial)
    (section-all-pass clean 34 (λ h. h ∷ []) clean-home au.homes)
    (section-all-pass clean 35 write_edge clean-edge au.edges)
    (section-all-pass clean 36 write_literal clean-literal au.literals)
    (section-all-pass clean 37 write_clock clean-clock au.clocks)
    (section-all-pass clean 38 write_variable clean-variable au.variables)
    (section-all-pass clean 39 write_node clean-node au.nodes)
    (section-all-pass clean 40 write_update clean-update au.updates)
    (section-all-pass clean 41 write_reset clean-reset au.resets)

-- ---- 5

-- what a file has codes for
abbrev pub coded_literal_trigger : LiteralTrigger → Bool
coded_literal_trigger A.always = true
coded_literal_trigger (A.event e) = is_event e
coded_literal_trigger (A.clock k) = true

pub record Coded (au : Automata) : Type 0 where
  pub literals : T (all (λ x. coded_literal_trigger x.1.trigger) au.literals)
  pub variables : T (all (λ v. fits_variable v && ordered v) au.variables)
  pub nodes : T (all known_node au.nodes)
  pub updates : T (all (λ x. coded_deed x.1.deed) au.updates)

coded-initial : (i : ℕ) → T (table_in_code (record_of 33 (0 ∷ bytes2 i)))
unfolding case_of
coded-initial i = tt

coded-home : (h : ℕ) → T (table_in_code (record_of 34 (h ∷ [])))
unfolding case_of
coded-home h = tt

coded-edge : (e : Edge) → T (table_in_code (record_of 35 (write_edge e)))
unfolding case_of
coded-edge e = go e.idles
  where
    go : (b : Bool) → T (leb (bit b) 1)
    go true = tt
    go false = tt

coded-literal : (l : ℕ × Literal) → T (coded_literal_trigger l.1.trigger) → T (table_in_code (record_of 36 (write_literal l)))
unfolding case_of
coded-literal l t = go l.1.must l.1.trigger l.1.guard t
  where
    go : (m : Bool) (c : LiteralTrigger) (g : Option ℕ) → T (coded_literal_trigger c) → T (table_in_code (record_of 36 (write_literal (l.0, record { must = m; trigger = c; guard = g }))))
    go true A.always g t = tt
    go false A.always g t = tt
    go true (A.event e) g t = t
    go false (A.event e) g t = t
    go true (A.clock k) g t = tt
    go false (A.clock k) g t = tt

coded-clock : (c : Clock) → T (table_in_code (record_of 37 (write_clock c)))
unfolding case_of
coded-clock c = go c.timing
  where
    go : (k : A.Timing) → T (table_in_code (record_of 37 (write_clock (record { timing = k; ticks = c.ticks }))))
    go A.after = tt
    go A.every = tt

coded-variable : (v : Variable) → T (fits_variable v && ordered v) → T (table_in_code (record_of 38 (write_variable v)))
unfolding case_of
coded-variable v t = subst (λ w. T (ordered w)) (sym (variable-back v (and_left (fits_variable v) (ordered v) t))) (and_right (fits_variable v) (ordered v) t)

coded-node : (n : Node) → T (known_node n) → T (table_in_code (record_of 39 (write_node n)))
unfolding case_of
coded-node (N.constant z) t = tt
coded-node (N.variable v) t = tt
coded-node (N.arithmetic O.sum a b) t = tt
coded-node (N.arithmetic O.difference a b) t = tt
coded-node (N.arithmetic O.product a b) t = tt
coded-node (N.arithmetic O.quotient a b) t = tt
coded-node (N.arithmetic O.remainder a b) t = tt
coded-node (N.choice c a b) t = tt
coded-node (N.comparison O.equal a b) t = tt
coded-node (N.comparison O.less a b) t = tt
coded-node (N.comparison O.at_most a b) t = tt
coded-node (N.negation a) t = tt
coded-node (N.both a b) t = tt
coded-node (N.either a b) t = tt
coded-node N.unknown t = absurd t

coded-update : (u : ℕ × Action) → T (coded_deed u.1.deed) → T (table_in_code (record_of 40 (write_update u)))
unfolding case_of
coded-update u t = go u.1.deed t
  where
    go : (d : Deed) → T (coded_deed d) → T (table_in_code (record_of 40 (write_update (u.0, record { guard = u.1.guard; deed = d }))))
    go (assign v n) t = tt
    go (raise e) t = t

coded-reset : (x : ℕ × ℕ) → T (table_in_code (record_of 41 (write_reset x)))
unfolding case_of
coded-reset x = tt

pub written-coded : (au : Automata) → Coded au → T (all table_in_code (records (write_automata au)))
written-coded au ok =
    records-pass au table_in_code
    (section-all-pass table_in_code 33 (λ i. 0 ∷ bytes2 i) coded-initial au.initial)
    (section-all-pass table_in_code 34 (λ h. h ∷ []) coded-home au.homes)
    (section-all-pass table_in_code 35 write_edge coded-edge au.edges)
    (section-passes table_in_code 36 write_literal (λ x. coded_literal_trigger x.1.trigger) coded-literal au.literals ok.literals)
    (section-all-pass table_in_code 37 write_clock coded-clock au.clocks)
    (section-passes table_in_code 38 write_variable (λ v. fits_variable v && ordered v) coded-variable au.variables ok.variables)
    (section-passes table_in_code 39 write_node known_node coded-node au.nodes ok.nodes)
    (section-passes table_in_code 40 write_update (λ x. coded_deed x.1.deed) coded-update au.updates ok.updates)
    (section-all-pass table_in_code 41 write_reset coded-reset au.resets)
