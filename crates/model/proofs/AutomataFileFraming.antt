-- The framing of a file that was written, of any automata: whole records, kinds 33 to 41 in their order, and as many of each as there are things. Assumes nothing.
use mathlib.Core.Path.{◌≡◌, sym, ap, ◌∙◌, subst}
use mathlib.Core.Option.{none}
use mathlib.Core.Bool.{Bool, false, not, cond, ◌||◌}
use mathlib.Core.List.{List, [], ◌∷◌, ◌++◌, map, append-nil}
use Prim.Native.Nat.{ℕ, ◌*◌, ◌%◌, ◌≤◌, ◌<◌}
use native.Mathlib.Nat.{le_trans, le_refl}
use native.Mathlib.Omega.{arith}
use borrow.Author.Tests.{le-ltb, ne_eqb}
use lib.Dec.{T, leb, ltb, eqb, leb→le, le→leb}
use lib.ListN.{length, length-map}
use Rattle.model.specs.Limits.{most_edges, most_literals, most_clocks, most_updates, most_resets}
use Rattle.prelude.specs.Lists.{all, any, gather, map_from, ascending}
use Rattle.records.specs.Bytes.{bytes2, records, kind}
use Rattle.framing.specs.Framing.{known, how_many, has_odd_length, has_unordered_kinds, has_wrong_amounts, framing}
use Rattle.framing.proofs.Framed.{length-of_kind}
use Rattle.framing.proofs.FramingLaws.{is_none}
use Rattle.expressions.specs.Nodes.{write_node}
use Rattle.model.specs.AutomataTable.{Automata, sections, automata_records, write_automata, write_edge, write_literal, write_clock, write_variable, write_update, write_reset}
use Rattle.model.specs.AutomataFile.{automata_limits}
use Rattle.prelude.proofs.Bools.{and_left, and_right, both_of, is_true, eq→eqb}
use Rattle.prelude.proofs.Lists.{all-imp}
use Rattle.model.proofs.AutomataTableRecords.{record_of, records_of, written-records, length-written, written-kind}

-- ---- kinds that ascend

ascending-cons : (k : ℕ) (ks : List ℕ) → T (ascending ks) → T (all (λ j. leb k j) ks) → T (ascending (k ∷ ks))
unfolding ascending all
ascending-cons k [] t u = tt
ascending-cons k (j ∷ js) t u = both_of (leb k j) (ascending (j ∷ js)) (and_left (leb k j) (all (λ j. leb k j) js) u) t

-- what ascends is above its first
ascending-above : (k : ℕ) (ks : List ℕ) → T (ascending (k ∷ ks)) → T (all (λ j. leb k j) ks)
unfolding ascending all
ascending-above k [] t = tt
ascending-above k (j ∷ js) t =
    let l : k ≤ j = leb→le k j (and_left (leb k j) (ascending (j ∷ js)) t) in
    both_of (leb k j) (all (λ i. leb k i) js) (and_left (leb k j) (ascending (j ∷ js)) t)
    (all-imp (λ i. leb j i) (λ i. leb k i) (λ i u. let m : j ≤ i = leb→le j i u in le→leb k i (le_trans l m)) js (ascending-above j js (and_right (leb k j) (ascending (j ∷ js)) t)))

ascending-rest : (k : ℕ) (ks : List ℕ) → T (ascending (k ∷ ks)) → T (ascending ks)
unfolding ascending
ascending-rest k [] t = tt
ascending-rest k (j ∷ js) t = and_right (leb k j) (ascending (j ∷ js)) t

-- the records of one kind, and then what follows
module _ (k : ℕ) (rs : List (List ℕ)) where
  section-all : (p : ℕ → Bool) (bs : List (List ℕ)) → T (p k) → T (all p (map kind rs)) → T (all p (map kind (map (record_of k) bs ++ rs)))
  unfolding all
  section-all p [] t u = u
  section-all p (b ∷ bs) t u = both_of (p k) (all p (map kind (map (record_of k) bs ++ rs))) t (section-all p bs t u)

  section-ascends : (bs : List (List ℕ)) → T (ascending (map kind rs)) → T (all (λ j. leb k j) (map kind rs)) → T (ascending (map kind (map (record_of k) bs ++ rs)))
  section-ascends [] t u = t
  section-ascends (b ∷ bs) t u = ascending-cons k (map kind (map (record_of k) bs ++ rs)) (section-ascends bs t u) (section-all (λ j. leb k j) bs (le→leb k k (le_refl k)) u)

-- tests of the sections' kinds are tests of the records' kinds
kinds-all : (p : ℕ → Bool) (xs : List (ℕ × List (List ℕ))) → T (all p (map (λ x. x.0) xs)) → T (all p (map kind (gather records_of xs)))
unfolding all gather
kinds-all p [] t = tt
kinds-all p (x ∷ xs) t = section-all x.0 (gather records_of xs) p x.1 (and_left (p x.0) (all p (map (λ x. x.0) xs)) t) (kinds-all p xs (and_right (p x.0) (all p (map (λ x. x.0) xs)) t))

kinds-ascend : (xs : List (ℕ × List (List ℕ))) → T (ascending (map (λ x. x.0) xs)) → T (ascending (map kind (gather records_of xs)))
unfolding gather
kinds-ascend [] t = t
kinds-ascend (x ∷ xs) t =
    section-ascends x.0 (gather records_of xs) x.1 (kinds-ascend xs (ascending-rest x.0 (map (λ x. x.0) xs) t))
    (kinds-all (λ j. leb x.0 j) xs (ascending-above x.0 (map (λ x. x.0) xs) t))

-- ---- the three tests

-- so many of each kind as the file may have
pub record WithinLimits (au : Automata) : Type 0 where
  pub some_automaton : 0 < length au.initial
  pub automata : length au.initial ≤ 8
  pub locations : length au.homes ≤ 128
  pub edges : length au.edges ≤ most_edges
  pub literals : length au.literals ≤ most_literals
  pub clocks : length au.clocks ≤ most_clocks
  pub variables : length au.variables ≤ 64
  pub nodes : length au.nodes ≤ 1024
  pub updates : length au.updates ≤ most_updates
  pub resets : length au.resets ≤ most_resets

module _ (au : Automata) where
  pub written-even : has_odd_length 33 automata_limits (write_automata au) ≡ false
  written-even = ap not (eq→eqb even)
    where
      even : length (write_automata au) % 16 ≡ 0
      even = ap (λ n. n % 16) (length-written au) ∙ (let e : 16 * length (automata_records au) % 16 ≡ 0 = omega arith in e)

  pub written-ordered : has_unordered_kinds 33 automata_limits (write_automata au) ≡ false
  unfolding all ascending
  written-ordered =
      λ i. not (is_true {b = all (known 33 automata_limits) (map kind (records (write_automata au)))} in-kinds i) || not (is_true {b = ascending (map kind (records (write_automata au)))} in_order i)
    where
      in-kinds : T (all (known 33 automata_limits) (map kind (records (write_automata au))))
      in-kinds = subst (λ rs. T (all (known 33 automata_limits) (map kind rs))) (sym (written-records au)) (kinds-all (known 33 automata_limits) (sections au) tt)

      in_order : T (ascending (map kind (records (write_automata au))))
      in_order = subst (λ rs. T (ascending (map kind rs))) (sym (written-records au)) (kinds-ascend (sections au) tt)

  -- of a kind as many as there are things
  amount : {A : Type 0} (k : ℕ) (wr : A → List ℕ) (xs : List A) → gather (λ x. cond (eqb x.0 k) (records_of x) []) (sections au) ≡ map (record_of k) (map wr xs) →
      how_many k (write_automata au) ≡ length xs
  amount k wr xs e = sym (length-of_kind k (write_automata au)) ∙ ap length (written-kind au k ∙ e) ∙ length-map (map wr xs) (record_of k) ∙ length-map xs wr

  pub automata-written : how_many 33 (write_automata au) ≡ length au.initial
  unfolding gather
  automata-written = amount 33 (λ i. 0 ∷ bytes2 i) au.initial (append-nil _)

  pub locations-written : how_many 34 (write_automata au) ≡ length au.homes
  unfolding gather
  locations-written = amount 34 (λ h. h ∷ []) au.homes (append-nil _)

  pub edges-written : how_many 35 (write_automata au) ≡ length au.edges
  unfolding gather
  edges-written = amount 35 write_edge au.edges (append-nil _)

  pub literals-written : how_many 36 (write_automata au) ≡ length au.literals
  unfolding gather
  literals-written = amount 36 write_literal au.literals (append-nil _)

  pub clocks-written : how_many 37 (write_automata au) ≡ length au.clocks
  unfolding gather
  clocks-written = amount 37 write_clock au.clocks (append-nil _)

  pub variables-written : how_many 38 (write_automata au) ≡ length au.variables
  unfolding gather
  variables-written = amount 38 write_variable au.variables (append-nil _)

  pub nodes-written : how_many 39 (write_automata au) ≡ length au.nodes
  unfolding gather
  nodes-written = amount 39 write_node au.nodes (append-nil _)

  pub updates-written : how_many 40 (write_automata au) ≡ length au.updates
  unfolding gather
  updates-written = amount 40 write_update au.updates (append-nil _)

  pub resets-written : how_many 41 (write_automata au) ≡ length au.resets
  unfolding gather
  resets-written = amount 41 write_reset au.resets (append-nil _)

  module _ (within : WithinLimits au) where
    some_written : eqb (how_many 33 (write_automata au)) 0 ≡ false
    some_written = let l : 0 < length au.initial = within.some_automaton in ne_eqb (how_many 33 (write_automata au)) 0 (λ e. omega (arith, automata-written))

    few-written : (k m n : ℕ) → how_many k (write_automata au) ≡ n → n ≤ m → ltb m (how_many k (write_automata au)) ≡ false
    few-written k m n e h = le-ltb m (how_many k (write_automata au)) (omega arith)

    pub written-within : has_wrong_amounts 33 automata_limits (write_automata au) ≡ false
    unfolding any map_from
    written-within =
        λ i. some_written i || (
        few-written 33 8 (length au.initial) automata-written within.automata i || (
        few-written 34 128 (length au.homes) locations-written within.locations i || (
        few-written 35 most_edges (length au.edges) edges-written within.edges i || (
        few-written 36 most_literals (length au.literals) literals-written within.literals i || (
        few-written 37 most_clocks (length au.clocks) clocks-written within.clocks i || (
        few-written 38 64 (length au.variables) variables-written within.variables i || (
        few-written 39 1024 (length au.nodes) nodes-written within.nodes i || (
        few-written 40 most_updates (length au.updates) updates-written within.updates i || (
        few-written 41 most_resets (length au.resets) resets-written within.resets i || false)))))))))

    pub written-framed : framing 33 automata_limits (write_automata au) ≡ none
    written-framed = is_none 33 automata_limits (write_automata au) written-even written-ordered written-within
