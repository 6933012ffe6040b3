-- How many records the twin of an accepted set has of each kind: never more than an automata file may have. Assumes nothing.
use mathlib.Core.Path.{◌≡◌, refl, sym, ap, ◌∙◌}
use mathlib.Core.Logic.{◌⊎◌, inl, inr}
use mathlib.Core.Option.{none}
use mathlib.Core.Bool.{Bool, true, false, cond, ◌&&◌}
use mathlib.Core.List.{List, [], ◌∷◌, ◌++◌, map}
use Prim.Native.Nat.{ℕ, ◌+◌, ◌-◌, ◌*◌, ◌≤◌, ◌<◌, zero-le}
use native.Mathlib.Nat.{le_trans}
use native.Mathlib.Omega.{arith}
use borrow.Author.Tests.{ltb-true}
use lib.Dec.{leb, ltb, eqb, eqb→eq}
use lib.ListN.{length, length-append, length-map}
use Rattle.prelude.specs.Lists.{keep, count, gather, upto}
use Rattle.prelude.proofs.Counts.{length-keep}
use Rattle.model.specs.Limits.{most_edges, most_literals, most_clocks, most_updates, most_resets, most_priorities, most_owned}
use Rattle.prelude.specs.Owned.{of}
use Rattle.model.specs.ChartSet as C
use Rattle.model.specs.ChartSet.{ChartSet, Trigger, read_charts, transition, no_transition, waits}
use Rattle.model.specs.Charts.{ticks}
use Rattle.model.specs.AutomataTable as A
use Rattle.model.specs.ChartFile.{charts_refusal, leaving_state, between}
use Rattle.prelude.specs.Lists.{bit}
use Rattle.model.specs.Translation.{Origin, from_transition, from_waiting, from_idling, clocks_of, state_count, transition_count, idle_origins, origins, by_edge, transition_clocks, waiting_clocks, clock_of, waiting_clock, literal, tried_before, must_nots, waiting_literal, literals_of, updates_of, clocks_leaving, resets_of, twin}
use Rattle.prelude.proofs.Bools.{and_left, of-true, eqb_comm, eqb-ne}
use Rattle.prelude.proofs.Lists.{length-gather, all-mapped, all_keep}
use Rattle.model.proofs.TranslationOrigins.{waits_one, origins-count, idle-length, edges-count, by_edge-sum}
use Rattle.prelude.proofs.Sums.{sum_from, sum-le, sum_alike, sum-add, sum-most, sum-least, sum-swap, sum-zero, count-from, once-most, once-least, count-keep, count-append, count-places, count-below, distinct-few, length-gathered, length-of}
use Rattle.model.proofs.ChartFile.{coded_transition, coded_trigger, states-few, transitions-few, transitions-coded, source_in, target-in, priority-low, priorities-differ, state-actions-few, transition-actions-few}

pub clocks_of-few : (g : Trigger) → length (clocks_of g) ≤ 1
clocks_of-few C.always = zero-le
clocks_of-few (C.event e) = zero-le
clocks_of-few (C.after ms) = omega arith
clocks_of-few (C.every ms) = omega arith

-- Of two things with the same key at most one is below the other, and if they are one thing, none.
one_way : (a b p q : ℕ) (w : Bool) → (w ≡ true → a ≡ b) → (w ≡ true → p ≡ q) → bit (eqb b a && ltb q p) + bit (eqb a b && ltb p q) + bit w ≤ bit (eqb b a)
one_way a b p q w f g = rw (eqb_comm a b) (go (eqb b a) refl (ltb q p) refl (ltb p q) refl w f g)
  where
    go : (x : Bool) → eqb b a ≡ x → (y : Bool) → ltb q p ≡ y → (z : Bool) → ltb p q ≡ z → (w : Bool) → (w ≡ true → a ≡ b) → (w ≡ true → p ≡ q) → bit (x && y) + bit (x && z) + bit w ≤ bit x
    go false ex y ey z ez true f g = let d : b ≡ a → ⊥ = eqb-ne ex in absurd (d (sym (f refl)))
    go false ex y ey z ez false f g = omega arith
    go true ex true ey true ez w f g = let l : q < p = ltb-true q p ey in let m : p < q = ltb-true p q ez in absurd (omega arith)
    go true ex true ey false ez true f g = let l : q < p = ltb-true q p ey in let m : p ≡ q = g refl in absurd (omega arith)
    go true ex true ey false ez false f g = omega arith
    go true ex false ey true ez true f g = let l : p < q = ltb-true p q ez in let m : p ≡ q = g refl in absurd (omega arith)
    go true ex false ey true ez false f g = omega arith
    go true ex false ey false ez true f g = omega arith
    go true ex false ey false ez false f g = omega arith

-- ---- any set

module _ (cs : ChartSet) where
  -- those that leave a state, by number
  abbrev pub leaves : ℕ → ℕ → Bool
  leaves z u = eqb (transition cs u).source z

  abbrev pub leavers : ℕ → ℕ
  leavers z = count (leaves z) (upto (transition_count cs))

  pub leavers-are : (z : ℕ) → leavers z ≡ length (leaving_state cs z)
  leavers-are z = count-places (λ t. eqb t.source z) no_transition cs.transitions ∙ sym (length-keep (λ t. eqb t.source z) cs.transitions)

  -- ---- must-nots

  abbrev rank : ℕ → ℕ
  rank u = (transition cs u).priority

  abbrev before : ℕ → ℕ → ℕ → Bool
  before z p u = leaves z u && ltb (rank u) p

  abbrev ranked : ℕ → ℕ → List ℕ
  ranked z q = keep (λ u. leaves z u && eqb (rank u) q) (upto (transition_count cs))

  -- the leaving transitions of lower priority numbers
  pub tried_before-length : (z p : ℕ) → 1 ≤ p → length (tried_before cs z p) ≤ count (before z p) (upto (transition_count cs))
  tried_before-length z p h = omega (arith, length-gathered (ranked z) 1 (p - 1), each, count-below rank (keep (leaves z) (upto (transition_count cs))) 1 (p - 1), whole)
    where
      each : sum_from (λ q. length (ranked z q)) 1 (p - 1) ≡ sum_from (λ q. count (λ u. eqb (rank u) q) (keep (leaves z) (upto (transition_count cs)))) 1 (p - 1)
      each =
          sum_alike (λ q. length (ranked z q)) (λ q. count (λ u. eqb (rank u) q) (keep (leaves z) (upto (transition_count cs)))) 1 (p - 1)
          (λ q x y. length-keep (λ u. leaves z u && eqb (rank u) q) (upto (transition_count cs)) ∙ sym (count-keep (leaves z) (λ u. eqb (rank u) q) (upto (transition_count cs))))

      whole : count (λ u. ltb (rank u) (1 + (p - 1))) (keep (leaves z) (upto (transition_count cs))) ≡ count (before z p) (upto (transition_count cs))
      whole = ap (λ m. count (λ u. ltb (rank u) m) (keep (leaves z) (upto (transition_count cs)))) (let e : 1 + (p - 1) ≡ p = omega arith in e) ∙ count-keep (leaves z) (λ u. ltb (rank u) p) (upto (transition_count cs))

  -- no more than the leaving transitions
  pub tried_before-leavers : (z p : ℕ) → 1 ≤ p → length (tried_before cs z p) ≤ leavers z
  tried_before-leavers z p h =
      le_trans (tried_before-length z p h)
      (rw (count-from (before z p) 0 (transition_count cs), count-from (leaves z) 0 (transition_count cs))
      (sum-le (λ u. bit (before z p u)) (λ u. bit (leaves z u)) 0 (transition_count cs) (λ u l. less (leaves z u) (ltb (rank u) p))))
    where
      less : (a b : Bool) → bit (a && b) ≤ bit a
      less true true = omega arith
      less true false = omega arith
      less false b = omega arith

  -- each transition leaves one state
  pub leavers-sum : (n : ℕ) → sum_from leavers 0 n ≤ transition_count cs
  leavers-sum n =
      omega (
        arith,
        sum_alike leavers (λ z. sum_from (λ u. bit (leaves z u)) 0 (transition_count cs)) 0 n (λ z x y. count-from (leaves z) 0 (transition_count cs)),
        sum-swap (λ z u. bit (leaves z u)) 0 n 0 (transition_count cs),
        sum-most (λ u. sum_from (λ z. bit (leaves z u)) 0 n) 1 0 (transition_count cs) (λ u l. once-most (transition cs u).source 0 n),
      )

  -- u is a must-not of t; all the must-nots of t; those of all
  abbrev pair : ℕ → ℕ → ℕ
  pair t u = bit (before (transition cs t).source (rank t) u)

  abbrev nots : ℕ → ℕ
  nots t = sum_from (pair t) 0 (transition_count cs)

  abbrev all_nots : ℕ
  all_nots = sum_from nots 0 (transition_count cs)

  -- Of two transitions at most one is a must-not of the other: in both orders, and with each transition itself, there are no more pairs than leaving
  -- transitions of the same state.
  pub leavers-pairs : all_nots + all_nots + transition_count cs ≤ sum_from (λ t. leavers (transition cs t).source) 0 (transition_count cs)
  leavers-pairs =
      omega (
        arith,
        sum-le (λ t. sum_from (λ u. pair t u + pair u t + bit (eqb t u)) 0 (transition_count cs)) (λ t. leavers (transition cs t).source) 0 (transition_count cs) (λ t l. of_one t),
        sum_alike (λ t. sum_from (λ u. pair t u + pair u t + bit (eqb t u)) 0 (transition_count cs)) (λ t. nots t + sum_from (λ u. pair u t) 0 (transition_count cs) + sum_from (λ u. bit (eqb t u)) 0 (transition_count cs)) 0 (transition_count cs)
            (λ t x y. sum-add (λ u. pair t u + pair u t) (λ u. bit (eqb t u)) 0 (transition_count cs) ∙ ap (λ m. m + sum_from (λ u. bit (eqb t u)) 0 (transition_count cs)) (sum-add (pair t) (λ u. pair u t) 0 (transition_count cs))),
        sum-add (λ t. nots t + sum_from (λ u. pair u t) 0 (transition_count cs)) (λ t. sum_from (λ u. bit (eqb t u)) 0 (transition_count cs)) 0 (transition_count cs),
        sum-add nots (λ t. sum_from (λ u. pair u t) 0 (transition_count cs)) 0 (transition_count cs),
        sum-swap (λ t u. pair u t) 0 (transition_count cs) 0 (transition_count cs),
        sum-least (λ t. sum_from (λ u. bit (eqb t u)) 0 (transition_count cs)) 0 (transition_count cs) (λ t l. once-least t 0 (transition_count cs) zero-le (omega arith)),
      )
    where
      of_one : (t : ℕ) → sum_from (λ u. pair t u + pair u t + bit (eqb t u)) 0 (transition_count cs) ≤ leavers (transition cs t).source
      of_one t =
          rw (count-from (leaves (transition cs t).source) 0 (transition_count cs))
          (sum-le (λ u. pair t u + pair u t + bit (eqb t u)) (λ u. bit (leaves (transition cs t).source u)) 0 (transition_count cs)
          (λ u l. one_way (transition cs t).source (transition cs u).source (rank t) (rank u) (eqb t u)
          (λ e. ap (λ v. (transition cs v).source) (eqb→eq t u (of-true e))) (λ e. ap rank (eqb→eq t u (of-true e)))))

  -- ---- of edges

  -- what the edges of a state's idling have together: where it waits, the due and the other
  idle-most : {A : Type 0} (f : Origin → List A) (z : ℕ) → length (gather f (idle_origins cs z)) ≤ length (f (from_waiting z)) + length (f (from_idling z))
  unfolding gather
  idle-most f z = go (waits_one cs z)
    where
      go : (waits cs z ≡ []) ⊎ ((ms : ℕ) × (waits cs z ≡ ms ∷ [])) → length (gather f (idle_origins cs z)) ≤ length (f (from_waiting z)) + length (f (from_idling z))
      go (inl w) = omega (arith, ap (λ l. length (gather f (map (λ _. from_waiting z) l ++ (from_idling z ∷ [])))) w, length-append (f (from_idling z)) [])
      go (inr w) =
          omega (
            arith,
            ap (λ l. length (gather f (map (λ _. from_waiting z) l ++ (from_idling z ∷ [])))) w.1,
            length-append (f (from_waiting z)) (f (from_idling z) ++ []),
            length-append (f (from_idling z)) [],
          )

  -- each transition's edge has at most m, those of each state's idling k
  pub by_edge-most : {A : Type 0} (f : Origin → List A) (m k : ℕ) → ((t : ℕ) → t < transition_count cs → length (f (from_transition t)) ≤ m) →
      ((z : ℕ) → z < state_count cs → length (f (from_waiting z)) + length (f (from_idling z)) ≤ k) → length (by_edge cs f) ≤ transition_count cs * m + state_count cs * k
  by_edge-most f m k h idle =
      omega (
        arith,
        by_edge-sum cs f,
        sum-most (λ t. length (f (from_transition t))) m 0 (transition_count cs) (λ t l. h t (omega arith)),
        sum-most (λ z. length (gather f (idle_origins cs z))) k 0 (state_count cs) (λ z l. le_trans (idle-most f z) (idle z (omega arith))),
      )

  -- ---- edges

  waits-few : (z : ℕ) → length (waits cs z) ≤ 1
  waits-few z = go (waits_one cs z)
    where
      go : (waits cs z ≡ []) ⊎ ((ms : ℕ) × (waits cs z ≡ ms ∷ [])) → length (waits cs z) ≤ 1
      go (inl w) = omega (arith, ap length w)
      go (inr w) = omega (arith, ap length w.1)

  pub origins-few : length (origins cs) ≤ transition_count cs + state_count cs * 2
  origins-few =
      omega (
        arith,
        origins-count cs,
        length-gathered (idle_origins cs) 0 (state_count cs),
        sum-most (λ z. length (idle_origins cs z)) 2 0 (state_count cs) (λ z l. omega (arith, idle-length cs z, waits-few z)),
      )

  -- ---- clocks

  pub clocks-length : length (twin cs).clocks ≤ transition_count cs + state_count cs
  clocks-length =
      omega (
        arith,
        length-append (transition_clocks cs) (gather (waiting_clocks cs) (upto (state_count cs))),
        length-gather (λ x. clocks_of x.trigger) (λ x. clocks_of-few x.trigger) cs.transitions,
        length-gathered (waiting_clocks cs) 0 (state_count cs),
        sum-most (λ z. length (waiting_clocks cs z)) 1 0 (state_count cs) (λ z l. omega (arith, length-map {B = A.Clock} (waits cs z) (λ ms. record { timing = A.every; ticks = ticks ms }), waits-few z)),
      )

  pub clocks_leaving-length : (z : ℕ) → length (clocks_leaving cs z) ≤ leavers z
  clocks_leaving-length z =
      rw (length-gathered (λ t. cond (leaves z t) (map (λ _. clock_of cs t) (clocks_of (transition cs t).trigger)) []) 0 (transition_count cs), count-from (leaves z) 0 (transition_count cs))
      (sum-le (λ t. length (cond (leaves z t) (map (λ _. clock_of cs t) (clocks_of (transition cs t).trigger)) [])) (λ t. bit (leaves z t)) 0 (transition_count cs) (λ t l. one t (leaves z t)))
    where
      one : (t : ℕ) (b : Bool) → length (cond b (map (λ _. clock_of cs t) (clocks_of (transition cs t).trigger)) []) ≤ bit b
      one t true = rw (length-map (clocks_of (transition cs t).trigger) (λ _. clock_of cs t)) (clocks_of-few (transition cs t).trigger)
      one t false = zero-le

-- ---- an accepted set

module _ (s : List ℕ) (ok : charts_refusal s ≡ none) where
  abbrev cs : ChartSet
  cs = read_charts s

  -- priorities from 1 to 16, no two equal
  pub leavers-few : (z : ℕ) → z < state_count cs → leavers cs z ≤ most_priorities
  leavers-few z h =
      omega (
        arith,
        leavers-are cs z,
        length-map (leaving_state cs z) (λ t. t.priority),
        distinct-few most_priorities (map (λ t. t.priority) (leaving_state cs z)) (priorities-differ s ok z h)
            (all-mapped coded_transition (λ p. leb 1 p && leb p most_priorities) (λ t. t.priority) (λ t u. and_left (between 1 most_priorities t.priority) (coded_trigger t.trigger) u) (leaving_state cs z)
            (all_keep coded_transition (λ t. eqb t.source z) cs.transitions (transitions-coded s ok))),
      )

  pub edges_few : length (twin cs).edges ≤ most_edges
  edges_few = omega (arith, edges-count cs, origins-few cs, transitions-few s ok, states-few s ok)

  pub clocks-few : length (twin cs).clocks ≤ most_clocks
  clocks-few = omega (arith, clocks-length cs, transitions-few s ok, states-few s ok)

  -- of one edge
  pub updates_of-few : (t : ℕ) → t < transition_count cs → length (updates_of cs (from_transition t)) ≤ 3 * most_owned
  updates_of-few t h =
      omega (
        arith,
        length-append (of source cs.exits ++ of t cs.transition_actions) (of target cs.entries),
        length-append (of source cs.exits) (of t cs.transition_actions),
        length-of source cs.exits,
        length-of t cs.transition_actions,
        length-of target cs.entries,
        count-append (λ x. eqb x.0 source) (cs.entries ++ cs.exits) cs.waiting_actions,
        count-append (λ x. eqb x.0 source) cs.entries cs.exits,
        count-append (λ x. eqb x.0 target) (cs.entries ++ cs.exits) cs.waiting_actions,
        count-append (λ x. eqb x.0 target) cs.entries cs.exits,
        state-actions-few s ok source (source_in s ok t h),
        state-actions-few s ok target (target-in s ok t h),
        transition-actions-few s ok t h,
      )
    where
      source : ℕ
      source = (transition cs t).source

      target : ℕ
      target = (transition cs t).target

  pub waiting_updates-few : (z : ℕ) → z < state_count cs → length (updates_of cs (from_waiting z)) ≤ most_owned
  waiting_updates-few z h = omega (arith, length-of z cs.waiting_actions, count-append (λ x. eqb x.0 z) (cs.entries ++ cs.exits) cs.waiting_actions, state-actions-few s ok z h)

  pub resets_of-few : (t : ℕ) → t < transition_count cs → length (resets_of cs (from_transition t)) ≤ most_priorities + 1
  resets_of-few t h =
      omega (
        arith,
        length-append (clocks_leaving cs (transition cs t).target) (map (λ _. waiting_clock cs (transition cs t).target) (waits cs (transition cs t).target)),
        length-map (waits cs (transition cs t).target) (λ _. waiting_clock cs (transition cs t).target),
        waits-few cs (transition cs t).target,
        clocks_leaving-length cs (transition cs t).target,
        leavers-few (transition cs t).target (target-in s ok t h),
      )

  -- its must-nots, and its own
  pub literals_of-few : (t : ℕ) → t < transition_count cs → length (literals_of cs (from_transition t)) ≤ nots cs t + 1
  literals_of-few t h =
      omega (
        arith,
        length-append (map (literal cs false) (tried_before cs (transition cs t).source (transition cs t).priority)) (literal cs true t ∷ []),
        length-map (tried_before cs (transition cs t).source (transition cs t).priority) (literal cs false),
        tried_before-length cs (transition cs t).source (transition cs t).priority (priority-low s ok t h),
        count-from (before cs (transition cs t).source (transition cs t).priority) 0 (transition_count cs),
      )

  must_nots-few : (z : ℕ) → length (must_nots cs z) ≤ leavers cs z
  must_nots-few z = rw (length-map (tried_before cs z (most_priorities + 1)) (literal cs false)) (tried_before-leavers cs z (most_priorities + 1) (omega arith))

  -- of the idling in a state: the must-nots and the clock, twice
  pub idle_literals-few : (z : ℕ) → length (literals_of cs (from_waiting z)) + length (literals_of cs (from_idling z)) ≤ leavers cs z + leavers cs z + 2
  idle_literals-few z =
      omega (
        arith,
        length-append (must_nots cs z) (waiting_literal cs true z ∷ []),
        length-append (must_nots cs z) (map (λ _. waiting_literal cs false z) (waits cs z)),
        length-map (waits cs z) (λ _. waiting_literal cs false z),
        waits-few cs z,
        must_nots-few z,
      )

  -- all together
  pub updates-few : length (twin cs).updates ≤ most_updates
  updates-few = omega (arith, by_edge-most cs (updates_of cs) (3 * most_owned) most_owned updates_of-few (λ z h. omega (arith, waiting_updates-few z h)), transitions-few s ok, states-few s ok)

  pub resets-few : length (twin cs).resets ≤ most_resets
  resets-few = omega (arith, by_edge-most cs (resets_of cs) (most_priorities + 1) 0 resets_of-few (λ z h. omega arith), transitions-few s ok, states-few s ok)

  -- Two transitions have at most 15 must-nots and 2 literals of their own, and the idle edges of their states 4 for them: 21 for two, 2,688 for 256; and the clocks of 128 states are read twice, 2,944 in all.
  pub literals-few : length (twin cs).literals ≤ most_literals
  literals-few =
      omega (
        arith,
        by_edge-sum cs (literals_of cs),
        sum-le (λ t. length (literals_of cs (from_transition t))) (λ t. nots cs t + 1) 0 (transition_count cs) (λ t l. literals_of-few t (omega arith)),
        sum-add (nots cs) (λ t. 1) 0 (transition_count cs),
        sum-most (λ t. 1) 1 0 (transition_count cs) (λ t l. omega arith),
        sum-le (λ z. length (gather (literals_of cs) (idle_origins cs z))) (λ z. leavers cs z + leavers cs z + 2) 0 (state_count cs) (λ z l. le_trans (idle-most cs (literals_of cs) z) (idle_literals-few z)),
        sum-add (λ z. leavers cs z + leavers cs z) (λ z. 2) 0 (state_count cs),
        sum-add (leavers cs) (leavers cs) 0 (state_count cs),
        sum-most (λ z. 2) 2 0 (state_count cs) (λ z l. omega arith),
        states-few s ok,
        leavers-sum cs (state_count cs),
        leavers-pairs cs,
        sum-most (λ t. leavers cs (transition cs t).source) most_priorities 0 (transition_count cs) (λ t l. leavers-few (transition cs t).source (source_in s ok t (omega arith))),
        transitions-few s ok,
      )
