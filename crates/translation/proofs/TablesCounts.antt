-- How many literals, updates and resets a twin has, counted transition by transition, and tables to whose places a loop adds. Assumes nothing.
use mathlib.Core.Path.{◌≡◌, refl, sym, ap, ◌∙◌}
use mathlib.Core.Option.{none}
use mathlib.Core.Logic.{◌⊎◌, inl, inr}
use mathlib.Core.Bool.{Bool, true, false, cond, ◌&&◌}
use mathlib.Core.List.{List, [], ◌∷◌, ◌++◌, map}
use Prim.Native.Nat.{ℕ, ◌+◌, ◌-◌, ◌*◌, ◌≤◌, ◌<◌}
use native.Mathlib.Nat.{add-zero, zero-add}
use native.Mathlib.Omega.{arith}
use borrow.Author.Tests.{lt-ltb, le-ltb, ltb-true, ltb-false, eqb-true, eqb-false, eq-eqb, ne_eqb}
use lib.Dec.{ltb, eqb}
use lib.ListN.{length, get_or, set, take, replicate, length-append, length-map, length-set, length-replicate, get_or-replicate}
use lib.Seq.{get_or-set_same, get_or-set_other}
use Rattle.prelude.specs.Lists.{bit, keep, count, gather, upto, case_of}
use Rattle.prelude.specs.Owned.{of}
use Rattle.prelude.proofs.Counts.{length-keep}
use Rattle.model.specs.Runs.{Action}
use Rattle.model.specs.ChartSet.{ChartSet, read_charts, transition, no_transition, waits}
use Rattle.model.specs.Charts.{ticks}
use Rattle.model.specs.AutomataTable.{Literal, Clock, every}
use Rattle.model.specs.ChartFile.{charts_refusal}
use Rattle.model.specs.Translation.{Origin, from_transition, from_waiting, from_idling, state_count, transition_count, idle_origins, by_edge, clocks_of, clock_of, waiting_clocks, literal, tried_before, must_nots, waiting_literal, literals_of, updates_of, clocks_leaving, waiting_clock, clocks_of_state, resets_of}
use Rattle.prelude.proofs.Bools.{of-true, eqb_comm}
use Rattle.prelude.proofs.Lists.{kept-apart}
use Rattle.prelude.proofs.Sums.{sum_from, sum_alike, sum-add, sum-most, sum-least, sum-append, sum-swap, sum-zero, count-from, once-most, once-least, count-keep, count-below, length-gathered}
use Rattle.model.proofs.ChartFile.{source_in, priority-low, priority-high, priorities-differ}
use Rattle.model.proofs.TranslationOrigins.{waits_one, idle-length, by_edge-sum}
use Rattle.chart_records.specs.declared.Shape.{Shape}
use Rattle.chart_records.specs.Accepted.{Accepted}
use Rattle.chart_records.specs.Places.{action_at, wait_at}
use Rattle.chart_steps.specs.Tables.{keyed}
use Rattle.chart_steps.proofs.TablesActions.{of-key}
use Rattle.chart_steps.proofs.Waiting.{by_key}
use Rattle.twin_records.specs.Tables.{source_of}
use Rattle.edge_records.proofs.TextsIdle.{alone, both}
use Rattle.translation.specs.Lengths.{of_transitions, of_idling, idle_length}

-- ---- sums

pub sum-none : (f : ℕ → ℕ) → sum_from f 0 0 ≡ 0
unfolding sum_from
sum-none f = refl

pub sum_more : (f : ℕ → ℕ) (n : ℕ) → sum_from f 0 (n + 1) ≡ sum_from f 0 n + f n
unfolding sum_from
sum_more f n = sum-append f 0 n 1 ∙ ap (λ m. sum_from f 0 n + m) (add-zero (f (0 + n)) ∙ ap f (zero-add n))

ones : (f : ℕ → ℕ) (n : ℕ) → ((i : ℕ) → i < n → f i ≡ 1) → sum_from f 0 n ≡ n
ones f n h =
    omega (
      arith,
      sum-most f 1 0 n (λ i l. let e : f i ≡ 1 = h i (omega arith) in omega arith),
      sum-least f 0 n (λ i l. let e : f i ≡ 1 = h i (omega arith) in omega arith),
    )

once : (x n : ℕ) → x < n → sum_from (λ i. bit (eqb x i)) 0 n ≡ 1
once x n h = omega (arith, once-most x 0 n, once-least x 0 n (omega arith) (omega arith))

and-on : (a b : Bool) → b ≡ true → bit (a && b) ≡ bit a
and-on true b e = ap bit e
and-on false b e = refl

and-off : (a b : Bool) → b ≡ false → bit (a && b) ≡ 0
and-off true b e = ap bit e
and-off false b e = refl

-- ---- pairs of things with one key

-- u has t's key and a lower rank; all such pairs of n things
abbrev lower : (ℕ → ℕ) → (ℕ → ℕ) → ℕ → ℕ → ℕ
lower key rank t u = bit (eqb (key u) (key t) && ltb (rank u) (rank t))

abbrev lowers : (ℕ → ℕ) → (ℕ → ℕ) → ℕ → ℕ
lowers key rank n = sum_from (λ t. sum_from (lower key rank t) 0 n) 0 n

abbrev pub alike : (ℕ → ℕ) → ℕ → ℕ → ℕ
alike key t u = bit (eqb (key u) (key t))

-- Where things of one key differ in rank, of two such one is below the other: as many pairs by whatever rank.
module _ (key rank : ℕ → ℕ) (n : ℕ) (apart : (t u : ℕ) → t < n → u < n → key t ≡ key u → rank t ≡ rank u → t ≡ u) where
  one_way : (t u : ℕ) → t < n → u < n → lower key rank t u + lower key rank u t + bit (eqb t u) ≡ alike key t u
  one_way t u a b =
      rw (eqb_comm (key t) (key u)) (go (eqb (key u) (key t)) refl (ltb (rank u) (rank t)) refl (ltb (rank t) (rank u)) refl (eqb t u) refl)
    where
      go : (x : Bool) → eqb (key u) (key t) ≡ x → (y : Bool) → ltb (rank u) (rank t) ≡ y → (z : Bool) → ltb (rank t) (rank u) ≡ z → (w : Bool) → eqb t u ≡ w →
          bit (x && y) + bit (x && z) + bit w ≡ bit x
      go false ex y ey z ez true ew = absurd (eqb-false (key u) (key t) ex (ap key (sym (eqb-true t u ew))))
      go false ex y ey z ez false ew = refl
      go true ex true ey true ez w ew = let l : rank u < rank t = ltb-true (rank u) (rank t) ey in let m : rank t < rank u = ltb-true (rank t) (rank u) ez in absurd (omega arith)
      go true ex true ey false ez true ew = let l : rank u < rank t = ltb-true (rank u) (rank t) ey in let m : rank t ≡ rank u = ap rank (eqb-true t u ew) in absurd (omega arith)
      go true ex true ey false ez false ew = refl
      go true ex false ey true ez true ew = let l : rank t < rank u = ltb-true (rank t) (rank u) ez in let m : rank t ≡ rank u = ap rank (eqb-true t u ew) in absurd (omega arith)
      go true ex false ey true ez false ew = refl
      go true ex false ey false ez true ew = refl
      go true ex false ey false ez false ew =
          let l : rank t ≤ rank u = ltb-false (rank u) (rank t) ey in
          let m : rank u ≤ rank t = ltb-false (rank t) (rank u) ez in
          absurd (eqb-false t u ew (apart t u a b (sym (eqb-true (key u) (key t) ex)) (omega arith)))

  pub pairs-are : lowers key rank n + lowers key rank n + n ≡ sum_from (λ t. sum_from (alike key t) 0 n) 0 n
  pairs-are =
      omega (
        arith,
        sum_alike whole (λ t. sum_from (alike key t) 0 n) 0 n
            (λ t a h. sum_alike (λ u. lower key rank t u + lower key rank u t + bit (eqb t u)) (alike key t) 0 n (λ u b g. one_way t u (omega arith) (omega arith))),
        sum_alike whole (λ t. below t + over t + self t) 0 n
            (λ t a h. sum-add (λ u. lower key rank t u + lower key rank u t) (λ u. bit (eqb t u)) 0 n ∙ ap (λ m. m + self t) (sum-add (lower key rank t) (λ u. lower key rank u t) 0 n)),
        sum-add (λ t. below t + over t) self 0 n,
        sum-add below over 0 n,
        sum-swap (λ t u. lower key rank u t) 0 n 0 n,
        ones self n (λ t h. once t n h),
      )
    where
      below : ℕ → ℕ
      below t = sum_from (lower key rank t) 0 n

      over : ℕ → ℕ
      over t = sum_from (λ u. lower key rank u t) 0 n

      self : ℕ → ℕ
      self t = sum_from (λ u. bit (eqb t u)) 0 n

      whole : ℕ → ℕ
      whole t = sum_from (λ u. lower key rank t u + lower key rank u t + bit (eqb t u)) 0 n

-- those before t that have its key
abbrev pub earlier : (ℕ → ℕ) → ℕ → ℕ
earlier key t = sum_from (alike key t) 0 t

earlier-is : (key : ℕ → ℕ) (t n : ℕ) → t < n → sum_from (lower key (λ u. u) t) 0 n ≡ earlier key t
earlier-is key t n h =
    ap (sum_from (lower key (λ u. u) t) 0) (let e : n ≡ t + (n - t) = omega arith in e)
    ∙ sum-append (lower key (λ u. u) t) 0 t (n - t)
    ∙ (λ i. sum_alike (lower key (λ u. u) t) (alike key t) 0 t (λ u a b. and-on (eqb (key u) (key t)) (ltb u t) (lt-ltb u t (omega arith))) i
    + (sum_alike (lower key (λ u. u) t) (λ u. 0) (0 + t) (n - t) (λ u a b. and-off (eqb (key u) (key t)) (ltb u t) (le-ltb u t (omega arith))) ∙ sum-zero (0 + t) (n - t)) i)
    ∙ add-zero (earlier key t)

-- ---- a table to whose places weights are added

module _ (key weight : ℕ → ℕ) (places : ℕ) where
  abbrev pub share : ℕ → ℕ → ℕ
  share k i = cond (eqb (key i) k) (weight i) 0

  -- those of the things before i have been added, each at its key's place
  pub record Added (c : List ℕ) (i : ℕ) : Type 0 where
    pub long : length c ≡ places
    pub sums : (k : ℕ) → k < places → get_or c k 0 ≡ sum_from (share k) 0 i

  pub added_none : Added (replicate places 0) 0
  added_none = record { long = length-replicate places 0; sums = λ k h. get_or-replicate places k 0 0 h ∙ sym (sum-none (share k)) }

  pub added_more : {c : List ℕ} {i : ℕ} (k w : ℕ) → Added c i → k ≡ key i → w ≡ weight i → k < places → Added (set c k (get_or c k 0 + w)) (i + 1)
  added_more {c} {i} k w a e d h = record {
    long = length-set c k (get_or c k 0 + w) ∙ a.long;
    sums = λ j g. go j g (eqb (key i) j) refl ∙ sym (sum_more (share j) i);
  }
    where
      go : (j : ℕ) → j < places → (b : Bool) → eqb (key i) j ≡ b → get_or (set c k (get_or c k 0 + w)) j 0 ≡ sum_from (share j) 0 i + cond b (weight i) 0
      go j g true q =
          let m : k ≡ j = e ∙ eqb-true (key i) j q in
          ap (λ x. get_or (set c x (get_or c x 0 + w)) j 0) m
          ∙ get_or-set_same c j (get_or c j 0 + w) 0 (omega (arith, a.long))
          ∙ (λ x. a.sums j g x + d x)
      go j g false q = get_or-set_other c k j (get_or c k 0 + w) 0 (λ x. eqb-false (key i) j q (sym e ∙ sym x)) ∙ a.sums j g ∙ sym (add-zero (sum_from (share j) 0 i))

  pub added-most : {c : List ℕ} {i : ℕ} (k m : ℕ) → Added c i → ((j : ℕ) → weight j ≤ m) → k < places → get_or c k 0 ≤ i * m
  added-most {c} {i} k m a most h = rw (a.sums k h) (sum-most (share k) m 0 i (λ j l. go j (eqb (key j) k)))
    where
      go : (j : ℕ) (b : Bool) → cond b (weight j) 0 ≤ m
      go j true = most j
      go j false = omega arith

pub share-one : (key : ℕ → ℕ) (k i : ℕ) → share key (λ j. 1) 0 k i ≡ bit (eqb (key i) k)
share-one key k i = go (eqb (key i) k)
  where
    go : (b : Bool) → cond b 1 0 ≡ bit b
    go true = refl
    go false = refl

-- ---- clocks, updates and resets

module _ (cs : ChartSet) where
  abbrev pub clocks_at : ℕ → ℕ
  clocks_at t = length (clocks_of (transition cs t).trigger)

  pub clocks-are : (st : ℕ) → sum_from (share (source_of cs) clocks_at 128 st) 0 (transition_count cs) ≡ length (clocks_leaving cs st)
  clocks-are st =
      sym
      (length-gathered (λ t. cond (eqb (source_of cs t) st) (map (λ _. clock_of cs t) (clocks_of (transition cs t).trigger)) []) 0 (transition_count cs)
      ∙ sum_alike (λ t. length (cond (eqb (source_of cs t) st) (map (λ _. clock_of cs t) (clocks_of (transition cs t).trigger)) [])) (share (source_of cs) clocks_at 128 st) 0 (transition_count cs)
      (λ t a b. go t (eqb (source_of cs t) st)))
    where
      go : (t : ℕ) (b : Bool) → length (cond b (map (λ _. clock_of cs t) (clocks_of (transition cs t).trigger)) []) ≡ cond b (clocks_at t) 0
      go t true = length-map (clocks_of (transition cs t).trigger) (λ _. clock_of cs t)
      go t false = refl

  pub leaving-are : (st : ℕ) → sum_from (share (source_of cs) (λ u. 1) 128 st) 0 (transition_count cs) ≡ count (λ u. eqb (source_of cs u) st) (upto (transition_count cs))
  leaving-are st =
      sum_alike (share (source_of cs) (λ u. 1) 128 st) (λ u. bit (eqb (source_of cs u) st)) 0 (transition_count cs) (λ u a b. share-one (source_of cs) st u)
      ∙ sym (count-from (λ u. eqb (source_of cs u) st) 0 (transition_count cs))

  abbrev pub effects_of : ℕ → ℕ
  effects_of t = length (updates_of cs (from_transition t)) + length (resets_of cs (from_transition t))

  pub effects-are : sum_from effects_of 0 (transition_count cs) ≡ length (of_transitions cs (updates_of cs)) + length (of_transitions cs (resets_of cs))
  effects-are =
      sum-add (λ t. length (updates_of cs (from_transition t))) (λ t. length (resets_of cs (from_transition t))) 0 (transition_count cs)
      ∙ (λ i. sym (length-gathered (λ t. updates_of cs (from_transition t)) 0 (transition_count cs)) i + sym (length-gathered (λ t. resets_of cs (from_transition t)) 0 (transition_count cs)) i)

  -- what belongs to edges: of the transitions', then of the idling
  pub parts_are : {A : Type 0} (f : Origin → List A) → length (by_edge cs f) ≡ length (of_transitions cs f) + length (of_idling cs (λ st. gather f (idle_origins cs st)))
  parts_are f =
      by_edge-sum cs f
      ∙ (λ i. sym (length-gathered (λ t. f (from_transition t)) 0 (transition_count cs)) i + sym (length-gathered (λ st. gather f (idle_origins cs st)) 0 (state_count cs)) i)

  pub no-idle-resets : length (of_idling cs (λ st. gather (resets_of cs) (idle_origins cs st))) ≡ 0
  unfolding gather
  no-idle-resets =
      length-gathered (λ st. gather (resets_of cs) (idle_origins cs st)) 0 (state_count cs)
      ∙ sum_alike (λ st. length (gather (resets_of cs) (idle_origins cs st))) (λ st. 0) 0 (state_count cs) (λ st a b. none st (waits cs st))
      ∙ sum-zero 0 (state_count cs)
    where
      none : (st : ℕ) (w : List ℕ) → length (gather (resets_of cs) (map (λ _. from_waiting st) w ++ (from_idling st ∷ []))) ≡ 0
      none st [] = refl
      none st (ms ∷ w) = none st w

-- ---- literals

module _ (s : List ℕ) (ok : charts_refusal s ≡ none) where
  abbrev cs : ChartSet
  cs = read_charts s

  abbrev source : ℕ → ℕ
  source = source_of cs

  abbrev rank : ℕ → ℕ
  rank t = (transition cs t).priority

  abbrev leaves : ℕ → ℕ → Bool
  leaves z u = eqb (source u) z

  differ : (t u : ℕ) → t < u → u < transition_count cs → source t ≡ source u → rank t ≡ rank u → ⊥
  differ t u l h e q =
      kept-apart (λ x. eqb x.source (source t)) (λ x. x.priority) no_transition cs.transitions t u l h (of-true (eq-eqb (source t) (source t) refl)) (of-true (eq-eqb (source u) (source t) (sym e)))
      (priorities-differ s ok (source t) (source_in s ok t (omega arith))) q

  apart : (t u : ℕ) → t < transition_count cs → u < transition_count cs → source t ≡ source u → rank t ≡ rank u → t ≡ u
  apart t u a b e q = go (ltb t u) refl (ltb u t) refl
    where
      go : (x : Bool) → ltb t u ≡ x → (y : Bool) → ltb u t ≡ y → t ≡ u
      go true ex y ey = absurd (differ t u (ltb-true t u ex) b e q)
      go false ex true ey = absurd (differ u t (ltb-true u t ey) a (sym e) (sym q))
      go false ex false ey = let l : u ≤ t = ltb-false t u ex in let m : t ≤ u = ltb-false u t ey in omega arith

  -- the leaving transitions of lower priority numbers
  above-count : (z p : ℕ) → 1 ≤ p → length (tried_before cs z p) ≡ sum_from (λ u. bit (leaves z u && ltb (rank u) p)) 0 (transition_count cs)
  above-count z p h = omega (arith, length-gathered ranked 1 (p - 1), each, count-below rank kept 1 (p - 1), whole, low)
    where
      kept : List ℕ
      kept = keep (leaves z) (upto (transition_count cs))

      ranked : ℕ → List ℕ
      ranked q = keep (λ u. leaves z u && eqb (rank u) q) (upto (transition_count cs))

      by_rank : (p : ℕ) → count (λ u. ltb (rank u) p) kept ≡ sum_from (λ u. bit (leaves z u && ltb (rank u) p)) 0 (transition_count cs)
      by_rank p = count-keep (leaves z) (λ u. ltb (rank u) p) (upto (transition_count cs)) ∙ count-from (λ u. leaves z u && ltb (rank u) p) 0 (transition_count cs)

      each : sum_from (λ q. length (ranked q)) 1 (p - 1) ≡ sum_from (λ q. count (λ u. eqb (rank u) q) kept) 1 (p - 1)
      each =
          sum_alike (λ q. length (ranked q)) (λ q. count (λ u. eqb (rank u) q) kept) 1 (p - 1)
          (λ q x y. length-keep (λ u. leaves z u && eqb (rank u) q) (upto (transition_count cs)) ∙ sym (count-keep (leaves z) (λ u. eqb (rank u) q) (upto (transition_count cs))))

      whole : count (λ u. ltb (rank u) (1 + (p - 1))) kept ≡ sum_from (λ u. bit (leaves z u && ltb (rank u) p)) 0 (transition_count cs)
      whole = ap (λ m. count (λ u. ltb (rank u) m) kept) (let e : 1 + (p - 1) ≡ p = omega arith in e) ∙ by_rank p

      low : count (λ u. ltb (rank u) 1) kept ≡ 0
      low =
          by_rank 1
          ∙ sum_alike (λ u. bit (leaves z u && ltb (rank u) 1)) (λ u. 0) 0 (transition_count cs) (λ u a b. and-off (leaves z u) (ltb (rank u) 1) (le-ltb (rank u) 1 (priority-low s ok u (omega arith))))
          ∙ sum-zero 0 (transition_count cs)

  literals-of : (t : ℕ) → t < transition_count cs → length (literals_of cs (from_transition t)) ≡ sum_from (lower source rank t) 0 (transition_count cs) + 1
  literals-of t h =
      length-append (map (literal cs false) (tried_before cs (source t) (rank t))) (literal cs true t ∷ [])
      ∙ ap (λ n. n + 1) (length-map (tried_before cs (source t) (rank t)) (literal cs false) ∙ above-count (source t) (rank t) (priority-low s ok t h))

  must-nots-of : (z : ℕ) → length (must_nots cs z) ≡ count (leaves z) (upto (transition_count cs))
  must-nots-of z =
      length-map (tried_before cs z 17) (literal cs false)
      ∙ above-count z 17 (omega arith)
      ∙ sum_alike (λ u. bit (leaves z u && ltb (rank u) 17)) (λ u. bit (leaves z u)) 0 (transition_count cs)
      (λ u a b. and-on (leaves z u) (ltb (rank u) 17) (lt-ltb (rank u) 17 (let l : rank u ≤ 16 = priority-high s ok u (omega arith) in omega arith)))
      ∙ sym (count-from (leaves z) 0 (transition_count cs))

  -- each with those before it that leave its state, and its own
  pub literals-are : sum_from (earlier source) 0 (transition_count cs) + transition_count cs ≡ length (of_transitions cs (literals_of cs))
  literals-are =
      omega (
        arith,
        length-gathered (λ t. literals_of cs (from_transition t)) 0 (transition_count cs),
        sum_alike (λ t. length (literals_of cs (from_transition t))) (λ t. sum_from (lower source rank t) 0 (transition_count cs) + 1) 0 (transition_count cs) (λ t a b. literals-of t (omega arith)),
        sum-add (λ t. sum_from (lower source rank t) 0 (transition_count cs)) (λ t. 1) 0 (transition_count cs),
        ones (λ t. 1) (transition_count cs) (λ t h. refl),
        pairs-are source rank (transition_count cs) apart,
        pairs-are source (λ u. u) (transition_count cs) (λ t u a b e q. q),
        sum_alike (λ t. sum_from (lower source (λ u. u) t) 0 (transition_count cs)) (earlier source) 0 (transition_count cs) (λ t a b. earlier-is source t (transition_count cs) (omega arith)),
      )

-- ---- the idling in a state

-- its edges, their literals, its waiting clock and their updates
abbrev pub idle_parts : ChartSet → ℕ → ℕ
idle_parts cs st = length (idle_origins cs st) + length (gather (literals_of cs) (idle_origins cs st)) + length (waiting_clocks cs st) + length (gather (updates_of cs) (idle_origins cs st))

pub idle-lengths : (cs : ChartSet) → sum_from (idle_parts cs) 0 (state_count cs) ≡ idle_length cs
idle-lengths cs =
    omega (
      arith,
      sum-add (λ st. edges st + literals st + clocks st) updates 0 (state_count cs),
      sum-add (λ st. edges st + literals st) clocks 0 (state_count cs),
      sum-add edges literals 0 (state_count cs),
      length-gathered (idle_origins cs) 0 (state_count cs),
      length-gathered (λ st. gather (literals_of cs) (idle_origins cs st)) 0 (state_count cs),
      length-gathered (waiting_clocks cs) 0 (state_count cs),
      length-gathered (λ st. gather (updates_of cs) (idle_origins cs st)) 0 (state_count cs),
    )
  where
    edges : ℕ → ℕ
    edges st = length (idle_origins cs st)

    literals : ℕ → ℕ
    literals st = length (gather (literals_of cs) (idle_origins cs st))

    clocks : ℕ → ℕ
    clocks st = length (waiting_clocks cs st)

    updates : ℕ → ℕ
    updates st = length (gather (updates_of cs) (idle_origins cs st))

-- by the counts of its leaving transitions and of its waiting actions
module _ (s : List ℕ) (sh : Shape) (ok : Accepted s sh) (st : ℕ) (h : st < 128) (leaving waiting : ℕ)
    (left : leaving ≡ count (λ u. eqb (source_of (read_charts s) u) st) (upto (transition_count (read_charts s)))) (acts : waiting ≡ count (keyed s sh (512 + st)) (upto sh.actions)) where
  abbrev charts : ChartSet
  charts = read_charts s

  times : length (of st charts.waiting_times) ≡ waiting
  times =
      ap length (by_key s sh ok st h)
      ∙ length-map (keep (keyed s sh (512 + st)) (upto sh.actions)) (λ a. (wait_at s sh a).1)
      ∙ length-keep (keyed s sh (512 + st)) (upto sh.actions)
      ∙ sym acts

  waits-are : length (waits charts st) ≡ cond (eqb waiting 0) 0 1
  waits-are = go (of st charts.waiting_times) ∙ ap (λ n. cond (eqb n 0) 0 1) times
    where
      go : (l : List ℕ) → length (take 1 l) ≡ cond (eqb (length l) 0) 0 1
      go [] = refl
      go (ms ∷ l) = sym (ap (λ b. cond b 0 1) (ne_eqb (length (ms ∷ l)) 0 (λ e. absurd (omega (arith, e)))))

  pub due-updates : length (updates_of charts (from_waiting st)) ≡ waiting
  unfolding case_of
  due-updates =
      ap (length {A = Action}) (of-key s sh ok 4 st (inr (inr (inr (refl, h)))))
      ∙ length-map {B = Action} (keep (keyed s sh (512 + st)) (upto sh.actions)) (λ a. (action_at s sh a).1)
      ∙ length-keep (keyed s sh (512 + st)) (upto sh.actions)
      ∙ sym acts

  must-nots : length (must_nots charts st) ≡ leaving
  must-nots = must-nots-of s ok.unrefused st ∙ sym left

  pub resets-are : length (clocks_of_state charts st) ≡ length (clocks_leaving charts st) + cond (eqb waiting 0) 0 1
  resets-are =
      length-append (clocks_leaving charts st) (map (λ _. waiting_clock charts st) (waits charts st))
      ∙ ap (λ n. length (clocks_leaving charts st) + n) (length-map (waits charts st) (λ _. waiting_clock charts st) ∙ waits-are)

  abbrev whole : ℕ
  whole = cond (eqb waiting 0) (leaving + 1) (2 * leaving + waiting + 5)

  pub idle-is : idle_parts charts st ≡ whole
  idle-is = go (waits_one charts st)
    where
      clock : (n : ℕ) → length (waits charts st) ≡ n → length (waiting_clocks charts st) ≡ n
      clock n e = length-map {B = Clock} (waits charts st) (λ ms. record { timing = every; ticks = ticks ms }) ∙ e

      idling : (n : ℕ) → length (waits charts st) ≡ n → length (literals_of charts (from_idling st)) ≡ leaving + n
      idling n e =
          length-append {A = Literal} (must_nots charts st) (map (λ _. waiting_literal charts false st) (waits charts st))
          ∙ (λ i. must-nots i + (length-map {B = Literal} (waits charts st) (λ _. waiting_literal charts false st) ∙ e) i)

      due : length (literals_of charts (from_waiting st)) ≡ leaving + 1
      due = length-append {A = Literal} (must_nots charts st) (waiting_literal charts true st ∷ []) ∙ ap (λ n. n + 1) must-nots

      go : (waits charts st ≡ []) ⊎ ((ms : ℕ) × (waits charts st ≡ ms ∷ [])) → idle_parts charts st ≡ whole
      go (inl w) =
          let n : length (waits charts st) ≡ 0 = ap length w in
          omega (arith, idle-length charts st, n, ap (length {A = Literal}) (alone charts st (literals_of charts) w), idling 0 n, clock 0 n, ap (length {A = Action}) (alone charts st (updates_of charts) w), by (eqb waiting 0) refl)
        where
          by : (b : Bool) → eqb waiting 0 ≡ b → whole ≡ leaving + 1
          by true e = ap (λ b. cond b (leaving + 1) (2 * leaving + waiting + 5)) e
          by false e = absurd (omega (arith, ap length w, waits-are, ap {B = ℕ} (λ b. cond b 0 1) e))
      go (inr w) =
          let n : length (waits charts st) ≡ 1 = ap length w.1 in
          omega (arith, idle-length charts st, n, two (literals_of charts), due, idling 1 n, clock 1 n, two (updates_of charts), due-updates, by (eqb waiting 0) refl)
        where
          two : {A : Type 0} (f : Origin → List A) → length (gather f (idle_origins charts st)) ≡ length (f (from_waiting st)) + length (f (from_idling st))
          two f = sym (ap length (both charts st f w.0 w.1)) ∙ length-append (f (from_waiting st)) (f (from_idling st))

          by : (b : Bool) → eqb waiting 0 ≡ b → whole ≡ 2 * leaving + waiting + 5
          by true e = absurd (omega (arith, ap length w.1, waits-are, ap {B = ℕ} (λ b. cond b 0 1) e))
          by false e = ap (λ b. cond b (leaving + 1) (2 * leaving + waiting + 5)) e
