-- Origins and the numbers of their edges: what stands above goes by an origin, never by a sum of counts. Assumes nothing.
use mathlib.Core.Path.{◌≡◌, refl, sym, ap, ◌∙◌, subst}
use mathlib.Core.Logic.{◌⊎◌, inl, inr}
use mathlib.Core.Bool.{Bool, true, false, ◌&&◌}
use mathlib.Core.List.{List, [], ◌∷◌, ◌++◌, map}
use Prim.Native.Nat.{ℕ, ◌+◌, ◌-◌, ◌≤◌, ◌<◌}
use native.Mathlib.Omega.{arith}
use borrow.Author.Tests.{ltb-true, ltb-false, eqb-true, eqb-false}
use lib.Dec.{T, ltb, eqb, lt→ltb}
use lib.ListN.{length, get_or, take, length-append, length-map, get_or-append, get_or-eq_default}
use Rattle.prelude.specs.Lists.{all, gather, upto}
use Rattle.prelude.specs.Owned.{of}
use Rattle.model.specs.ChartSet.{ChartSet, waits}
use Rattle.model.specs.AutomataTable.{Edge, no_edge, edge}
use Rattle.model.specs.Translation.{Origin, from_transition, from_waiting, from_idling, state_count, transition_count, idle_origins, origins, first_idle, edge_number, origin_of, edge_of, by_edge, twin}
use Rattle.prelude.proofs.Bools.{both_of}
use Rattle.prelude.proofs.Counts.{is-table}
use Rattle.prelude.proofs.Lists.{of-by_owner, get_or-map-upto, get_or-append-at, get_or-mapped, length-map-upto, all_append, all-numbers, all-mapped, all-imp, all-owned, all_cons, all_nil, gather-all, gather_append}
use Rattle.prelude.proofs.Maps.{gather-map}
use Rattle.prelude.proofs.Gathered.{gather-gather}
use Rattle.prelude.proofs.Gathers.{before, before-less, gathered-at, gathered-place, sum-places}
use Rattle.prelude.proofs.Sums.{sum_from, length-gathered, length-owned}

-- the origin of the idle edge that is taken, by whether the waiting actions are due
abbrev pub idle_for : Bool → ℕ → Origin
idle_for true s = from_waiting s
idle_for false s = from_idling s

-- a state's waiting time is one, or none
pub waits_one : (cs : ChartSet) (s : ℕ) → (waits cs s ≡ []) ⊎ ((ms : ℕ) × (waits cs s ≡ ms ∷ []))
waits_one cs s = go (of s cs.waiting_times)
  where
    go : (l : List ℕ) → (take 1 l ≡ []) ⊎ ((ms : ℕ) × (take 1 l ≡ ms ∷ []))
    go [] = inl refl
    go (ms ∷ l) = inr (ms, refl)

module _ (cs : ChartSet) where
  -- the transitions, then of each state those of its idling
  abbrev transitions : List Origin
  transitions = map from_transition (upto (transition_count cs))

  abbrev idlings : List Origin
  idlings = gather (idle_origins cs) (upto (state_count cs))

  -- an origin of this set
  abbrev pub IsOrigin : Origin → Type 0
  IsOrigin (from_transition t) = t < transition_count cs
  IsOrigin (from_waiting s) = (s < state_count cs) × ((ms : ℕ) × (waits cs s ≡ ms ∷ []))
  IsOrigin (from_idling s) = s < state_count cs

  pub origins-count : length (origins cs) ≡ first_idle cs (state_count cs)
  origins-count = length-append transitions idlings ∙ ap (λ n. n + length idlings) (length-map-upto from_transition (transition_count cs))

  pub edges-count : length (twin cs).edges ≡ length (origins cs)
  edges-count = length-map (origins cs) (edge_of cs)

  -- edge by edge
  pub edges_are : (twin cs).edges ≡ map (λ e. edge_of cs (origin_of cs e)) (upto (length (origins cs)))
  edges_are = is-table (λ e. edge_of cs (origin_of cs e)) no_edge (length (origins cs)) (twin cs).edges edges-count (λ e h. get_or-mapped (edge_of cs) (origins cs) e (from_idling 0) no_edge h)

  -- ---- an origin's number, and back

  -- of the origins of a state's idling, the j-th
  module _ (s j : ℕ) (h : s < state_count cs) (l : j < length (idle_origins cs s)) where
    idle-in : first_idle cs s + j < length (origins cs)
    idle-in = omega (arith, origins-count, before-less (idle_origins cs) (state_count cs) s h)

    idle-at : origin_of cs (first_idle cs s + j) ≡ get_or (idle_origins cs s) j (from_idling 0)
    idle-at =
        ap (origin_of cs) (let e : first_idle cs s + j ≡ transition_count cs + (before (idle_origins cs) s + j) = omega arith in e)
        ∙ get_or-append-at transitions idlings (transition_count cs) (before (idle_origins cs) s + j) (from_idling 0) (length-map-upto from_transition (transition_count cs))
        ∙ gathered-at (idle_origins cs) (state_count cs) s j (from_idling 0) h l

  -- where one waits, both stand; else the idling alone
  pub idle-length : (s : ℕ) → length (idle_origins cs s) ≡ length (waits cs s) + 1
  idle-length s = length-append (map (λ _. from_waiting s) (waits cs s)) (from_idling s ∷ []) ∙ ap (λ n. n + 1) (length-map (waits cs s) (λ _. from_waiting s))

  pub edge_number-in : (o : Origin) → IsOrigin o → edge_number cs o < length (origins cs)
  edge_number-in (from_transition t) h = omega (arith, origins-count)
  edge_number-in (from_waiting s) h = omega (arith, idle-in s 0 h.0 (omega (arith, idle-length s)))
  edge_number-in (from_idling s) h = idle-in s (length (waits cs s)) h (omega (arith, idle-length s))

  pub origin_of-edge_number : (o : Origin) → IsOrigin o → origin_of cs (edge_number cs o) ≡ o
  origin_of-edge_number (from_transition t) h =
      get_or-append transitions idlings (from_idling 0) t (rw (length-map-upto from_transition (transition_count cs)) h) ∙ get_or-map-upto from_transition (from_idling 0) (transition_count cs) t h
  origin_of-edge_number (from_waiting s) h =
      ap (origin_of cs) (let e : first_idle cs s ≡ first_idle cs s + 0 = omega arith in e)
      ∙ idle-at s 0 h.0 (omega (arith, idle-length s))
      ∙ ap (λ l. get_or (map (λ _. from_waiting s) l ++ (from_idling s ∷ [])) 0 (from_idling 0)) h.1.1
  origin_of-edge_number (from_idling s) h =
      idle-at s (length (waits cs s)) h (omega (arith, idle-length s))
      ∙ ap (λ n. get_or (idle_origins cs s) n (from_idling 0)) (let e : length (waits cs s) ≡ length (waits cs s) + 0 = omega arith in e)
      ∙ get_or-append-at (map (λ _. from_waiting s) (waits cs s)) (from_idling s ∷ []) (length (waits cs s)) 0 (from_idling 0) (length-map (waits cs s) (λ _. from_waiting s))

  pub origin_of-past : (e : ℕ) → length (origins cs) ≤ e → origin_of cs e ≡ from_idling 0
  origin_of-past e h = get_or-eq_default (origins cs) (from_idling 0) h

  -- every edge has its origin: what holds of all origins' edges holds of all edges
  pub by-origin : (P : ℕ → Type 0) → ((o : Origin) → IsOrigin o → P (edge_number cs o)) → (e : ℕ) → e < length (origins cs) → P e
  by-origin P f e h = go (ltb e (transition_count cs)) refl
    where
      idle : (s j : ℕ) → s < state_count cs → j < length (idle_origins cs s) → e ≡ first_idle cs s + j → (waits cs s ≡ []) ⊎ ((ms : ℕ) × (waits cs s ≡ ms ∷ [])) → P e
      idle s j i l q (inl w) = subst P (sym (q ∙ omega (arith, idle-length s, ap length w))) (f (from_idling s) i)
      idle s j i l q (inr w) = two (eqb j 0) refl
        where
          two : (b : Bool) → eqb j 0 ≡ b → P e
          two true z = subst P (sym (q ∙ omega (arith, eqb-true j 0 z))) (f (from_waiting s) (i, w))
          two false z = subst P (sym (q ∙ omega (arith, eqb-false j 0 z, idle-length s, ap length w.1))) (f (from_idling s) i)

      go : (b : Bool) → ltb e (transition_count cs) ≡ b → P e
      go true q = f (from_transition e) (ltb-true e (transition_count cs) q)
      go false q =
          let l : transition_count cs ≤ e = ltb-false e (transition_count cs) q in
          let p = gathered-place (idle_origins cs) (state_count cs) (e - transition_count cs) (omega (arith, origins-count)) in
          idle p.0 p.1 p.2 p.3 (omega (arith, p.4)) (waits_one cs p.0)

  -- from the transitions' edges on none came of a transition
  pub origin_of-idle : {A : Type 0} (f : Origin → A) (a : A) → ((s : ℕ) → f (from_waiting s) ≡ a) → ((s : ℕ) → f (from_idling s) ≡ a) → (e : ℕ) → transition_count cs ≤ e → f (origin_of cs e) ≡ a
  origin_of-idle f a wait idle e h = go (ltb e (length (origins cs))) refl
    where
      go : (b : Bool) → ltb e (length (origins cs)) ≡ b → f (origin_of cs e) ≡ a
      go true q = by-origin (λ n. transition_count cs ≤ n → f (origin_of cs n) ≡ a) each e (ltb-true e (length (origins cs)) q) h
        where
          each : (o : Origin) → IsOrigin o → transition_count cs ≤ edge_number cs o → f (origin_of cs (edge_number cs o)) ≡ a
          each (from_transition t) i l = absurd (omega arith)
          each (from_waiting s) i l = ap f (origin_of-edge_number (from_waiting s) i) ∙ wait s
          each (from_idling s) i l = ap f (origin_of-edge_number (from_idling s) i) ∙ idle s
      go false q = ap f (origin_of-past e (ltb-false e (length (origins cs)) q)) ∙ idle 0

  -- ---- what an origin's edge is, and what it has

  pub edge-of : (o : Origin) → IsOrigin o → edge (twin cs) (edge_number cs o) ≡ edge_of cs o
  edge-of o h = get_or-mapped (edge_of cs) (origins cs) (edge_number cs o) (from_idling 0) no_edge (edge_number-in o h) ∙ ap (edge_of cs) (origin_of-edge_number o h)

  pub of-origin : {A : Type 0} (f : Origin → List A) (o : Origin) → IsOrigin o → of (edge_number cs o) (by_edge cs f) ≡ f o
  of-origin f o h = of-by_owner (edge_number cs o) (λ e. f (origin_of cs e)) (length (origins cs)) (edge_number-in o h) ∙ ap f (origin_of-edge_number o h)

  -- ---- tests of all

  all-origins : (p : Origin → Bool) → ((o : Origin) → IsOrigin o → T (p o)) → T (all p (origins cs))
  all-origins p h =
      all_append p transitions idlings
      (all-numbers p from_transition 0 (transition_count cs) (λ t l. h (from_transition t) (omega arith)))
      (gather-all p (idle_origins cs) 0 (state_count cs) (λ s l. both s (omega arith) (waits_one cs s)))
    where
      both : (s : ℕ) → s < state_count cs → (waits cs s ≡ []) ⊎ ((ms : ℕ) × (waits cs s ≡ ms ∷ [])) → T (all p (idle_origins cs s))
      both s l (inl w) = subst (λ x. T (all p (map (λ _. from_waiting s) x ++ (from_idling s ∷ [])))) (sym w) (all_cons p (from_idling s) [] (h (from_idling s) l) (all_nil p))
      both s l (inr w) =
          subst (λ x. T (all p (map (λ _. from_waiting s) x ++ (from_idling s ∷ [])))) (sym w.1)
          (all_cons p (from_waiting s) (from_idling s ∷ []) (h (from_waiting s) (l, w)) (all_cons p (from_idling s) [] (h (from_idling s) l) (all_nil p)))

  pub all_edges : (p : Edge → Bool) → ((o : Origin) → IsOrigin o → T (p (edge_of cs o))) → T (all p (twin cs).edges)
  all_edges p h = all-mapped (λ o. p (edge_of cs o)) p (edge_of cs) (λ o t. t) (origins cs) (all-origins (λ o. p (edge_of cs o)) h)

  -- of what belongs to edges: the owner is an edge, and each thing of each origin passes
  pub by_edge-all : {A : Type 0} (p : A → Bool) (f : Origin → List A) → ((o : Origin) → IsOrigin o → T (all p (f o))) →
      T (all (λ x. ltb x.0 (length (twin cs).edges) && p x.1) (by_edge cs f))
  by_edge-all p f h =
      all-owned (λ x. ltb x.0 (length (twin cs).edges) && p x.1) (λ e. f (origin_of cs e)) (length (origins cs))
      (by-origin (λ e. T (all (λ x. ltb e (length (twin cs).edges) && p x) (f (origin_of cs e)))) each)
    where
      each : (o : Origin) → IsOrigin o → T (all (λ x. ltb (edge_number cs o) (length (twin cs).edges) && p x) (f (origin_of cs (edge_number cs o))))
      each o i =
          subst (λ z. T (all (λ x. ltb (edge_number cs o) (length (twin cs).edges) && p x) (f z))) (sym (origin_of-edge_number o i))
          (all-imp p (λ x. ltb (edge_number cs o) (length (twin cs).edges) && p x)
          (λ x t. both_of (ltb (edge_number cs o) (length (twin cs).edges)) (p x) (lt→ltb (edge_number cs o) (length (twin cs).edges) (omega (arith, edges-count, edge_number-in o i))) t) (f o) (h o i))

  -- ---- how many

  -- what the transitions' edges have, and what those of each state's idling have
  pub by_edge-sum : {A : Type 0} (f : Origin → List A) →
      length (by_edge cs f) ≡ sum_from (λ t. length (f (from_transition t))) 0 (transition_count cs) + sum_from (λ z. length (gather f (idle_origins cs z))) 0 (state_count cs)
  by_edge-sum f =
      length-owned (length (origins cs)) (λ e. f (origin_of cs e))
      ∙ sum-places f (from_idling 0) (origins cs)
      ∙ ap length (gather_append f transitions idlings)
      ∙ length-append (gather f transitions) (gather f idlings)
      ∙ (λ i. (ap length (gather-map from_transition f (upto (transition_count cs))) ∙ length-gathered (λ t. f (from_transition t)) 0 (transition_count cs)) i + (ap length (gather-gather f (idle_origins cs) (upto (state_count cs))) ∙ length-gathered (λ z. gather f (idle_origins cs z)) 0 (state_count cs)) i)
