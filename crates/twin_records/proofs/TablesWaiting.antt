-- The numbers of waiting clocks and of idle edges, state by state, and what a place of the table of waiting clocks tells. Assumes nothing.
use mathlib.Core.Path.{◌≡◌, refl, sym, ap, ◌∙◌}
use mathlib.Core.Logic.{◌⊎◌, inl, inr}
use mathlib.Core.Bool.{Bool, true, false, cond}
use mathlib.Core.List.{List, [], ◌∷◌, map}
use Prim.Native.Nat.{ℕ, ◌+◌, ◌-◌, ◌*◌, ◌≤◌, ◌<◌}
use native.Mathlib.Nat.{add-zero, sub-zero}
use native.Mathlib.Numerals.{add-one}
use native.Mathlib.Omega.{arith}
use borrow.Author.Tests.{eq-eqb, ne_eqb, ltb-true, ltb-false}
use lib.Dec.{ltb, eqb}
use lib.ListN.{length, get_or, length-append, length-map, get_or-append}
use Rattle.prelude.specs.Lists.{gather, upto, from}
use Rattle.prelude.proofs.Counts.{get_or-upto}
use Rattle.prelude.proofs.Filled.{length_from}
use Rattle.prelude.proofs.Gathered.{gather_none}
use Rattle.prelude.proofs.Gathers.{before-next, before-less}
use Rattle.model.specs.ChartSet.{ChartSet, read_charts, waits}
use Rattle.model.specs.AutomataTable.{Clock, every}
use Rattle.model.specs.Charts.{ticks}
use Rattle.model.specs.Translation.{state_count, transition_count, idle_origins, first_idle, transition_clocks, waiting_clocks, waiting_clock}
use Rattle.model.proofs.TranslationOrigins.{waits_one, idle-length, origins-count}
use Rattle.model.proofs.TranslationCounts.{origins-few, clocks-few}
use Rattle.model.proofs.TranslationClocks.{waiting_clock-in}
use Rattle.chart_records.specs.declared.Shape.{Shape}
use Rattle.chart_records.specs.Places.{wait_at}
use Rattle.chart_records.specs.Accepted.{Accepted}
use Rattle.chart_records.proofs.PlacesRead.{length-homes, most-states, most-actions}
use Rattle.machines.specs.Chains.{head_or, earliest, named}
use Rattle.machines.proofs.ChainsEarliest.{one_found}
use Rattle.chart_steps.specs.Tables.{HasFirsts, waiting_keys, keyed}
use Rattle.chart_steps.proofs.Waiting.{waits-first}
use Rattle.twin_records.specs.Tables.{waiting_place, HasWaiting}

before-most : {A : Type 0} (f : ℕ → List A) (n s : ℕ) → s ≤ n → length (gather f (upto s)) ≤ length (gather f (upto n))
before-most f n s h = go (ltb s n) refl
  where
    go : (b : Bool) → ltb s n ≡ b → length (gather f (upto s)) ≤ length (gather f (upto n))
    go true e = omega (arith, before-less f n s (ltb-true s n e))
    go false e = omega (arith, ap (λ k. length (gather f (upto k))) (let q : s ≡ n = omega (arith, ltb-false s n e) in q))

module _ (cs : ChartSet) where
  -- ---- state by state

  pub waiting_none : waiting_clock cs 0 ≡ length (transition_clocks cs)
  unfolding from
  waiting_none = ap (λ l. length (transition_clocks cs) + length l) (gather_none (waiting_clocks cs)) ∙ add-zero (length (transition_clocks cs))

  pub waiting-more : (st : ℕ) → waiting_clock cs (st + 1) ≡ waiting_clock cs st + length (waits cs st)
  waiting-more st =
      ap (waiting_clock cs) (add-one st)
      ∙ omega (arith, before-next (waiting_clocks cs) st, length-map (waits cs st) clock)
    where
      clock : ℕ → Clock
      clock ms = record { timing = every; ticks = ticks ms }

  pub idle-none : first_idle cs 0 ≡ transition_count cs
  unfolding from
  idle-none = ap (λ l. transition_count cs + length l) (gather_none (idle_origins cs)) ∙ add-zero (transition_count cs)

  pub idle-more : (st : ℕ) → first_idle cs (st + 1) ≡ first_idle cs st + (length (waits cs st) + 1)
  idle-more st = ap (first_idle cs) (add-one st) ∙ omega (arith, before-next (idle_origins cs) st, idle-length cs st)

  -- a state's edges are among all
  pub idle-most : (st : ℕ) → st < state_count cs → first_idle cs st + (length (waits cs st) + 1) ≤ transition_count cs + state_count cs * 2
  idle-most st h = omega (arith, before-less (idle_origins cs) (state_count cs) st h, idle-length cs st, origins-few cs, origins-count cs)

  -- by the place of the state's first waiting action
  pub place-for : (st a : ℕ) (x : ℕ) → waits cs st ≡ cond (eqb a 65535) [] (x ∷ []) → waiting_place cs st ≡ cond (eqb a 65535) 65535 (waiting_clock cs st)
  place-for st a x e = go (eqb a 65535) e
    where
      go : (b : Bool) → waits cs st ≡ cond b [] (x ∷ []) → waiting_place cs st ≡ cond b 65535 (waiting_clock cs st)
      go true w = ap (λ l. head_or 65535 (map (λ _. waiting_clock cs st) l)) w
      go false w = ap (λ l. head_or 65535 (map (λ _. waiting_clock cs st) l)) w

  pub waits-count : (st a : ℕ) (x : ℕ) → waits cs st ≡ cond (eqb a 65535) [] (x ∷ []) → length (named a) ≡ length (waits cs st)
  waits-count st a x e = go (eqb a 65535) e
    where
      go : (b : Bool) → waits cs st ≡ cond b [] (x ∷ []) → length (cond b [] (a ∷ [])) ≡ length (waits cs st)
      go true w = sym (ap length w)
      go false w = sym (ap length w)

-- ---- the tables of an accepted file

module _ (s : List ℕ) (sh : Shape) (ok : Accepted s sh) where
  abbrev cs : ChartSet
  cs = read_charts s

  -- a number of two bytes
  pub waiting_few : (st : ℕ) → st ≤ sh.states → waiting_clock cs st ≤ 384
  waiting_few st h =
      omega (arith, waiting-in, clocks-few s ok.unrefused, length-append (transition_clocks cs) (gather (waiting_clocks cs) (upto (state_count cs))))
    where
      waiting-in : length (gather (waiting_clocks cs) (upto st)) ≤ length (gather (waiting_clocks cs) (upto (state_count cs)))
      waiting-in = before-most (waiting_clocks cs) (state_count cs) st (omega (arith, length-homes s sh ok.shape))

  -- a state's first waiting action
  module _ (first : List ℕ) (has : HasFirsts s sh first) (st : ℕ) (h : st < sh.states) where
    abbrev action : ℕ
    action = get_or first (waiting_keys + st) 0

    found : action ≡ earliest (keyed s sh (waiting_keys + st)) 0 sh.actions
    found = has (waiting_keys + st) (omega (arith, most-states s sh ok.shape))

    pub waits-by : waits cs st ≡ cond (eqb action 65535) [] ((wait_at s sh action).1 ∷ [])
    waits-by = waits-first s sh ok st action (omega (arith, most-states s sh ok.shape)) found

    pub action-known : (action ≡ 65535 → ⊥) → action < sh.actions
    action-known n =
        let e : action ≡ earliest (keyed s sh (waiting_keys + st)) 0 (sh.actions - 0) = found ∙ ap (earliest (keyed s sh (waiting_keys + st)) 0) (sym (sub-zero sh.actions)) in
        rw e (one_found (keyed s sh (waiting_keys + st)) 0 sh.actions (omega (arith, most-actions s sh ok.shape)) (λ q. n (e ∙ q))).before_end

  -- a place of the table of waiting clocks
  module _ (waiting : List ℕ) (has : HasWaiting cs waiting) (st : ℕ) (h : st < sh.states) where
    abbrev place : ℕ
    place = get_or waiting st 0

    in-set : st < state_count cs
    in-set = omega (arith, length-homes s sh ok.shape)

    place_is : place ≡ waiting_place cs st
    place_is =
        ap (λ l. get_or l st 0) has
        ∙ get_or-append (map (waiting_place cs) (upto (state_count cs))) _ 0 st (omega (arith, in-set, length_from (waiting_place cs) 0 (state_count cs)))
        ∙ get_or-upto (waiting_place cs) 0 (state_count cs) st in-set

    -- one that waits has its clock's number there, which is no 65,535
    place-one : (ms : ℕ) → waits cs st ≡ ms ∷ [] → (place ≡ waiting_clock cs st) × (place ≡ 65535 → ⊥)
    place-one ms w =
        let e : place ≡ waiting_clock cs st = place_is ∙ ap (λ l. head_or 65535 (map (λ _. waiting_clock cs st) l)) w in
        (e, λ q. omega (arith, waiting_clock-in cs st (record { timing = every; ticks = ticks ms }) in-set (ap (map (λ ms. record { timing = every; ticks = ticks ms })) w), clocks-few s ok.unrefused))

    place_none : waits cs st ≡ [] → place ≡ 65535
    place_none w = place_is ∙ ap (λ l. head_or 65535 (map (λ _. waiting_clock cs st) l)) w

    pub not-waiting : place ≡ 65535 → waits cs st ≡ []
    not-waiting e = go (waits_one cs st)
      where
        go : (waits cs st ≡ []) ⊎ ((ms : ℕ) × (waits cs st ≡ ms ∷ [])) → waits cs st ≡ []
        go (inl w) = w
        go (inr w) = absurd ((place-one w.0 w.1).1 e)

    pub is-waiting : (place ≡ 65535 → ⊥) → (place ≡ waiting_clock cs st) × ((ms : ℕ) × (waits cs st ≡ ms ∷ []))
    is-waiting n = go (waits_one cs st)
      where
        go : (waits cs st ≡ []) ⊎ ((ms : ℕ) × (waits cs st ≡ ms ∷ [])) → (place ≡ waiting_clock cs st) × ((ms : ℕ) × (waits cs st ≡ ms ∷ []))
        go (inl w) = absurd (n (place_none w))
        go (inr w) = ((place-one w.0 w.1).0, w)

    pub waiting-named : named place ≡ map (λ _. waiting_clock cs st) (waits cs st)
    waiting-named = go (waits_one cs st)
      where
        go : (waits cs st ≡ []) ⊎ ((ms : ℕ) × (waits cs st ≡ ms ∷ [])) → named place ≡ map (λ _. waiting_clock cs st) (waits cs st)
        go (inl w) = ap (λ b. cond b [] (place ∷ [])) (eq-eqb place 65535 (place_none w)) ∙ ap (map (λ _. waiting_clock cs st)) (sym w)
        go (inr w) =
            let p = place-one w.0 w.1 in
            ap (λ b. cond b [] (place ∷ [])) (ne_eqb place 65535 p.1) ∙ ap (λ k. k ∷ []) p.0 ∙ ap (map (λ _. waiting_clock cs st)) (sym w.1)

    -- as many as the state has waiting times
    pub waiting-count : length (named place) ≡ length (waits cs st)
    waiting-count = ap length waiting-named ∙ length-map (waits cs st) (λ _. waiting_clock cs st)
