-- The open edges of a twin. Assumes nothing.
use mathlib.Core.Path.{◌≡◌, refl, sym, ap, ◌∙◌, subst}
use mathlib.Core.Logic.{◌⊎◌, inl, inr}
use mathlib.Core.Option.{Option, some, none}
use mathlib.Core.Bool.{Bool, true, false, not, cond, ◌&&◌}
use mathlib.Core.List.{List, [], ◌∷◌, ◌++◌, map, append-nil}
use Prim.Native.Nat.{ℕ, ◌+◌, ◌≤◌, ◌<◌, zero-le}
use native.Mathlib.Omega.{arith}
use lib.Dec.{T, eqb, eqb→eq, eqb_refl}
use lib.ListN.{length, get_or}
use Rattle.prelude.specs.Lists.{keep, upto, mem}
use Rattle.records.specs.Refusal.{Out, val, fault, ◌>>=◌}
use Rattle.prelude.specs.Owned.{of}
use Rattle.model.specs.Owned.{home}
use Rattle.model.specs.Runs.{Run}
use Rattle.model.specs.ChartSet.{ChartSet, transition, waits}
use Rattle.model.specs.Charts.{row, first_that}
use Rattle.model.specs.ChartFile.{priorities_differ}
use Rattle.model.specs.AutomataTable.{Literal, edge, clock_at}
use Rattle.model.specs.Automata.{condition_holds, literal_holds, reads, opens, leaving, open_edges}
use Rattle.model.specs.Translation.{Origin, from_transition, from_waiting, from_idling, state_count, transition_count, origins, edge_number, waiting_clock, tried_before, literal, must_nots, waiting_literal, literals_of, twin}
use Rattle.prelude.proofs.Bools.{to-left, to-right, and_right, is_false, not-of, eq→eqb, eqb-ne}
use Rattle.prelude.proofs.Lists.{keep-mem, mem-kept, distinct-keep, from-mem, mem-from, distinct_from}
use Rattle.model.proofs.TranslationOrigins.{IsOrigin, idle_for, waits_one, edges-count, edge_number-in, by-origin, edge-of, of-origin}
use Rattle.model.proofs.ChartsRow.{row-mem, mem-row, row-once, row-by-priority, row_before-tried_before}
use Rattle.model.proofs.AutomataOpen.{edge_for, onward, Closed, reads-nots, opens-first, own}

pub first_that-alike : (f h : ℕ → Out Bool) (ts : List ℕ) → ((t : ℕ) → T (mem t ts) → f t ≡ h t) → first_that f ts ≡ first_that h ts
unfolding first_that mem
first_that-alike f h [] e = refl
first_that-alike f h (t ∷ ts) e =
    rw (e t (to-left (eqb t t) (mem t ts) (eqb_refl t)), first_that-alike f h ts (λ u m. e u (to-right (eqb t u) (mem u ts) m)))

-- ---- open edges

module _ (cs : ChartSet) (c s : ℕ)
    (ranks : (t : ℕ) → t < transition_count cs → (1 ≤ (transition cs t).priority) × ((transition cs t).priority ≤ 16)) (differ : T (priorities_differ cs s)) (at_home : home cs.homes s ≡ c) (in-states : s < state_count cs) where
  -- the edges that leave: the row's, and the idle ones
  leaves : ℕ → Bool
  leaves e = eqb (edge (twin cs) e).automaton c && eqb (edge (twin cs) e).source s

  leaving-is : leaving (twin cs) c s ≡ keep leaves (upto (length (origins cs)))
  unfolding leaves
  leaving-is = ap (λ n. keep (λ e. eqb (edge (twin cs) e).automaton c && eqb (edge (twin cs) e).source s) (upto n)) (edges-count cs)

  has-edge : (o : Origin) → IsOrigin cs o → (edge (twin cs) (edge_number cs o)).automaton ≡ c → (edge (twin cs) (edge_number cs o)).source ≡ s → T (mem (edge_number cs o) (keep leaves (upto (length (origins cs)))))
  unfolding leaves
  has-edge o i a b =
      mem-kept leaves (edge_number cs o) (upto (length (origins cs))) (rw (eq→eqb a, eq→eqb b) tt)
      (mem-from (edge_number cs o) 0 (length (origins cs)) zero-le (omega (arith, edge_number-in cs o i)))

  has-row : (t : ℕ) → T (mem t (row cs s)) → T (mem t (keep leaves (upto (length (origins cs)))))
  has-row t m =
      let h : (t < transition_count cs) × ((transition cs t).source ≡ s) = row-mem cs s t m in
      let ed = edge-of cs (from_transition t) h.0 in
      has-edge (from_transition t) h.0 (ap (λ x. x.automaton) ed ∙ ap (home cs.homes) h.1 ∙ at_home) (ap (λ x. x.source) ed ∙ h.1)

  -- an edge that leaves is of the row, or idle
  leaves_by : (P : ℕ → Type 0) → ((t : ℕ) → T (mem t (row cs s)) → P t) → (IsOrigin cs (from_waiting s) → P (edge_number cs (from_waiting s))) → P (edge_number cs (from_idling s)) →
      (e : ℕ) → T (mem e (keep leaves (upto (length (origins cs))))) → P e
  unfolding leaves
  leaves_by P of_row of-wait of-idle e m =
      let k : T (leaves e) × T (mem e (upto (length (origins cs)))) = keep-mem leaves e (upto (length (origins cs))) m in
      let z : T (eqb (edge (twin cs) e).source s) = and_right (eqb (edge (twin cs) e).automaton c) (eqb (edge (twin cs) e).source s) k.0 in
      by-origin cs (λ e. (edge (twin cs) e).source ≡ s → P e) go e (omega (arith, from-mem e 0 (length (origins cs)) k.1)) (eqb→eq (edge (twin cs) e).source s z)
    where
      go : (o : Origin) → IsOrigin cs o → (edge (twin cs) (edge_number cs o)).source ≡ s → P (edge_number cs o)
      go (from_transition t) i z = of_row t (mem-row cs s t i (sym (ap (λ x. x.source) (edge-of cs (from_transition t) i)) ∙ z))
      go (from_waiting u) i z =
          let same : u ≡ s = sym (ap (λ x. x.source) (edge-of cs (from_waiting u) i)) ∙ z in
          subst (λ v. P (edge_number cs (from_waiting v))) (sym same) (of-wait (subst (λ v. IsOrigin cs (from_waiting v)) same i))
      go (from_idling u) i z =
          let same : u ≡ s = sym (ap (λ x. x.source) (edge-of cs (from_idling u) i)) ∙ z in
          subst (λ v. P (edge_number cs (from_idling v))) (sym same) of-idle

  -- an idle edge is no transition's
  apart : (e : ℕ) → transition_count cs ≤ e → mem e (row cs s) ≡ false
  apart e l = is_false {b = mem e (row cs s)} (not-of (mem e (row cs s)) (λ m. omega (arith, (row-mem cs s e m).0)))

  module _ (q : Run) (f : ℕ → Out Bool) (agree : (t : ℕ) → T (mem t (row cs s)) → condition_holds (twin cs) q (literal cs true t) ≡ f t) (stands : get_or q.at c 0 ≡ s)
      (due : Bool) (undue : waits cs s ≡ [] → due ≡ false) (at-clock : (ms : ℕ) → waits cs s ≡ ms ∷ [] → eqb (get_or q.timers (waiting_clock cs s) 0) (clock_at (twin cs) (waiting_clock cs s)).ticks ≡ due) where
    abbrev lh : Literal → Out Bool
    lh = literal_holds (twin cs) q

    abbrev holds : ℕ → Out Bool
    holds t = condition_holds (twin cs) q (literal cs true t)

    abbrev reading : ℕ → Out Bool
    reading e = reads lh (of e (twin cs).literals)

    own-reading : (t : ℕ) → T (mem t (row cs s)) → reading t ≡ own holds (literal cs) lh (λ t. refl) (λ t. refl) t (row cs s)
    own-reading t m =
        let h : (t < transition_count cs) × ((transition cs t).source ≡ s) = row-mem cs s t m in
        ap (reads lh) (of-origin cs (literals_of cs) (from_transition t) h.0)
        ∙ ap (λ l. reads lh (map (literal cs false) l ++ (literal cs true t ∷ [])))
        (ap (λ z. tried_before cs z (transition cs t).priority) h.1 ∙ sym (row_before-tried_before cs ranks s differ t h.0 h.1))

    -- the must-nots, and then what is left to read
    nots-reading : (rest : List Literal) (b : Bool) → reads lh rest ≡ val b → reads lh (must_nots cs s ++ rest) ≡ (first_that holds (row cs s) >>= λ a. onward a (val b))
    nots-reading rest b e =
        ap (λ l. reads lh (map (literal cs false) l ++ rest)) (sym (row-by-priority cs ranks s))
        ∙ reads-nots holds (literal cs) lh (λ t. refl) (λ t. refl) (row cs s) rest
        ∙ ap (λ o. first_that holds (row cs s) >>= λ a. onward a o) e

    wait-reads : (ms : ℕ) → waits cs s ≡ ms ∷ [] → (must : Bool) → reads lh (waiting_literal cs must s ∷ []) ≡ val (cond must due (not due))
    unfolding reads
    wait-reads ms w must = go must (eqb (get_or q.timers (waiting_clock cs s) 0) (clock_at (twin cs) (waiting_clock cs s)).ticks) refl due (at-clock ms w)
      where
        go : (must b : Bool) → eqb (get_or q.timers (waiting_clock cs s) 0) (clock_at (twin cs) (waiting_clock cs s)).ticks ≡ b → (d : Bool) → eqb (get_or q.timers (waiting_clock cs s) 0) (clock_at (twin cs) (waiting_clock cs s)).ticks ≡ d →
            reads lh (waiting_literal cs must s ∷ []) ≡ val (cond must d (not d))
        go true true e d x = rw (sym x, e)
        go true false e d x = rw (sym x, e)
        go false true e d x = rw (sym x, e)
        go false false e d x = rw (sym x, e)

    waiting-reading : (i : IsOrigin cs (from_waiting s)) → reading (edge_number cs (from_waiting s)) ≡ (first_that holds (row cs s) >>= λ a. onward a (val due))
    waiting-reading i = ap (reads lh) (of-origin cs (literals_of cs) (from_waiting s) i) ∙ nots-reading (waiting_literal cs true s ∷ []) due (wait-reads i.1.0 i.1.1 true)

    idle-reading : reading (edge_number cs (from_idling s)) ≡ (first_that holds (row cs s) >>= λ a. onward a (val (not due)))
    unfolding reads
    idle-reading = ap (reads lh) (of-origin cs (literals_of cs) (from_idling s) in-states) ∙ go (waits_one cs s)
      where
        go : (waits cs s ≡ []) ⊎ ((ms : ℕ) × (waits cs s ≡ ms ∷ [])) → reads lh (must_nots cs s ++ map (λ _. waiting_literal cs false s) (waits cs s)) ≡ (first_that holds (row cs s) >>= λ a. onward a (val (not due)))
        go (inl w) = ap (λ l. reads lh (must_nots cs s ++ map (λ _. waiting_literal cs false s) l)) w ∙ nots-reading [] (not due) (ap (λ b. val (not b)) (sym (undue w)))
        go (inr w) = ap (λ l. reads lh (must_nots cs s ++ map (λ _. waiting_literal cs false s) l)) w.1 ∙ nots-reading (waiting_literal cs false s ∷ []) (not due) (wait-reads w.0 w.1 false)

    -- the idle edge that is taken, and the other
    pub is-idle : IsOrigin cs (idle_for due s)
    is-idle = go due refl (waits_one cs s)
      where
        go : (d : Bool) → due ≡ d → (waits cs s ≡ []) ⊎ ((ms : ℕ) × (waits cs s ≡ ms ∷ [])) → IsOrigin cs (idle_for d s)
        go false e w = in-states
        go true e (inl w) = absurd (subst T (sym e ∙ undue w) tt)
        go true e (inr w) = (in-states, w)

    -- the one open edge is that of the first that holds
    pub open_edges-first : open_edges (twin cs) c q ≡ (first_that f (row cs s) >>= λ a. val (edge_for (edge_number cs (idle_for due s)) a ∷ []))
    open_edges-first =
        ap (λ l. opens reading (leaving (twin cs) c l)) stands
        ∙ ap (opens reading) leaving-is
        ∙ by due refl is-idle
        ∙ ap (λ o. o >>= λ a. val (edge_for (edge_number cs (idle_for due s)) a ∷ [])) (first_that-alike holds f (row cs s) agree)
      where
        edges : List ℕ
        edges = keep leaves (upto (length (origins cs)))

        whole : (i : ℕ) → T (mem i edges) → transition_count cs ≤ i → ((e : ℕ) → T (mem e edges) → eqb e i ≡ false → T (mem e (row cs s)) ⊎ Closed holds (literal cs) lh (λ t. refl) (λ t. refl) (row cs s) edges i reading e) →
            reading i ≡ (first_that holds (row cs s) >>= λ a. onward a (val true)) → opens reading edges ≡ (first_that holds (row cs s) >>= λ a. val (edge_for i a ∷ []))
        whole i m l only e =
            opens-first holds (literal cs) lh (λ t. refl) (λ t. refl) (row cs s) edges i reading
            (row-once cs s) (distinct-keep leaves (upto (length (origins cs))) (distinct_from 0 (length (origins cs)))) m (apart i l) only has-row own-reading e

        there : (o : Origin) → IsOrigin cs o → (edge (twin cs) (edge_number cs o)).automaton ≡ c → (edge (twin cs) (edge_number cs o)).source ≡ s → T (mem (edge_number cs o) edges)
        there = has-edge

        by : (d : Bool) → due ≡ d → IsOrigin cs (idle_for d s) → opens reading edges ≡ (first_that holds (row cs s) >>= λ a. val (edge_for (edge_number cs (idle_for d s)) a ∷ []))
        by true e i =
            whole (edge_number cs (from_waiting s)) (there (from_waiting s) i (ap (λ x. x.automaton) (edge-of cs (from_waiting s) i) ∙ at_home) (ap (λ x. x.source) (edge-of cs (from_waiting s) i))) (omega arith)
            (λ n m x. leaves_by (λ n. eqb n (edge_number cs (from_waiting s)) ≡ false → T (mem n (row cs s)) ⊎ Closed holds (literal cs) lh (λ t. refl) (λ t. refl) (row cs s) edges (edge_number cs (from_waiting s)) reading n)
            (λ t k y. inl k)
            (λ j y. absurd (eqb-ne {a = edge_number cs (from_waiting s)} {b = edge_number cs (from_waiting s)} y refl))
            (λ y. inr (apart (edge_number cs (from_idling s)) (omega arith), idle-reading ∙ ap (λ b. first_that holds (row cs s) >>= λ a. onward a (val (not b))) e))
            n m x)
            (waiting-reading i ∙ ap (λ b. first_that holds (row cs s) >>= λ a. onward a (val b)) e)
        by false e i =
            whole (edge_number cs (from_idling s)) (there (from_idling s) in-states (ap (λ x. x.automaton) (edge-of cs (from_idling s) in-states) ∙ at_home) (ap (λ x. x.source) (edge-of cs (from_idling s) in-states))) (omega arith)
            (λ n m x. leaves_by (λ n. eqb n (edge_number cs (from_idling s)) ≡ false → T (mem n (row cs s)) ⊎ Closed holds (literal cs) lh (λ t. refl) (λ t. refl) (row cs s) edges (edge_number cs (from_idling s)) reading n)
            (λ t k y. inl k)
            (λ j y. inr (apart (edge_number cs (from_waiting s)) (omega arith), waiting-reading j ∙ ap (λ b. first_that holds (row cs s) >>= λ a. onward a (val b)) e))
            (λ y. absurd (eqb-ne {a = edge_number cs (from_idling s)} {b = edge_number cs (from_idling s)} y refl))
            n m x)
            (idle-reading ∙ ap (λ b. first_that holds (row cs s) >>= λ a. onward a (val (not b))) e)
