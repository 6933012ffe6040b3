-- Runs that are alike correspond: the clocks that a location's literals read are those of the transitions that leave its state. Assumes nothing.
use mathlib.Core.Path.{◌≡◌, refl, sym, ap, ◌∙◌, subst}
use mathlib.Core.Logic.{◌⊎◌, inl, inr}
use mathlib.Core.Bool.{Bool, true, false, ◌&&◌, ◌||◌}
use mathlib.Core.List.{List, [], ◌∷◌, ◌++◌, map}
use Prim.Native.Nat.{ℕ, ◌+◌, ◌-◌, ◌≤◌, ◌<◌}
use native.Mathlib.Omega.{arith}
use lib.Dec.{T, eqb, eqb→eq, eqb_refl}
use lib.ListN.{length, get_or}
use Rattle.prelude.specs.Lists.{gather, from, upto, mem}
use Rattle.model.specs.Limits.{most_priorities}
use Rattle.prelude.specs.Owned.{of}
use Rattle.model.specs.Runs.{Run}
use Rattle.model.specs.ChartSet as C
use Rattle.model.specs.ChartSet.{ChartSet, transition, waits}
use Rattle.model.specs.Charts.{ticks}
use Rattle.model.specs.AutomataTable as A
use Rattle.model.specs.AutomataTable.{Clock, Literal, edge, clock_at}
use Rattle.model.specs.Automata.{leaving}
use Rattle.model.specs.Translation.{Origin, from_transition, from_waiting, from_idling, state_count, transition_count, origins, edge_number, clocks_of, clock_of, waiting_clock, literal_trigger_of, literal, tried_before, must_nots, waiting_literal, literals_of, twin}
use Rattle.model.specs.Correspondence.{clock_for, clock_read, clocks_read, Corresponds}
use Rattle.prelude.proofs.Bools.{and_right, to-left, to-right}
use Rattle.prelude.proofs.Lists.{mem-append, gather-mem, keep-mem, from-mem}
use Rattle.model.proofs.ChartsRow.{of_priority, of_priority-mem}
use Rattle.model.proofs.TranslationOrigins.{IsOrigin, waits_one, edges-count, by-origin, edge-of, of-origin}
use Rattle.model.proofs.TranslationClocks.{ClockOf, own_at}
use Rattle.model.proofs.CorrespondenceStep.{Alike}

abbrev clocks_in : List Literal → List ℕ
clocks_in ls = gather (λ x. clock_read x.trigger) ls

or-false : (b : Bool) → T (b || false) → T b
or-false true m = tt
or-false false m = m

-- clock k belongs to state s
abbrev Timing : ChartSet → ℕ → ℕ → Type 0
Timing cs s k = (x : Clock) × ClockOf cs s k x

module _ (cs : ChartSet) where
  -- a literal reads the clock of its transition
  read_one : (k : ℕ) (must : Bool) (t : ℕ) → T (mem k (clock_read (literal cs must t).trigger)) → (k ≡ clock_of cs t) × ((x : Clock) × (clocks_of (transition cs t).trigger ≡ x ∷ []))
  unfolding mem
  read_one k must t h = go (transition cs t).trigger h
    where
      go : (g : C.Trigger) → T (mem k (clock_read (literal_trigger_of cs t g))) → (k ≡ clock_of cs t) × ((x : Clock) × (clocks_of g ≡ x ∷ []))
      go C.always h = absurd h
      go (C.event e) h = absurd h
      go (C.after ms) h = (sym (eqb→eq (clock_of cs t) k (or-false (eqb (clock_of cs t) k) h)), (record { timing = A.after; ticks = ticks ms }, refl))
      go (C.every ms) h = (sym (eqb→eq (clock_of cs t) k (or-false (eqb (clock_of cs t) k) h)), (record { timing = A.every; ticks = ticks ms }, refl))

  read_of : (k l t : ℕ) (must : Bool) → t < transition_count cs → (transition cs t).source ≡ l → T (mem k (clock_read (literal cs must t).trigger)) → Timing cs l k
  read_of k l t must i e h = ((read_one k must t h).1.0, inl (t, i, e, (read_one k must t h).0, (read_one k must t h).1.1))

  -- must-nots of transitions that leave l, and what follows them
  read-nots : (k l : ℕ) (ts : List ℕ) (rest : List Literal) → ((t : ℕ) → T (mem t ts) → (t < transition_count cs) × ((transition cs t).source ≡ l)) → (T (mem k (clocks_in rest)) → Timing cs l k) →
      T (mem k (clocks_in (map (literal cs false) ts ++ rest))) → Timing cs l k
  unfolding gather mem
  read-nots k l [] rest All-from then h = then h
  read-nots k l (t ∷ ts) rest All-from then h =
      go (mem-append k (clock_read (literal cs false t).trigger) (clocks_in (map (literal cs false) ts ++ rest)) h)
      (read-nots k l ts rest (λ u m. All-from u (to-right (eqb t u) (mem u ts) m)) then)
    where
      go : T (mem k (clock_read (literal cs false t).trigger)) ⊎ T (mem k (clocks_in (map (literal cs false) ts ++ rest))) → (T (mem k (clocks_in (map (literal cs false) ts ++ rest))) → Timing cs l k) → Timing cs l k
      go (inl a) ih = let f : (t < transition_count cs) × ((transition cs t).source ≡ l) = All-from t (to-left (eqb t t) (mem t ts) (eqb_refl t)) in read_of k l t false f.0 f.1 a
      go (inr b) ih = ih b

  above_from : (l p t : ℕ) → T (mem t (tried_before cs l p)) → (t < transition_count cs) × ((transition cs t).source ≡ l)
  above_from l p t m =
      let (q, i, j) = gather-mem (of_priority cs l) t (from 1 (p - 1)) m in
      let k : (t < transition_count cs) × ((transition cs t).source ≡ l) × ((transition cs t).priority ≡ q) = of_priority-mem cs l q t j in
      (k.0, k.1)

  -- a clock that is read at a location is one of a transition that leaves the state
  read-leaving : (a l k : ℕ) → T (mem k (clocks_read (twin cs) a l)) → Timing cs l k
  unfolding gather mem
  read-leaving a l k h =
      let (e, i, j) = gather-mem (λ e. clocks_in (of e (twin cs).literals)) k (leaving (twin cs) a l) h in
      let y : T (leaves e) × T (mem e (upto (length (twin cs).edges))) = keep-mem leaves e (upto (length (twin cs).edges)) i in
      let b : (0 ≤ e) × (e < 0 + length (twin cs).edges) = from-mem e 0 (length (twin cs).edges) y.1 in
      let n : length (twin cs).edges ≡ length (origins cs) = edges-count cs in
      by-origin cs (λ e. (edge (twin cs) e).source ≡ l → T (mem k (clocks_in (of e (twin cs).literals))) → Timing cs l k) go e (omega arith)
      (eqb→eq (edge (twin cs) e).source l (and_right (eqb (edge (twin cs) e).automaton a) (eqb (edge (twin cs) e).source l) y.0)) j
    where
      leaves : ℕ → Bool
      leaves e = eqb (edge (twin cs) e).automaton a && eqb (edge (twin cs) e).source l

      own-one : (e : ℕ) → e < transition_count cs → (transition cs e).source ≡ l → T (mem k (clocks_in (literal cs true e ∷ []))) → Timing cs l k
      own-one e i s m = pick (mem-append k (clock_read (literal cs true e).trigger) [] m)
        where
          pick : T (mem k (clock_read (literal cs true e).trigger)) ⊎ T (mem k []) → Timing cs l k
          pick (inl z) = read_of k l e true i s z
          pick (inr z) = absurd z

      -- the waiting clock
      read-wait : (must : Bool) (s : ℕ) → s < state_count cs → (ms : ℕ) × (waits cs s ≡ ms ∷ []) → T (mem k (clocks_in (waiting_literal cs must s ∷ []))) → Timing cs s k
      read-wait must s h w m = pick (mem-append k (waiting_clock cs s ∷ []) [] m)
        where
          pick : T (mem k (waiting_clock cs s ∷ [])) ⊎ T (mem k []) → Timing cs s k
          pick (inl z) = (record { timing = A.every; ticks = ticks w.0 }, inr (h, sym (eqb→eq (waiting_clock cs s) k (or-false (eqb (waiting_clock cs s) k) z)), ap (map (λ ms. record { timing = A.every; ticks = ticks ms })) w.1))
          pick (inr z) = absurd z

      idle-wait : (s : ℕ) → s < state_count cs → (waits cs s ≡ []) ⊎ ((ms : ℕ) × (waits cs s ≡ ms ∷ [])) → T (mem k (clocks_in (map (λ _. waiting_literal cs false s) (waits cs s)))) → Timing cs s k
      idle-wait s h (inl w) m = absurd (subst (λ l. T (mem k (clocks_in (map (λ _. waiting_literal cs false s) l)))) w m)
      idle-wait s h (inr w) m = read-wait false s h w (subst (λ l. T (mem k (clocks_in (map (λ _. waiting_literal cs false s) l)))) w.1 m)

      go : (o : Origin) → IsOrigin cs o → (edge (twin cs) (edge_number cs o)).source ≡ l → T (mem k (clocks_in (of (edge_number cs o) (twin cs).literals))) → Timing cs l k
      go (from_transition t) t-in z j =
          let s-is : (transition cs t).source ≡ l = sym (ap (λ x. x.source) (edge-of cs (from_transition t) t-in)) ∙ z in
          let lits : of t (twin cs).literals ≡ map (literal cs false) (tried_before cs l (transition cs t).priority) ++ (literal cs true t ∷ []) =
          of-origin cs (literals_of cs) (from_transition t) t-in ∙ ap (λ w. map (literal cs false) (tried_before cs w (transition cs t).priority) ++ (literal cs true t ∷ [])) s-is in
          read-nots k l (tried_before cs l (transition cs t).priority) (literal cs true t ∷ []) (above_from l (transition cs t).priority) (own-one t t-in s-is) (subst (λ w. T (mem k (clocks_in w))) lits j)
      go (from_waiting s) i z j =
          let l-is : s ≡ l = sym (ap (λ x. x.source) (edge-of cs (from_waiting s) i)) ∙ z in
          read-nots k l (tried_before cs l (most_priorities + 1)) (waiting_literal cs true l ∷ []) (above_from l (most_priorities + 1)) (read-wait true l (subst (λ w. w < state_count cs) l-is i.0) (subst (λ w. (ms : ℕ) × (waits cs w ≡ ms ∷ [])) l-is i.1))
          (subst (λ w. T (mem k (clocks_in w))) (of-origin cs (literals_of cs) (from_waiting s) i ∙ ap (λ w. must_nots cs w ++ (waiting_literal cs true w ∷ [])) l-is) j)
      go (from_idling s) s-in z j =
          let l-is : s ≡ l = sym (ap (λ x. x.source) (edge-of cs (from_idling s) s-in)) ∙ z in
          let l-in : l < state_count cs = subst (λ w. w < state_count cs) l-is s-in in
          read-nots k l (tried_before cs l (most_priorities + 1)) (map (λ _. waiting_literal cs false l) (waits cs l)) (above_from l (most_priorities + 1)) (idle-wait l l-in (waits_one cs l))
          (subst (λ w. T (mem k (clocks_in w))) (of-origin cs (literals_of cs) (from_idling s) s-in ∙ ap (λ w. must_nots cs w ++ map (λ _. waiting_literal cs false w) (waits cs w)) l-is) j)

  pub corresponds-alike : (r q : Run) → Alike cs r q → Corresponds cs (twin cs) r q
  corresponds-alike r q al = record {
    worlds = al.worlds;
    places = λ c h. ap (λ z. get_or z c 0) al.ats;
    timers = λ c h k m.
        let y : Timing cs (get_or q.at c 0) k = read-leaving c (get_or q.at c 0) k m in
        let o : ClockOf cs (get_or r.at c 0) k y.0 = subst (λ z. ClockOf cs (get_or z c 0) k y.0) (sym al.ats) y.1 in
        al.timed.same c k y.0 h o ∙ sym (ap (λ z. clock_for z.timing z.ticks (get_or r.timers c 0)) (own_at cs (get_or r.at c 0) k y.0 o));
  }
