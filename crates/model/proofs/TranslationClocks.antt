-- A twin's clocks: which transition has which, where they stand in the table, and what resetting does to them. Assumes nothing.
use mathlib.Core.Path.{◌≡◌, refl, sym, ap, ◌∙◌, subst}
use mathlib.Core.Logic.{◌⊎◌, inl, inr}
use mathlib.Core.Bool.{Bool, true, false, not, cond, ◌||◌}
use mathlib.Core.List.{List, [], ◌∷◌, map}
use Prim.Native.Nat.{ℕ, ◌+◌, ◌≤◌, ◌<◌, zero-le}
use native.Mathlib.Nat.{le_refl, le_trans}
use native.Mathlib.Omega.{arith}
use lib.Dec.{T, ltb, eqb, eqb→eq, eqb_refl, ltb→lt, nltb→le}
use lib.ListN.{length, get_or, set, length-set, length-append, get_or-append}
use lib.Seq.{set_out, get_or-set_same, get_or-set_other}
use Rattle.prelude.specs.Lists.{gather, upto, mem}
use Rattle.model.specs.ChartSet as C
use Rattle.model.specs.ChartSet.{ChartSet, Trigger, no_transition, transition, waits}
use Rattle.model.specs.Charts.{ticks}
use Rattle.model.specs.AutomataTable as A
use Rattle.model.specs.AutomataTable.{Clock, no_clock, clock_at}
use Rattle.model.specs.Automata.{reset}
use Rattle.model.specs.Translation.{state_count, transition_count, clocks_of, transition_clocks, waiting_clocks, clock_of, waiting_clock, clocks_leaving, clocks_of_state, twin}
use Rattle.prelude.proofs.Bools.{to-left, to-right, or_right, of-true, clash, eq→eqb, eqb-ne}
use Rattle.prelude.proofs.Lists.{gather-mem, mem-gather, mem-append, mem-left, mem-right, from-mem, mem-from, get_or-append-at, gathered, gathered-in, gathered-less}
use Rattle.prelude.proofs.Gathers.{before, before-less, gathered-at}
use Rattle.model.proofs.TranslationOrigins.{waits_one}

-- ---- resets

pub length-reset : (ks xs : List ℕ) → length (reset ks xs) ≡ length xs
unfolding reset
length-reset [] xs = refl
length-reset (k ∷ ks) xs = length-reset ks (set xs k 0) ∙ length-set xs k 0

pub reset-out : (ks xs : List ℕ) (k : ℕ) → mem k ks ≡ false → get_or (reset ks xs) k 0 ≡ get_or xs k 0
unfolding reset mem
reset-out [] xs k m = refl
reset-out (j ∷ ks) xs k m = go (eqb j k) refl (mem k ks) refl (reset-out ks (set xs j 0) k)
  where
    go : (p : Bool) → eqb j k ≡ p → (o : Bool) → mem k ks ≡ o → (mem k ks ≡ false → get_or (reset ks (set xs j 0)) k 0 ≡ get_or (set xs j 0) k 0) →
        get_or (reset ks (set xs j 0)) k 0 ≡ get_or xs k 0
    go true q o w ih = clash {b = eqb j k || mem k ks} (to-left (eqb j k) (mem k ks) (of-true q)) m
    go false q true w ih = clash {b = eqb j k || mem k ks} (to-right (eqb j k) (mem k ks) (of-true w)) m
    go false q false w ih = ih w ∙ get_or-set_other xs j k 0 0 (λ e. eqb-ne q (sym e))

pub reset-le : (ks xs : List ℕ) (k : ℕ) → get_or (reset ks xs) k 0 ≤ get_or xs k 0
unfolding reset
reset-le [] xs k = le_refl (get_or xs k 0)
reset-le (j ∷ ks) xs k = le_trans (reset-le ks (set xs j 0) k) (go (eqb j k) refl (ltb k (length xs)) refl)
  where
    go : (p : Bool) → eqb j k ≡ p → (o : Bool) → ltb k (length xs) ≡ o → get_or (set xs j 0) k 0 ≤ get_or xs k 0
    go false q o w = rw (get_or-set_other xs j k 0 0 (λ e. eqb-ne q (sym e))) (le_refl (get_or xs k 0))
    go true q true w =
        let e : j ≡ k = eqb→eq j k (of-true q) in
        rw (e, get_or-set_same xs k 0 0 (ltb→lt k (length xs) (of-true w))) zero-le
    go true q false w =
        let l : length xs ≤ k = nltb→le k (length xs) (subst (λ b. T (not b)) (sym w) tt) in
        let e : j ≡ k = eqb→eq j k (of-true q) in
        rw (set_out xs j 0 (omega arith)) (le_refl (get_or xs k 0))

pub reset-in : (ks xs : List ℕ) (k : ℕ) → T (mem k ks) → k < length xs → get_or (reset ks xs) k 0 ≡ 0
unfolding reset mem
reset-in [] xs k m h = absurd m
reset-in (j ∷ ks) xs k m h = go (eqb j k) refl (λ n. reset-in ks (set xs j 0) k n (rw (length-set xs j 0) h))
  where
    go : (p : Bool) → eqb j k ≡ p → (T (mem k ks) → get_or (reset ks (set xs j 0)) k 0 ≡ 0) → get_or (reset ks (set xs j 0)) k 0 ≡ 0
    go false q ih = ih (or_right (eqb j k) (mem k ks) m q)
    go true q ih =
        let e : j ≡ k = eqb→eq j k (of-true q) in
        let z : get_or (set xs j 0) k 0 ≡ 0 = rw e (get_or-set_same xs k 0 0 h) in
        let l : get_or (reset ks (set xs j 0)) k 0 ≤ get_or (set xs j 0) k 0 = reset-le ks (set xs j 0) k in
        omega arith

-- ---- clocks

pub clocks_of-one : (g : Trigger) → (clocks_of g ≡ []) ⊎ ((x : Clock) × (clocks_of g ≡ x ∷ []))
clocks_of-one C.always = inl refl
clocks_of-one (C.event e) = inl refl
clocks_of-one (C.after ms) = inr (record { timing = A.after; ticks = ticks ms }, refl)
clocks_of-one (C.every ms) = inr (record { timing = A.every; ticks = ticks ms }, refl)

-- clock k, which is x, belongs to state s: it is that of a timing trigger of a transition that leaves s, or its waiting clock
abbrev pub ClockOf : ChartSet → ℕ → ℕ → Clock → Type 0
ClockOf cs s k x =
    ((t : ℕ) × (t < transition_count cs) × ((transition cs t).source ≡ s) × (k ≡ clock_of cs t) × (clocks_of (transition cs t).trigger ≡ x ∷ []))
    ⊎ ((s < state_count cs) × (k ≡ waiting_clock cs s) × (waiting_clocks cs s ≡ x ∷ []))

module _ (cs : ChartSet) where
  abbrev waiting : List Clock
  waiting = gather (waiting_clocks cs) (upto (state_count cs))

  -- ---- the clocks of transitions

  module _ (t : ℕ) (x : Clock) (h : t < transition_count cs) (e : clocks_of (transition cs t).trigger ≡ x ∷ []) where
    clock_of-low : clock_of cs t < length (transition_clocks cs)
    clock_of-low = gathered-in (λ z. clocks_of z.trigger) no_transition no_clock cs.transitions t x h e

    clock_of-at : clock_at (twin cs) (clock_of cs t) ≡ x
    clock_of-at = get_or-append (transition_clocks cs) waiting no_clock (clock_of cs t) clock_of-low ∙ gathered (λ z. clocks_of z.trigger) no_transition no_clock cs.transitions t x h e

    pub clock_of-in : clock_of cs t < length (twin cs).clocks
    clock_of-in = omega (arith, clock_of-low, length-append (transition_clocks cs) waiting)

    clock_of-less : (u : ℕ) → t < u → clock_of cs t < clock_of cs u
    clock_of-less u l = gathered-less (λ z. clocks_of z.trigger) no_transition no_clock cs.transitions t u x l h e

  clock_of-injective : (t u : ℕ) (x y : Clock) → t < transition_count cs → u < transition_count cs → clocks_of (transition cs t).trigger ≡ x ∷ [] → clocks_of (transition cs u).trigger ≡ y ∷ [] →
      clock_of cs t ≡ clock_of cs u → t ≡ u
  clock_of-injective t u x y h k e d q = go (ltb t u) refl (ltb u t) refl
    where
      go : (a : Bool) → ltb t u ≡ a → (b : Bool) → ltb u t ≡ b → t ≡ u
      go true i b j = let l : clock_of cs t < clock_of cs u = clock_of-less t x h e u (ltb→lt t u (of-true i)) in absurd (omega arith)
      go false i true j = let l : clock_of cs u < clock_of cs t = clock_of-less u y k d t (ltb→lt u t (of-true j)) in absurd (omega arith)
      go false i false j =
          let m : u ≤ t = nltb→le t u (subst (λ b. T (not b)) (sym i) tt) in
          let n : t ≤ u = nltb→le u t (subst (λ b. T (not b)) (sym j) tt) in
          omega arith

  -- ---- the waiting clocks

  module _ (s : ℕ) (x : Clock) (h : s < state_count cs) (e : waiting_clocks cs s ≡ x ∷ []) where
    waiting_clock-at : clock_at (twin cs) (waiting_clock cs s) ≡ x
    waiting_clock-at =
        get_or-append-at (transition_clocks cs) waiting (length (transition_clocks cs)) (before (waiting_clocks cs) s) no_clock refl
        ∙ ap (λ n. get_or waiting n no_clock) (let d : before (waiting_clocks cs) s ≡ before (waiting_clocks cs) s + 0 = omega arith in d)
        ∙ gathered-at (waiting_clocks cs) (state_count cs) s 0 no_clock h (omega (arith, ap length e))
        ∙ ap (λ l. get_or l 0 no_clock) e

    pub waiting_clock-in : waiting_clock cs s < length (twin cs).clocks
    waiting_clock-in = omega (arith, length-append (transition_clocks cs) waiting, before-less (waiting_clocks cs) (state_count cs) s h, ap length e)

    waiting_clock-less : (u : ℕ) → s < u → waiting_clock cs s < waiting_clock cs u
    waiting_clock-less u l = omega (arith, before-less (waiting_clocks cs) u s l, ap length e)

  waiting_clock-injective : (s u : ℕ) (x y : Clock) → s < state_count cs → u < state_count cs → waiting_clocks cs s ≡ x ∷ [] → waiting_clocks cs u ≡ y ∷ [] → waiting_clock cs s ≡ waiting_clock cs u → s ≡ u
  waiting_clock-injective s u x y h k e d q = go (ltb s u) refl (ltb u s) refl
    where
      go : (a : Bool) → ltb s u ≡ a → (b : Bool) → ltb u s ≡ b → s ≡ u
      go true i b j = absurd (omega (arith, waiting_clock-less s x h e u (ltb→lt s u (of-true i))))
      go false i true j = absurd (omega (arith, waiting_clock-less u y k d s (ltb→lt u s (of-true j))))
      go false i false j =
          let m : u ≤ s = nltb→le s u (subst (λ b. T (not b)) (sym i) tt) in
          let n : s ≤ u = nltb→le u s (subst (λ b. T (not b)) (sym j) tt) in
          omega arith

  -- ---- both

  pub own_at : (s k : ℕ) (x : Clock) → ClockOf cs s k x → clock_at (twin cs) k ≡ x
  own_at s k x (inl o) = ap (clock_at (twin cs)) o.3 ∙ clock_of-at o.0 x o.1 o.4
  own_at s k x (inr o) = ap (clock_at (twin cs)) o.1 ∙ waiting_clock-at s x o.0 o.2

  pub own_in : (s k : ℕ) (x : Clock) → ClockOf cs s k x → k < length (twin cs).clocks
  own_in s k x (inl o) = omega (arith, o.3, clock_of-in o.0 x o.1 o.4)
  own_in s k x (inr o) = omega (arith, o.1, waiting_clock-in s x o.0 o.2)

  -- a clock is of one state
  pub own-once : (s u k : ℕ) (x y : Clock) → ClockOf cs s k x → ClockOf cs u k y → s ≡ u
  own-once s u k x y (inl o) (inl p) = sym o.2 ∙ ap (λ t. (transition cs t).source) (clock_of-injective o.0 p.0 x y o.1 p.1 o.4 p.4 (sym o.3 ∙ p.3)) ∙ p.2
  own-once s u k x y (inl o) (inr p) = absurd (omega (arith, o.3, p.1, clock_of-low o.0 x o.1 o.4))
  own-once s u k x y (inr o) (inl p) = absurd (omega (arith, o.1, p.3, clock_of-low p.0 y p.1 p.4))
  own-once s u k x y (inr o) (inr p) = waiting_clock-injective s u x y o.0 p.0 o.2 p.2 (sym o.1 ∙ p.1)

  -- the clocks of a state's transitions
  its-clocks : ℕ → ℕ → List ℕ
  its-clocks s t = cond (eqb (transition cs t).source s) (map (λ _. clock_of cs t) (clocks_of (transition cs t).trigger)) []

  or-false : (b : Bool) → T (b || false) → T b
  or-false true m = tt
  or-false false m = m

  pub clocks_leaving-mem : (s k : ℕ) → T (mem k (clocks_leaving cs s)) → (x : Clock) × ClockOf cs s k x
  unfolding its-clocks mem
  clocks_leaving-mem s k m =
      let (t, i, j) = gather-mem (its-clocks s) k (upto (transition_count cs)) m in
      let b : (0 ≤ t) × (t < 0 + transition_count cs) = from-mem t 0 (transition_count cs) i in
      split t (omega arith) (eqb (transition cs t).source s) refl (clocks_of-one (transition cs t).trigger) j
    where
      split : (t : ℕ) → t < transition_count cs → (p : Bool) → eqb (transition cs t).source s ≡ p → (clocks_of (transition cs t).trigger ≡ []) ⊎ ((x : Clock) × (clocks_of (transition cs t).trigger ≡ x ∷ [])) →
          T (mem k (cond p (map (λ _. clock_of cs t) (clocks_of (transition cs t).trigger)) [])) → (x : Clock) × ClockOf cs s k x
      split t l false q o j = absurd j
      split t l true q (inl e) j = absurd (subst (λ z. T (mem k (map (λ _. clock_of cs t) z))) e j)
      split t l true q (inr xe) j =
          let j' : T (eqb (clock_of cs t) k || false) = subst (λ z. T (mem k (map (λ _. clock_of cs t) z))) xe.1 j in
          (xe.0, inl (t, l, eqb→eq (transition cs t).source s (of-true q), sym (eqb→eq (clock_of cs t) k (or-false (eqb (clock_of cs t) k) j')), xe.1))

  pub clocks_of_state-mem : (s k : ℕ) → s < state_count cs → T (mem k (clocks_of_state cs s)) → (x : Clock) × ClockOf cs s k x
  unfolding mem
  clocks_of_state-mem s k h m = pick (mem-append k (clocks_leaving cs s) (map (λ _. waiting_clock cs s) (waits cs s)) m) (waits_one cs s)
    where
      pick : T (mem k (clocks_leaving cs s)) ⊎ T (mem k (map (λ _. waiting_clock cs s) (waits cs s))) → (waits cs s ≡ []) ⊎ ((ms : ℕ) × (waits cs s ≡ ms ∷ [])) → (x : Clock) × ClockOf cs s k x
      pick (inl a) w = clocks_leaving-mem s k a
      pick (inr b) (inl w) = absurd (subst (λ l. T (mem k (map (λ _. waiting_clock cs s) l))) w b)
      pick (inr b) (inr w) =
          let j : T (eqb (waiting_clock cs s) k || false) = subst (λ l. T (mem k (map (λ _. waiting_clock cs s) l))) w.1 b in
          (record { timing = A.every; ticks = ticks w.0 }, inr (h, sym (eqb→eq (waiting_clock cs s) k (or-false (eqb (waiting_clock cs s) k) j)), ap (map (λ ms. record { timing = A.every; ticks = ticks ms })) w.1))

  pub mem-clocks_of_state : (s k : ℕ) (x : Clock) → ClockOf cs s k x → T (mem k (clocks_of_state cs s))
  unfolding its-clocks mem
  mem-clocks_of_state s k x (inl o) =
      mem-left k (clocks_leaving cs s) (map (λ _. waiting_clock cs s) (waits cs s))
      (subst (λ n. T (mem n (clocks_leaving cs s))) (sym o.3)
      (mem-gather (its-clocks s) (clock_of cs o.0) o.0 (upto (transition_count cs)) (mem-from o.0 0 (transition_count cs) zero-le (omega (arith, o.1)))
      (rw (eq→eqb o.2, o.4) (to-left (eqb (clock_of cs o.0) (clock_of cs o.0)) false (eqb_refl (clock_of cs o.0))))))
  mem-clocks_of_state s k x (inr o) = mem-right k (clocks_leaving cs s) (map (λ _. waiting_clock cs s) (waits cs s)) (here (waits_one cs s))
    where
      here : (waits cs s ≡ []) ⊎ ((ms : ℕ) × (waits cs s ≡ ms ∷ [])) → T (mem k (map (λ _. waiting_clock cs s) (waits cs s)))
      here (inl w) =
          let none : ◌≡◌ {A = ℕ} 0 1 = sym (ap (λ l. length {A = Clock} (map (λ ms. record { timing = A.every; ticks = ticks ms }) l)) w) ∙ ap length o.2 in
          absurd (omega arith)
      here (inr w) =
          subst (λ l. T (mem k (map (λ _. waiting_clock cs s) l))) (sym w.1)
          (to-left (eqb (waiting_clock cs s) k) false (subst (λ n. T (eqb (waiting_clock cs s) n)) (sym o.1) (eqb_refl (waiting_clock cs s))))
