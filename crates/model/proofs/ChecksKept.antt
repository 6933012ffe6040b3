-- A done cycle of a possible run leaves a possible run at position 1, for chart sets and for automata tables that are not refused; so a long run is
-- checked by 12 once. Assumes nothing.
use mathlib.Core.Path.{◌≡◌, refl, sym, ap, ◌∙◌, subst}
use mathlib.Core.Bool.{Bool, true, false, cond}
use Prim.Native.Nat.{ℕ, zero, suc, ◌+◌, ◌-◌, ◌≤◌, ◌<◌}
use native.Mathlib.Omega.{arith}
use lib.Dec.{T, leb, leb→le, nleb→lt}
use lib.ListN.{length, get_or}
use Rattle.records.specs.Refusal.{Out, val, fault, ◌>>=◌}
use Rattle.model.specs.Runs.{Run, Answer, taken, idle, time, Machine, parts, possible, checked, give, moved, time_passed, stepped, unless_stopped, onto, turns, ended, cycle}
use Rattle.prelude.proofs.Bools.{of-true, not-false}
use Rattle.model.proofs.ChecksPossible.{Fits, Resting, possible-of, possible-fits, possible-rests, time-rests, checked-possible, checked_later-count}

-- time's answer is no part's
abbrev pub NotTime : Answer → Type 0
NotTime (taken t) = Unit
NotTime idle = Unit
NotTime time = ⊥

-- ---- any machine

module _ (m : Machine) where
  -- a run with the same places and count
  pub fits-same : (r r₁ : Run) → r₁.at ≡ r.at → r₁.timers ≡ r.timers → r₁.world.vars ≡ r.world.vars → r₁.world.cycles ≡ r.world.cycles → Fits m r → Fits m r₁
  fits-same r r₁ at timers vars cycles f = record {
    room = subst (λ l. length l ≡ 8) (sym at) f.room;
    home = subst (λ l. (c : ℕ) → c < parts m → (get_or l c 0 < length m.homes) × (get_or m.homes (get_or l c 0) 0 ≡ c)) (sym at) f.home;
    rest = subst (λ l. (k : ℕ) → parts m ≤ k → get_or l k 0 ≡ 0) (sym at) f.rest;
    valued = rw vars f.valued;
    timer_room = subst (λ l. length l ≡ m.timers_room) (sym timers) f.timer_room;
    timer_low = λ k h. rw (timers, cycles) (f.timer_low k h);
    timer_rest = subst (λ l. (k : ℕ) → m.timers_used ≤ k → get_or l k 0 ≡ 0) (sym timers) f.timer_rest;
  }

  -- what a part's turn that comes to x keeps, and how it answers
  abbrev pub Keeps : Run → Answer × Run → Type 0
  Keeps r x = Fits m x.1 × (x.1.world.cycles ≡ r.world.cycles) × (x.1.world.position ≡ r.world.position) × NotTime x.0

  -- what a part's turn and time keep
  pub record Steady : Type 0 where
    pub step_fits_lem : (c : ℕ) (r : Run) (x : Answer × Run) → c < parts m → Fits m r → m.step c r ≡ val x → Keeps r x
    pub fits_time : (r : Run) → Fits m r → Fits m (time_passed m r)

  -- the run at the end of a cycle that r is in
  abbrev Through : Run → Run → Type 0
  Through r r₁ = Fits m r₁ × (r₁.world.position ≡ 1) × (r₁.world.cycles ≡ r.world.cycles + 1) × (r₁.world.events ≡ 0)

  -- where there is a turn, the run before it does not matter
  ended-turns : (k : ℕ) (a b : Run) → 1 ≤ k → ended a (turns m k b) ≡ ended b (turns m k b)
  unfolding turns ended
  ended-turns zero a b l = absurd (omega arith)
  ended-turns (suc k) a b l = by (stepped m b)
    where
      by : (o : Out (Answer × Run)) → ended a (onto b o (turns m k)) ≡ ended b (onto b o (turns m k))
      by (fault w) = refl
      by (val x) = refl

  module _ (ok : Steady) where
    -- from a run within a cycle, so many turns before its end
    turns_fit : (k : ℕ) (r r₁ : Run) → Fits m r → 1 ≤ r.world.position → k + r.world.position ≡ parts m + 2 → r.world.position ≤ parts m + 1 → ended r (turns m k r) ≡ val r₁ → Through r r₁
    unfolding turns ended
    turns_fit zero r r₁ f low n high e = absurd (omega arith)
    turns_fit (suc k) r r₁ f low n high e = go (leb r.world.position (parts m)) refl (λ q. turns_fit k q r₁) e
      where
        part : ((q : Run) → Fits m q → 1 ≤ q.world.position → k + q.world.position ≡ parts m + 2 → q.world.position ≤ parts m + 1 → ended q (turns m k q) ≡ val r₁ → Through q r₁) → r.world.position ≤ parts m → (o : Out (Answer × Run)) → m.step (r.world.position - 1) r ≡ o →
            ended r (onto r (o >>= λ x. val (x.0, moved x.1)) (turns m k)) ≡ val r₁ → Through r r₁
        part ih l (fault w) q e = let z : ◌≡◌ {A = ℕ} 0 1 = cc in absurd (omega arith)
        part ih l (val x) q e =
            let s : Keeps r x = ok.step_fits_lem (r.world.position - 1) r x (omega arith) f q in
            let p : x.1.world.position ≡ r.world.position = s.2 in
            let d : Through x.1 r₁ = ih (moved x.1) (fits-same x.1 (moved x.1) refl refl refl refl s.0) (omega arith) (omega arith) (omega arith) e in
            (d.0, d.1, d.2 ∙ ap (λ n. n + 1) s.1, d.3)

        last : parts m < r.world.position → ended r (onto r (val (time, time_passed m r)) (turns m k)) ≡ val r₁ → Through r r₁
        last l e = subst (Through r) same (ok.fits_time r f, refl, refl, refl)
          where
            none_left : k ≡ 0
            none_left = omega arith

            same : time_passed m r ≡ r₁
            same = let z : ended (time_passed m r) (turns m 0 (time_passed m r)) ≡ val r₁ = subst (λ n. ended (time_passed m r) (turns m n (time_passed m r)) ≡ val r₁) none_left e in cc

        go : (b : Bool) → leb r.world.position (parts m) ≡ b →
            ((q : Run) → Fits m q → 1 ≤ q.world.position → k + q.world.position ≡ parts m + 2 → q.world.position ≤ parts m + 1 → ended q (turns m k q) ≡ val r₁ → Through q r₁) →
            ended r (onto r (cond b (m.step (r.world.position - 1) r >>= λ x. val (x.0, moved x.1)) (val (time, time_passed m r))) (turns m k)) ≡ val r₁ → Through r r₁
        go true q ih e = part ih (leb→le r.world.position (parts m) (of-true q)) (m.step (r.world.position - 1) r) refl e
        go false q ih e = last (nleb→lt r.world.position (parts m) (not-false q)) e

    pub cycle-possible : (given : ℕ) (r r₁ : Run) → T (possible m r) → cycle m given r ≡ val (tt, r₁) → T (possible m r₁) × (r₁.world.position ≡ 1) × (r₁.world.cycles ≡ r.world.cycles + 1)
    unfolding ended
    cycle-possible given r r₁ t e = go (checked m given r) refl e
      where
        rests : Resting m r.world
        rests = possible-rests m r t

        turned : (o : Out Run) → ended r (turns m (parts m + 2 - r.world.position) (give given r)) ≡ o → ◌>>=◌ {B = Unit {0} × Run} o (λ r₁. val (tt, r₁)) ≡ val (tt, r₁) → o ≡ val r₁
        turned (fault w) q e = let z : ◌≡◌ {A = ℕ} 0 1 = cc in absurd (omega arith)
        turned (val x) q e = let z : ◌≡◌ {A = Unit {0} × Run} (tt, x) (tt, r₁) = cc in ap (λ p. val p.1) z

        go : (o : Out (Unit {0})) → checked m given r ≡ o →
            ◌>>=◌ {B = Unit {0} × Run} (ended r (unless_stopped o (turns m (parts m + 2 - r.world.position) (give given r)))) (λ r₁. val (tt, r₁)) ≡ val (tt, r₁) →
            T (possible m r₁) × (r₁.world.position ≡ 1) × (r₁.world.cycles ≡ r.world.cycles + 1)
        go (fault w) q e = let z : ◌≡◌ {A = ℕ} 0 1 = cc in absurd (omega arith)
        go (val u) q e =
            let low : 1 ≤ r.world.position = rests.low in
            let high : r.world.position ≤ parts m + 1 = rests.high in
            let few : r.world.cycles ≤ 999_999 = checked_later-count m given r.world u rests.count (sym (checked-possible m given r t) ∙ q) in
            let d : Through r r₁ = turns_fit (parts m + 2 - r.world.position) (give given r) r₁ (fits-same r (give given r) refl refl refl refl (possible-fits m r t)) low (omega arith) high
            (sym (ended-turns (parts m + 2 - r.world.position) r (give given r) (omega arith)) ∙ turned (ended r (turns m (parts m + 2 - r.world.position) (give given r))) refl e) in
            let p : r₁.world.position ≡ 1 = d.1 in
            let c : r₁.world.cycles ≡ r.world.cycles + 1 = d.2 in (
              possible-of m r₁ d.0 (time-rests m r.world r₁.world few p c d.3),
              p,
              c,
            )
