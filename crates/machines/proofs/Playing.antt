-- Cycles played one after another, of any machine: one more, the stop, the end; and that they are at most 1,000,000. A call that is refused or faults leaves
-- what was lent. Assumes nothing.
use mathlib.Core.Path.{◌≡◌, refl, sym, ap, ◌∙◌}
use mathlib.Core.Bool.{Bool, true, false, not, cond, ◌&&◌}
use mathlib.Core.List.{List, [], ◌∷◌}
use mathlib.Core.Option.{Option, some, none}
use Prim.Native.Nat.{ℕ, zero, suc, ◌+◌, ◌-◌, ◌≤◌, ◌<◌}
use native.Mathlib.Omega.{arith}
use native.Mathlib.Numerals.{add-one}
use borrow.Author.Tests.{leb-true, leb-false, eqb-false}
use lib.Dec.{leb, eqb}
use lib.ListN.{length, get_or, drop, drop_of_length-le}
use lib.Seq.{drop-cons}
use Rattle.records.specs.Refusal.{Refusal, impossible_run, misplaced_events, cycles_done, Out, val, fault, ◌>>=◌, ◌>>◌, fault_if, unless_refused}
use Rattle.prelude.proofs.Counts.{and-true}
use Rattle.model.specs.Outcome.{settled}
use Rattle.model.specs.Calls.{Format}
use Rattle.model.specs.Runs.{Run, Answer, time, Machine, parts, all_places, places_possible, variables_possible, timers_possible, position_possible, count_possible, events_possible, unused_zero, possible, checked, give, moved, time_passed, cycle}
use Rattle.machines.specs.Turns.{after, finish, KeptRun}
use Rattle.machines.proofs.Turns.{val_is, after_more, after_none, cycle-refused, cycle-fine}
use Rattle.machines.specs.Playing.{later, onwards, played, stopped_at, playing, play_call}

-- ---- one after another

module _ (m : Machine) (masks : List ℕ) (r : Run) where
  -- k cycles led to q, and the rest is played from there
  abbrev pub PlayedAfter : ℕ → Run → Type 0
  PlayedAfter k q = played m masks r ≡ later k (played m (drop k masks) q)

  pub played_after-none : PlayedAfter 0 r
  played_after-none = λ i. record { count = (let z : (played m masks r).count ≡ 0 + (played m masks r).count = omega arith in z) i; run = (played m masks r).run; stop = (played m masks r).stop }

  one : (k : ℕ) (q : Run) → k < length masks → played m (drop k masks) q ≡ onwards q (cycle m (get_or masks k 0) q) (played m (drop (k + 1) masks))
  unfolding played
  one k q h = ap (λ l. played m l q) (drop-cons masks k 0 h) ∙ ap (λ j. onwards q (cycle m (get_or masks k 0) q) (played m (drop j masks))) (sym (add-one k))

  pub played_after-more : (k : ℕ) (q p : Run) → k < length masks → PlayedAfter k q → cycle m (get_or masks k 0) q ≡ val (tt, p) → PlayedAfter (k + 1) p
  played_after-more k q p h w e =
      w ∙ ap (later k) (one k q h ∙ ap (λ o. onwards q o (played m (drop (k + 1) masks))) e)
      ∙ (λ i. record { count = sums i; run = (played m (drop (k + 1) masks) p).run; stop = (played m (drop (k + 1) masks) p).stop })
    where
      sums : k + (1 + (played m (drop (k + 1) masks) p).count) ≡ k + 1 + (played m (drop (k + 1) masks) p).count
      sums = omega arith

  pub played_after-stop : (k : ℕ) (q : Run) (w : Refusal) → k < length masks → PlayedAfter k q → cycle m (get_or masks k 0) q ≡ fault w →
      played m masks r ≡ record { count = k; run = q; stop = fault w }
  played_after-stop k q w h g e =
      g ∙ ap (later k) (one k q h ∙ ap (λ o. onwards q o (played m (drop (k + 1) masks))) e)
      ∙ (λ i. record { count = (let z : k + 0 ≡ k = omega arith in z) i; run = q; stop = fault w })

  pub played_after-all : (k : ℕ) (q : Run) → length masks ≤ k → PlayedAfter k q → played m masks r ≡ record { count = k; run = q; stop = val tt }
  unfolding played
  played_after-all k q h g =
      g ∙ ap (λ l. later k (played m l q)) (drop_of_length-le masks {i = k} h)
      ∙ (λ i. record { count = (let z : k + 0 ≡ k = omega arith in z) i; run = q; stop = val tt })

-- ---- how many

-- a part's step, and the next position
abbrev stepping_on : Out (Answer × Run) → Out (Answer × Run)
stepping_on o = o >>= λ x. val (x.0, moved x.1)

-- a part's step keeps position and count
abbrev pub KeptCount : Run → Out (Answer × Run) → Type 0
KeptCount r (val x) = (x.1.world.position ≡ r.world.position) × (x.1.world.cycles ≡ r.world.cycles)
KeptCount r (fault w) = Unit

none-failed : (a b c : Bool) → (fault_if (not a) impossible_run >> (fault_if b misplaced_events >> fault_if c cycles_done)) ≡ val (tt {0}) → (a ≡ true) × (c ≡ false)
none-failed false b c e = let z : ◌≡◌ {A = ℕ} 0 1 = cc in absurd (omega arith)
none-failed true true c e = let z : ◌≡◌ {A = ℕ} 0 1 = cc in absurd (omega arith)
none-failed true false true e = let z : ◌≡◌ {A = ℕ} 0 1 = cc in absurd (omega arith)
none-failed true false false e = (refl, refl)

module _ (m : Machine) (given : ℕ) (r : Run) (e : checked m given r ≡ val tt) where
  passed : (possible m r ≡ true) × ((eqb r.world.position 1 && eqb r.world.cycles 1_000_000) ≡ false)
  passed = none-failed (possible m r) (not (eqb r.world.position 1) && not (eqb given 0)) (eqb r.world.position 1 && eqb r.world.cycles 1_000_000) e

  -- of the clauses of 12: position and count
  some-clauses : (position_possible (parts m) r.world ≡ true) × (count_possible r.world ≡ true)
  some-clauses =
      let p = all_places m r && places_possible (parts m) m.homes r.at && variables_possible m.variables r.world.vars && timers_possible m r in
      let u = and-true (p && position_possible (parts m) r.world && count_possible r.world && events_possible r.world) (unused_zero m r) passed.0 in
      let v = and-true (p && position_possible (parts m) r.world && count_possible r.world) (events_possible r.world) u.0 in
      let w = and-true (p && position_possible (parts m) r.world) (count_possible r.world) v.0 in
      ((and-true p (position_possible (parts m) r.world) w.0).1, w.1)

  placed : (1 ≤ r.world.position) × (r.world.position ≤ parts m + 1)
  placed =
      let p = and-true (leb 1 r.world.position) (leb r.world.position (parts m + 1)) some-clauses.0 in
      (leb-true 1 r.world.position p.0, leb-true r.world.position (parts m + 1) p.1)

  -- past position 1 a cycle is under way, and at position 1 check 14 leaves one to do
  one_left : r.world.cycles ≤ 999_999
  one_left = go (eqb r.world.position 1) some-clauses.1 passed.1
    where
      go : (b : Bool) → leb r.world.cycles (cond b 1_000_000 999_999) ≡ true → (b && eqb r.world.cycles 1_000_000) ≡ false → r.world.cycles ≤ 999_999
      go true l d =
          let most : r.world.cycles ≤ 1_000_000 = leb-true r.world.cycles 1_000_000 l in
          let other : r.world.cycles ≡ 1_000_000 → ⊥ = eqb-false r.world.cycles 1_000_000 d in
          omega arith
      go false l d = leb-true r.world.cycles 999_999 l

module _ (m : Machine) (kept : (part : ℕ) (r : Run) → KeptCount r (m.step part r)) where
  -- k turns, which are those up to time's, add 1 to the count
  abbrev Counts : ℕ → Run → Run → Type 0
  Counts k r q = r.world.position + k ≡ parts m + 2 → r.world.position ≤ parts m + 1 → after m k r ≡ val q → q.world.cycles ≡ r.world.cycles + 1

  after-counts : (k : ℕ) (r q : Run) → Counts k r q
  after-counts zero r q n p e = absurd (omega arith)
  after-counts (suc k) r q n p e = by (λ r₁. after-counts k r₁ q) (leb r.world.position (parts m)) refl
    where
      stepping : (b : Bool) → leb r.world.position (parts m) ≡ b →
          (cond b (stepping_on (m.step (r.world.position - 1) r)) (val (time, time_passed m r)) >>= λ x. after m k x.1) ≡ val q
      stepping b d = ap (λ b. cond b (stepping_on (m.step (r.world.position - 1) r)) (val (time, time_passed m r)) >>= λ x. after m k x.1) (sym d) ∙ sym (after_more m k r) ∙ e

      at : ((r₁ : Run) → Counts k r₁ q) → (o : Out (Answer × Run)) → r.world.position ≤ parts m → KeptCount r o → (stepping_on o >>= λ x. after m k x.1) ≡ val q →
          q.world.cycles ≡ r.world.cycles + 1
      at rest (fault w) h b d = let z : ◌≡◌ {A = ℕ} 0 1 = cc in absurd (omega arith)
      at rest (val x) h b d = rest (moved x.1) (omega (arith, b.0)) (omega (arith, b.0)) d ∙ ap (λ n. n + 1) b.1

      by : ((r₁ : Run) → Counts k r₁ q) → (b : Bool) → leb r.world.position (parts m) ≡ b → q.world.cycles ≡ r.world.cycles + 1
      by rest true d =
          at rest (m.step (r.world.position - 1) r) (leb-true r.world.position (parts m) d) (kept (r.world.position - 1) r) (stepping true d)
      by rest false d =
          let h = leb-false r.world.position (parts m) d in
          let none : k ≡ 0 = omega (arith, h) in
          let last = sym (ap (λ j. after m j (time_passed m r)) none ∙ after_none m (time_passed m r)) ∙ stepping false d in
          ap (λ x. x.world.cycles) (sym (val_is last))

  pub cycle-counts : (given : ℕ) (r q : Run) → cycle m given r ≡ val (tt, q) → (q.world.cycles ≡ r.world.cycles + 1) × (r.world.cycles ≤ 999_999)
  cycle-counts given r q e = by (checked m given r) refl
    where
      finished : (o : Out Run) → finish o ≡ val (tt, q) → o ≡ val q
      finished (val x) d = ap (λ y. val y.1) (val_is d)
      finished (fault w) d = let z : ◌≡◌ {A = ℕ} 0 1 = cc in absurd (omega arith)

      by : (o : Out (Unit {0})) → checked m given r ≡ o → (q.world.cycles ≡ r.world.cycles + 1) × (r.world.cycles ≤ 999_999)
      by (fault w) d = let f : ◌≡◌ {A = Out (Unit {0} × Run)} (fault w) (val (tt, q)) = sym (cycle-refused m given r w d) ∙ e in let z : ◌≡◌ {A = ℕ} 0 1 = cc in absurd (omega arith)
      by (val u) d =
          let p = placed m given r d in
          let k = parts m + 1 - r.world.position in
          let turns : parts m + 2 - r.world.position ≡ suc k = omega (arith, p) in (
            after-counts (suc k) (give given r) q (omega (arith, p)) p.1 (finished (after m (suc k) (give given r)) (sym (cycle-fine m given r k d turns) ∙ e)),
            one_left m given r d,
          )

  -- from a run, no more cycles than its count leaves
  pub most-played : (masks : List ℕ) (r : Run) → (played m masks r).count ≤ 1_000_000 - r.world.cycles
  unfolding played
  most-played [] r = omega arith
  most-played (events ∷ masks) r = by (λ q. most-played masks q) (cycle m events r) refl
    where
      by : ((q : Run) → (played m masks q).count ≤ 1_000_000 - q.world.cycles) → (o : Out (Unit {0} × Run)) → cycle m events r ≡ o
          → (onwards r o (played m masks)).count ≤ 1_000_000 - r.world.cycles
      by rest (fault w) e = omega arith
      by rest (val x) e =
          let n = cycle-counts events r x.1 e in
          omega (arith, n.0, n.1, rest x.1)

  -- so a count that is told is at most 1,000,000
  pub few-played : (masks : List ℕ) (r : Run) (n : ℕ) → (settled r (playing m masks r)).answer ≡ val n → n ≤ 1_000_000
  few-played masks r n = told (played m masks r).count (played m masks r).run (played m masks r).stop (let most = most-played masks r in omega (arith, most))
    where
      told : (k : ℕ) (q : Run) (o : Out (Unit {0})) → k ≤ 1_000_000 → (settled r (stopped_at k q o)).answer ≡ val n → n ≤ 1_000_000
      told k q (val u) h e = omega (arith, val_is e)
      told k q (fault w) h e = at (eqb k 0) e
        where
          at : (b : Bool) → (settled r (cond b (fault w) (val (k, q)))).answer ≡ val n → n ≤ 1_000_000
          at true d = let z : ◌≡◌ {A = ℕ} 0 1 = cc in absurd (omega arith)
          at false d = omega (arith, val_is d)

-- what a part's turn keeps has the position and the count in it
pub count_kept : (r : Run) (o : Out (Answer × Run)) → KeptRun r o → KeptCount r o
count_kept r (val x) k = (k.0, k.1)
count_kept r (fault w) k = tt

-- the same of the call, on any bytes
pub few-called : (f : Format) (s masks : List ℕ) (r : Run) → ((part : ℕ) (q : Run) → KeptCount q ((f.machine s).step part q)) → (n : ℕ) → (play_call f s masks r).answer ≡ val n → n ≤ 1_000_000
few-called f s masks r kept n = by (f.refusal s)
  where
    by : (o : Option Refusal) → (settled r (unless_refused o (playing (f.machine s) masks r))).answer ≡ val n → n ≤ 1_000_000
    by (some w) e = let z : ◌≡◌ {A = ℕ} 0 1 = cc in absurd (omega arith)
    by none e = few-played (f.machine s) kept masks r n e

-- ---- what was lent
