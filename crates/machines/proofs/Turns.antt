-- A turn, and the turns of a cycle, one at a time, of any machine. Assumes nothing.
use mathlib.Core.Path.{◌≡◌, refl, sym, ap, ◌∙◌, subst}
use mathlib.Core.Bool.{Bool, true, false, not, cond, ◌&&◌}
use Prim.Native.Nat.{ℕ, suc, ◌+◌, ◌-◌, ◌≤◌, ◌<◌}
use native.Mathlib.Omega.{arith}
use borrow.Author.Tests.{le-leb, lt-leb, leb-true, eqb-false}
use lib.Dec.{leb, eqb}
use lib.ListN.{get_or}
use Rattle.records.specs.Refusal.{Refusal, impossible_run, misplaced_events, cycles_done, Out, val, fault, ◌>>=◌, ◌>>◌, fault_if}
use Rattle.prelude.proofs.Counts.{and-true}
use Rattle.model.specs.Outcome.{Outcome, settled}
use Rattle.model.specs.Runs.{Run, Answer, time, Machine, parts, all_places, places_possible, variables_possible, timers_possible, position_possible, count_possible, events_possible, unused_zero, possible, checked, give, moved, time_passed, stepped, turn, turns, unless_stopped, ended, onto, cycle}
use Rattle.machines.specs.Turns.{after, finish, Ready, KeptRun}

-- ---- what was settled

-- the answer with what is lent after it; of a fault nothing is told of what was lent
abbrev pub unsettled : {A L : Type 0} → Outcome A L → Out (A × L)
unsettled x = x.answer >>= λ a. val (a, x.lent)

pub unsettle : {A L : Type 0} (l : L) (o : Out (A × L)) → unsettled (settled l o) ≡ o
unsettle l (val x) = refl
unsettle l (fault w) = refl

pub val_is : {A : Type 0} {a b : A} → val a ≡ val b → a ≡ b
val_is e = cc

-- ---- one turn of a machine of n parts

module _ (m : Machine) (n : ℕ) (size : parts m ≡ n) (r : Run) where
  -- the turn by the position's test
  abbrev stepped_by : Bool → Out (Answer × Run)
  stepped_by b = cond b (m.step (r.world.position - 1) r >>= λ x. val (x.0, moved x.1)) (val (time, time_passed m r))

  pub at_part : r.world.position ≤ n → stepped m r ≡ (m.step (r.world.position - 1) r >>= λ x. val (x.0, moved x.1))
  at_part h = ap stepped_by (ap (leb r.world.position) size ∙ le-leb r.world.position n h)

  pub at-time : n < r.world.position → stepped m r ≡ val (time, time_passed m r)
  at-time h = ap stepped_by (ap (leb r.world.position) size ∙ lt-leb r.world.position n h)

-- ---- a run that passed the checks

none-failed : (a b c : Bool) → (fault_if (not a) impossible_run >> (fault_if b misplaced_events >> fault_if c cycles_done)) ≡ val (tt {0}) → (a ≡ true) × (c ≡ false)
none-failed false b c e = let z : ◌≡◌ {A = ℕ} 0 1 = cc in absurd (omega arith)
none-failed true true c e = let z : ◌≡◌ {A = ℕ} 0 1 = cc in absurd (omega arith)
none-failed true false true e = let z : ◌≡◌ {A = ℕ} 0 1 = cc in absurd (omega arith)
none-failed true false false e = (refl, refl)

module _ (m : Machine) (r : Run) where
  -- of the clauses of 12: timers, position and count
  some-clauses : possible m r ≡ true → (timers_possible m r ≡ true) × (position_possible (parts m) r.world ≡ true) × (count_possible r.world ≡ true)
  some-clauses e =
      let p₁ = all_places m r && places_possible (parts m) m.homes r.at && variables_possible m.variables r.world.vars in
      let u = and-true (p₁ && timers_possible m r && position_possible (parts m) r.world && count_possible r.world && events_possible r.world) (unused_zero m r) e in
      let v = and-true (p₁ && timers_possible m r && position_possible (parts m) r.world && count_possible r.world) (events_possible r.world) u.0 in
      let w = and-true (p₁ && timers_possible m r && position_possible (parts m) r.world) (count_possible r.world) v.0 in
      let x = and-true (p₁ && timers_possible m r) (position_possible (parts m) r.world) w.0 in
      ((and-true p₁ (timers_possible m r) x.0).1, x.1, w.1)

  -- past position 1 a cycle is under way, and at position 1 check 14 leaves one to do
  cycle-left : count_possible r.world ≡ true → (eqb r.world.position 1 && eqb r.world.cycles 1_000_000) ≡ false → r.world.cycles ≤ 999_999
  cycle-left = go (eqb r.world.position 1)
    where
      go : (b : Bool) → leb r.world.cycles (cond b 1_000_000 999_999) ≡ true → (b && eqb r.world.cycles 1_000_000) ≡ false → r.world.cycles ≤ 999_999
      go true e d =
          let l : r.world.cycles ≤ 1_000_000 = leb-true r.world.cycles 1_000_000 e in
          let n : r.world.cycles ≡ 1_000_000 → ⊥ = eqb-false r.world.cycles 1_000_000 d in
          omega arith
      go false e d = leb-true r.world.cycles 999_999 e

module _ (m : Machine) (n : ℕ) (size : parts m ≡ n) (fit : ℕ → ℕ → ℕ → Type 0) where
  pub ready : (given : ℕ) (r : Run) → (timers_possible m r ≡ true → (k : ℕ) → fit r.world.cycles k (get_or r.timers k 0)) → checked m given r ≡ val tt →
      Ready n fit (give given r)
  ready given r fits e =
      let f = none-failed (possible m r) (not (eqb r.world.position 1) && not (eqb given 0)) (eqb r.world.position 1 && eqb r.world.cycles 1_000_000) e in
      let k = some-clauses m r f.0 in
      let p = and-true (leb 1 r.world.position) (leb r.world.position (parts m + 1)) k.1 in
      record {
        begun = leb-true 1 r.world.position p.0;
        within = let l : r.world.position ≤ parts m + 1 = leb-true r.world.position (parts m + 1) p.1 in omega (arith, size);
        unfinished = cycle-left m r k.2 f.1;
        timers = fits k.0;
      }

  -- a part's turn leaves the run ready, at the next position, where what is fit stays fit as it gets less
  module _ (lower : (cycles k x y : ℕ) → y ≤ x → fit cycles k x → fit cycles k y) (r : Run) (y : Answer × Run) where
    pub ready-next : KeptRun r (m.step (r.world.position - 1) r) → Ready n fit r → r.world.position ≤ n → stepped m r ≡ val y →
        Ready n fit y.1 × (y.1.world.position ≡ r.world.position + 1)
    ready-next kept h l e = go (m.step (r.world.position - 1) r) kept (sym (at_part m n size r l) ∙ e)
      where
        moved_on : (q : Run) → KeptRun r (val (y.0, q)) → Ready n fit (moved q) × ((moved q).world.position ≡ r.world.position + 1)
        moved_on q k = (
          record {
            begun = omega (arith, k.0, h.begun);
            within = omega (arith, k.0, l);
            unfinished = omega (arith, k.1, h.unfinished);
            timers = λ c. subst (λ j. fit j c (get_or q.timers c 0)) (sym k.1) (lower r.world.cycles c (get_or r.timers c 0) (get_or q.timers c 0) (k.2 c) (h.timers c));
          },
          ap (λ n. n + 1) k.0,
        )

        go : (o : Out (Answer × Run)) → KeptRun r o → (o >>= λ x. val (x.0, moved x.1)) ≡ val y → Ready n fit y.1 × (y.1.world.position ≡ r.world.position + 1)
        go (fault w) k d = let z : ◌≡◌ {A = ℕ} 0 1 = cc in absurd (omega arith)
        go (val x) k d = subst (λ z. Ready n fit z.1 × (z.1.world.position ≡ r.world.position + 1)) (val_is d) (moved_on x.1 k)

-- ---- a call

module _ (m : Machine) (given : ℕ) (r : Run) where
  pub turn-refused : (w : Refusal) → checked m given r ≡ fault w → turn m given r ≡ fault w
  turn-refused w e = ap (λ c. c >> stepped m (give given r)) e

  pub turn-fine : checked m given r ≡ val tt → turn m given r ≡ stepped m (give given r)
  turn-fine e = ap (λ c. c >> stepped m (give given r)) e

module _ (m : Machine) where
  ended-more : (k : ℕ) (r₀ r : Run) → ended r₀ (turns m (suc k) r) ≡ (stepped m r >>= λ x. after m k x.1)
  unfolding turns ended
  ended-more k r₀ r = go (stepped m r)
    where
      go : (o : Out (Answer × Run)) → ended r₀ (onto r o (turns m k)) ≡ (o >>= λ x. ended x.1 (turns m k x.1))
      go (val x) = refl
      go (fault w) = refl

  pub after_more : (k : ℕ) (r : Run) → after m (suc k) r ≡ (stepped m r >>= λ x. after m k x.1)
  after_more k r = ended-more k r r

  pub after_none : (r : Run) → after m 0 r ≡ val r
  unfolding turns ended
  after_none r = refl

  module _ (given : ℕ) (r : Run) where
    pub cycle-refused : (w : Refusal) → checked m given r ≡ fault w → cycle m given r ≡ fault w
    unfolding ended
    cycle-refused w e = ap (λ c. finish (ended r (unless_stopped c (turns m (parts m + 2 - r.world.position) (give given r))))) e

    pub cycle-fine : (k : ℕ) → checked m given r ≡ val tt → parts m + 2 - r.world.position ≡ suc k → cycle m given r ≡ finish (after m (suc k) (give given r))
    cycle-fine k e n =
        ap (λ c. finish (ended r (unless_stopped c (turns m (parts m + 2 - r.world.position) (give given r))))) e
        ∙ ap (λ j. finish (ended r (turns m j (give given r)))) n
        ∙ ap finish (ended-more k r (give given r) ∙ sym (after_more k (give given r)))

-- ---- the turns of a cycle, from a run on

module _ (m : Machine) (n : ℕ) (size : parts m ≡ n) where
  module _ (r : Run) where
    abbrev pub left : ℕ
    left = n + 2 - r.world.position

    pub cycle-more : (a : Answer) (q : Run) → r.world.position ≤ n → q.world.position ≡ r.world.position + 1 → stepped m r ≡ val (a, q) →
        after m left r ≡ after m (n + 2 - q.world.position) q
    cycle-more a q h k e =
        ap (λ k. after m k r) (let z : left ≡ suc (n + 2 - q.world.position) = omega arith in z)
        ∙ after_more m (n + 2 - q.world.position) r
        ∙ ap (λ o. o >>= λ x. after m (n + 2 - q.world.position) x.1) e

    pub cycle-stop : (w : Refusal) → r.world.position ≤ n → stepped m r ≡ fault w → after m left r ≡ fault w
    cycle-stop w h e =
        ap (λ k. after m k r) (let z : left ≡ suc (n + 1 - r.world.position) = omega arith in z)
        ∙ after_more m (n + 1 - r.world.position) r
        ∙ ap (λ o. o >>= λ x. after m (n + 1 - r.world.position) x.1) e

    pub cycle-end : r.world.position ≡ n + 1 → after m left r ≡ val (time_passed m r)
    cycle-end h =
        ap (λ k. after m k r) (let z : left ≡ 1 = omega arith in z)
        ∙ after_more m 0 r
        ∙ ap (λ o. o >>= λ x. after m 0 x.1) (at-time m n size r (omega arith))
        ∙ after_none m (time_passed m r)

  pub cycle-given : (given : ℕ) (r q : Run) → checked m given r ≡ val tt → q ≡ give given r → cycle m given r ≡ finish (after m (n + 2 - q.world.position) q)
  cycle-given given r q e d =
      let p : r.world.position ≤ n + 1 = (ready m n size (λ _ _ _. Unit) given r (λ _ _. tt) e).within in
      let j : parts m + 2 - r.world.position ≡ suc (n + 1 - r.world.position) = omega (arith, size) in
      let k : suc (n + 1 - r.world.position) ≡ n + 2 - r.world.position = omega arith in
      subst (λ x. cycle m given r ≡ finish (after m (n + 2 - x.world.position) x)) (sym d)
      (cycle-fine m given r (n + 1 - r.world.position) e j ∙ ap (λ j. finish (after m j (give given r))) k)
