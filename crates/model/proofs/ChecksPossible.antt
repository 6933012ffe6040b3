-- Check 12 holds of runs that are alike between calls, on both sides, and so 12 to 14 come to the same. Assumes nothing.
use mathlib.Core.Path.{◌≡◌, refl, sym, ap, ◌∙◌, subst}
use mathlib.Core.Bool.{Bool, true, false, not, cond, ◌&&◌, ◌||◌}
use mathlib.Core.List.{List, [], ◌∷◌, ◌++◌, map}
use Prim.Native.Nat.{ℕ, zero, suc, ◌+◌, ◌-◌, ◌≤◌, ◌<◌, zero-le}
use native.Mathlib.Omega.{arith}
use lib.Dec.{T, leb, ltb, eqb, le→leb, lt→ltb, leb→le, nltb→le, ltb→lt, eqb→eq}
use lib.IntN.{ℤ, pos, negsuc}
use lib.ListN.{length, get_or, drop, replicate, length-append, length-replicate, length-map, get_or-append, get_or-eq_default, get_or-map}
use lib.Seq.{get_or-append-add}
use Rattle.model.specs.Limits.{most_charts, most_clocks}
use Rattle.prelude.specs.Lists.{all}
use Rattle.records.specs.Refusal.{impossible_run, misplaced_events, cycles_done, Out, val, ◌>>=◌, fault_if}
use Rattle.arithmetic.specs.Arithmetic.{is_zero}
use Rattle.model.specs.Owned.{home}
use Rattle.model.specs.Runs.{no_variable, in_bounds, World, Run, Machine, start, parts, all_places, places_possible, variables_possible, timers_possible, position_possible, count_possible, events_possible, unused_zero, possible, checked}
use Rattle.model.specs.ChartSet.{ChartSet}
use Rattle.model.specs.Charts.{charts}
use Rattle.model.specs.AutomataTable.{clock_at}
use Rattle.model.specs.Automata.{top, automata}
use Rattle.model.specs.Translation.{state_count, clock_of, twin}
use Rattle.model.specs.Correspondence.{clock_for}
use Rattle.prelude.proofs.Bools.{and_left, and_right, to-right, is_true, of-true, not-false, both_of, eq→eqb, ne→eqb, eqb-ne}
use Rattle.prelude.proofs.Lists.{all-upto, upto_all, all_rest}
use Rattle.model.proofs.CorrespondenceTime.{clock_for-fresh}
use Rattle.model.proofs.ChartFile.{three-of, five-of}
use Rattle.model.proofs.WorldDeeds.{Valued}
use Rattle.model.proofs.CorrespondenceStep.{Sound, Placed, Timed, Alike}

-- ---- variables not in use

zero-within : (z : ℤ) → T (in_bounds no_variable z) → T (is_zero z)
zero-within (pos n) t = of-true (eq→eqb (low n (leb→le n 0 (and_right (leb 0 n) (leb n 0) t))))
  where
    low : (n : ℕ) → n ≤ 0 → n ≡ 0
    low n h = omega arith
zero-within (negsuc n) t = absurd t

all-zero-from : (k : ℕ) (vars : List ℤ) → ((v : ℕ) → k ≤ v → T (is_zero (get_or vars v (pos 0)))) → T (all is_zero (drop k vars))
unfolding all
all-zero-from zero [] h = tt
all-zero-from zero (z ∷ vars) h = both_of (is_zero z) (all is_zero vars) (h 0 zero-le) (all-zero-from zero vars (λ v l. h (suc v) zero-le))
all-zero-from (suc k) [] h = tt
all-zero-from (suc k) (z ∷ vars) h = all-zero-from k vars (λ v l. h (suc v) (omega arith))

within-zero : (z : ℤ) → T (is_zero z) → T (in_bounds no_variable z)
within-zero (pos n) t = let e : n ≡ 0 = eqb→eq n 0 t in both_of (leb 0 n) (leb n 0) (le→leb 0 n zero-le) (le→leb n 0 (omega arith))
within-zero (negsuc n) t = let e : suc n ≡ 0 = eqb→eq (suc n) 0 t in absurd (omega arith)

zero-from-all : (k : ℕ) (vars : List ℤ) → T (all is_zero (drop k vars)) → (v : ℕ) → k ≤ v → T (is_zero (get_or vars v (pos 0)))
unfolding all
zero-from-all zero [] t v l = tt
zero-from-all zero (z ∷ vars) t zero l = and_left (is_zero z) (all is_zero vars) t
zero-from-all zero (z ∷ vars) t (suc v) l = zero-from-all zero vars (and_right (is_zero z) (all is_zero vars) t) v zero-le
zero-from-all (suc k) [] t v l = tt
zero-from-all (suc k) (z ∷ vars) t zero l = absurd (omega arith)
zero-from-all (suc k) (z ∷ vars) t (suc v) l = zero-from-all k vars t v (omega arith)

rest-zero : (n : ℕ) (xs : List ℕ) → T (all (λ t. eqb t 0) (drop n xs)) → (k : ℕ) → n ≤ k → get_or xs k 0 ≡ 0
unfolding all
rest-zero zero [] t k l = refl
rest-zero zero (x ∷ xs) t zero l = eqb→eq x 0 (and_left (eqb x 0) (all (λ t. eqb t 0) xs) t)
rest-zero zero (x ∷ xs) t (suc k) l = rest-zero zero xs (and_right (eqb x 0) (all (λ t. eqb t 0) xs) t) k zero-le
rest-zero (suc n) [] t k l = refl
rest-zero (suc n) (x ∷ xs) t zero l = absurd (omega arith)
rest-zero (suc n) (x ∷ xs) t (suc k) l = rest-zero n xs t k (omega arith)

-- ---- check 12, and what it asks

-- What check 12 asks of the places of a run.
pub record Fits (m : Machine) (r : Run) : Type 0 where
  pub room : length r.at ≡ 8
  pub home : (c : ℕ) → c < parts m → (get_or r.at c 0 < length m.homes) × (get_or m.homes (get_or r.at c 0) 0 ≡ c)
  pub rest : (k : ℕ) → parts m ≤ k → get_or r.at k 0 ≡ 0
  pub valued : Valued m.variables r.world.vars
  pub timer_room : length r.timers ≡ m.timers_room
  pub timer_low : (k : ℕ) → k < m.timers_used → T (m.timer_possible r.world.cycles k (get_or r.timers k 0))
  pub timer_rest : (k : ℕ) → m.timers_used ≤ k → get_or r.timers k 0 ≡ 0

-- and of the rest
pub record Resting (m : Machine) (w : World) : Type 0 where
  pub low : 1 ≤ w.position
  pub high : w.position ≤ parts m + 1
  pub count : T (count_possible w)
  pub events : T (events_possible w)

module _ (m : Machine) (r : Run) where
  place : ℕ → Bool
  place c = ltb (get_or r.at c 0) (length m.homes) && eqb (get_or m.homes (get_or r.at c 0) 0) c

  pub possible-of : Fits m r → Resting m r.world → T (possible m r)
  unfolding place
  possible-of fits rest =
      both_of (all_places m r && places_possible (parts m) m.homes r.at && variables_possible m.variables r.world.vars && timers_possible m r && position_possible (parts m) r.world && count_possible r.world && events_possible r.world) (unused_zero m r)
      (both_of (all_places m r && places_possible (parts m) m.homes r.at && variables_possible m.variables r.world.vars && timers_possible m r && position_possible (parts m) r.world && count_possible r.world) (events_possible r.world)
      (both_of (all_places m r && places_possible (parts m) m.homes r.at && variables_possible m.variables r.world.vars && timers_possible m r && position_possible (parts m) r.world) (count_possible r.world)
      (both_of (all_places m r && places_possible (parts m) m.homes r.at && variables_possible m.variables r.world.vars && timers_possible m r) (position_possible (parts m) r.world)
      (both_of (all_places m r && places_possible (parts m) m.homes r.at && variables_possible m.variables r.world.vars) (timers_possible m r)
      (both_of (all_places m r && places_possible (parts m) m.homes r.at) (variables_possible m.variables r.world.vars) (both_of (all_places m r) (places_possible (parts m) m.homes r.at) rooms in-places) in-variables) in-timers) position) rest.count) rest.events) zeros
    where
      rooms : T (all_places m r)
      rooms = both_of (eqb (length r.at) 8 && eqb (length r.timers) m.timers_room) (eqb (length r.world.vars) 64)
          (both_of (eqb (length r.at) 8) (eqb (length r.timers) m.timers_room) (of-true (eq→eqb fits.room)) (of-true (eq→eqb fits.timer_room))) (of-true (eq→eqb fits.valued.room))

      in-places : T (places_possible (parts m) m.homes r.at)
      in-places = all-upto place (parts m) (λ c h.
          both_of (ltb (get_or r.at c 0) (length m.homes)) (eqb (get_or m.homes (get_or r.at c 0) 0) c)
          (lt→ltb (get_or r.at c 0) (length m.homes) (fits.home c h).0) (of-true (eq→eqb (fits.home c h).1)))

      in-variables : T (variables_possible m.variables r.world.vars)
      in-variables = all-upto (λ v. in_bounds (get_or m.variables v no_variable) (get_or r.world.vars v (pos 0))) (length m.variables) (λ v h. fits.valued.bounded v)

      in-timers : T (timers_possible m r)
      in-timers = all-upto (λ k. m.timer_possible r.world.cycles k (get_or r.timers k 0)) m.timers_used fits.timer_low

      position : T (position_possible (parts m) r.world)
      position = both_of (leb 1 r.world.position) (leb r.world.position (parts m + 1)) (le→leb 1 r.world.position rest.low) (le→leb r.world.position (parts m + 1) rest.high)

      zeros : T (unused_zero m r)
      zeros = both_of (all (λ s. eqb s 0) (drop (parts m) r.at) && all (λ t. eqb t 0) (drop m.timers_used r.timers)) (all is_zero (drop (length m.variables) r.world.vars))
          (both_of (all (λ s. eqb s 0) (drop (parts m) r.at)) (all (λ t. eqb t 0) (drop m.timers_used r.timers))
          (all_rest (parts m) r.at fits.rest) (all_rest m.timers_used r.timers fits.timer_rest))
          (all-zero-from (length m.variables) r.world.vars (λ v l. zero-within (get_or r.world.vars v (pos 0))
          (subst (λ x. T (in_bounds x (get_or r.world.vars v (pos 0)))) (get_or-eq_default m.variables no_variable l) (fits.valued.bounded v))))

  module _ (t : T (possible m r)) where
    to-events : T (all_places m r && places_possible (parts m) m.homes r.at && variables_possible m.variables r.world.vars && timers_possible m r && position_possible (parts m) r.world && count_possible r.world && events_possible r.world)
    to-events = and_left (all_places m r && places_possible (parts m) m.homes r.at && variables_possible m.variables r.world.vars && timers_possible m r && position_possible (parts m) r.world && count_possible r.world && events_possible r.world) (unused_zero m r) t

    to-count : T (all_places m r && places_possible (parts m) m.homes r.at && variables_possible m.variables r.world.vars && timers_possible m r && position_possible (parts m) r.world && count_possible r.world)
    to-count = and_left (all_places m r && places_possible (parts m) m.homes r.at && variables_possible m.variables r.world.vars && timers_possible m r && position_possible (parts m) r.world && count_possible r.world) (events_possible r.world) to-events

    to-timers : T (all_places m r) × T (places_possible (parts m) m.homes r.at) × T (variables_possible m.variables r.world.vars) × T (timers_possible m r) × T (position_possible (parts m) r.world)
    to-timers = five-of (all_places m r) (places_possible (parts m) m.homes r.at) (variables_possible m.variables r.world.vars) (timers_possible m r) (position_possible (parts m) r.world)
        (and_left (all_places m r && places_possible (parts m) m.homes r.at && variables_possible m.variables r.world.vars && timers_possible m r && position_possible (parts m) r.world) (count_possible r.world) to-count)

    rooms-of : T (eqb (length r.at) 8) × T (eqb (length r.timers) m.timers_room) × T (eqb (length r.world.vars) 64)
    rooms-of = three-of (eqb (length r.at) 8) (eqb (length r.timers) m.timers_room) (eqb (length r.world.vars) 64) to-timers.0

    zeros_of : T (all (λ s. eqb s 0) (drop (parts m) r.at)) × T (all (λ t. eqb t 0) (drop m.timers_used r.timers)) × T (all is_zero (drop (length m.variables) r.world.vars))
    zeros_of = three-of (all (λ s. eqb s 0) (drop (parts m) r.at)) (all (λ t. eqb t 0) (drop m.timers_used r.timers)) (all is_zero (drop (length m.variables) r.world.vars))
        (and_right (all_places m r && places_possible (parts m) m.homes r.at && variables_possible m.variables r.world.vars && timers_possible m r && position_possible (parts m) r.world && count_possible r.world && events_possible r.world) (unused_zero m r) t)

    pub possible-fits : Fits m r
    unfolding place
    possible-fits = record {
      room = eqb→eq (length r.at) 8 rooms-of.0;
      home = λ c h.
          let p : T (place c) = upto_all place (parts m) c to-timers.1 h in (
            ltb→lt (get_or r.at c 0) (length m.homes) (and_left (ltb (get_or r.at c 0) (length m.homes)) (eqb (get_or m.homes (get_or r.at c 0) 0) c) p),
            eqb→eq (get_or m.homes (get_or r.at c 0) 0) c (and_right (ltb (get_or r.at c 0) (length m.homes)) (eqb (get_or m.homes (get_or r.at c 0) 0) c) p),
          );
      rest = rest-zero (parts m) r.at zeros_of.0;
      valued = record { room = eqb→eq (length r.world.vars) 64 rooms-of.2; bounded = λ v. bounded v (ltb v (length m.variables)) refl };
      timer_room = eqb→eq (length r.timers) m.timers_room rooms-of.1;
      timer_low = λ k h. upto_all (λ k. m.timer_possible r.world.cycles k (get_or r.timers k 0)) m.timers_used k to-timers.3 h;
      timer_rest = rest-zero m.timers_used r.timers zeros_of.1;
    }
      where
        bounded : (v : ℕ) (p : Bool) → ltb v (length m.variables) ≡ p → T (in_bounds (get_or m.variables v no_variable) (get_or r.world.vars v (pos 0)))
        bounded v true q = upto_all (λ v. in_bounds (get_or m.variables v no_variable) (get_or r.world.vars v (pos 0))) (length m.variables) v to-timers.2 (ltb→lt v (length m.variables) (of-true q))
        bounded v false q =
            let l : length m.variables ≤ v = nltb→le v (length m.variables) (not-false q) in
            subst (λ x. T (in_bounds x (get_or r.world.vars v (pos 0)))) (sym (get_or-eq_default m.variables no_variable l))
            (within-zero (get_or r.world.vars v (pos 0)) (zero-from-all (length m.variables) r.world.vars zeros_of.2 v l))

    pub possible-rests : Resting m r.world
    possible-rests = record {
      low = leb→le 1 r.world.position (and_left (leb 1 r.world.position) (leb r.world.position (parts m + 1)) to-timers.4);
      high = leb→le r.world.position (parts m + 1) (and_right (leb 1 r.world.position) (leb r.world.position (parts m + 1)) to-timers.4);
      count = and_right (all_places m r && places_possible (parts m) m.homes r.at && variables_possible m.variables r.world.vars && timers_possible m r && position_possible (parts m) r.world) (count_possible r.world) to-count;
      events = and_right (all_places m r && places_possible (parts m) m.homes r.at && variables_possible m.variables r.world.vars && timers_possible m r && position_possible (parts m) r.world && count_possible r.world) (events_possible r.world) to-events;
    }

-- ---- what a turn leaves is at rest again

module _ (m : Machine) (w w₁ : World) (few : w.cycles ≤ 999_999) where
  -- past a part's turn the position is not 1
  pub part-rests : 1 ≤ w.position → w.position ≤ parts m → w₁.position ≡ w.position + 1 → w₁.cycles ≡ w.cycles → Resting m w₁
  part-rests low l p c =
      let no : eqb w₁.position 1 ≡ false = ne→eqb {a = w₁.position} {b = 1} (λ e. omega arith) in
      record {
        low = omega arith;
        high = omega arith;
        count = subst (λ x. T (leb w₁.cycles (cond x 1_000_000 999_999))) (sym no) (le→leb w₁.cycles 999_999 (omega arith));
        events = subst (λ x. T (not x || eqb w₁.events 0)) (sym no) tt;
      }

  pub time-rests : w₁.position ≡ 1 → w₁.cycles ≡ w.cycles + 1 → w₁.events ≡ 0 → Resting m w₁
  time-rests p c e = record {
    low = omega arith;
    high = omega arith;
    count = subst (λ x. T (leb w₁.cycles (cond x 1_000_000 999_999))) (sym (eq→eqb p)) (le→leb w₁.cycles 1_000_000 (omega arith));
    events = to-right (not (eqb w₁.position 1)) (eqb w₁.events 0) (of-true (eq→eqb e));
  }

-- ---- alike and at rest: the state of two runs between calls

pub record AtRest (cs : ChartSet) (r q : Run) : Type 0 where
  pub alike : Alike cs r q
  pub resting : Resting (charts cs) r.world

module _ (cs : ChartSet) (r q : Run) (h : AtRest cs r q) where
  pub charts-possible : T (possible (charts cs) r)
  charts-possible =
      possible-of (charts cs) r
      (record {
        room = h.alike.placed.room;
        home = h.alike.placed.home;
        rest = h.alike.placed.rest;
        valued = h.alike.valued;
        timer_room = h.alike.timed.age_room;
        timer_low = λ c l. le→leb (get_or r.timers c 0) r.world.cycles (h.alike.timed.age_low c l);
        timer_rest = h.alike.timed.age_rest;
      })
      h.resting

  placed : Placed cs q.at
  placed = subst (Placed cs) h.alike.ats h.alike.placed

  resting : Resting (charts cs) q.world
  resting = subst (Resting (charts cs)) h.alike.worlds h.resting

  pub twin-possible : T (possible (automata (twin cs)) q)
  twin-possible =
      possible-of (automata (twin cs)) q
      (record {
        room = placed.room;
        home = placed.home;
        rest = placed.rest;
        valued = subst (λ w. Valued cs.variables w.vars) h.alike.worlds h.alike.valued;
        timer_room = h.alike.timed.clock_room;
        timer_low = λ k l. le→leb (get_or q.timers k 0) (top (clock_at (twin cs) k).timing (clock_at (twin cs) k).ticks) (h.alike.timed.clock_low k l);
        timer_rest = h.alike.timed.clock_rest;
      })
      (record { low = resting.low; high = resting.high; count = resting.count; events = resting.events })

-- ---- checks 13 and 14, of the world alone

abbrev pub checked_later : ℕ → World → Out (Unit {0})
checked_later given w =
    fault_if (not (eqb w.position 1) && not (eqb given 0)) misplaced_events >>= λ _. fault_if (eqb w.position 1 && eqb w.cycles 1_000_000) cycles_done

pub checked-possible : (m : Machine) (given : ℕ) (r : Run) → T (possible m r) → checked m given r ≡ checked_later given r.world
checked-possible m given r t = ap (λ b. fault_if (not b) impossible_run >>= λ _. checked_later given r.world) (is_true {b = possible m r} t)

-- past them the count is below 1,000,000
pub checked_later-count : (m : Machine) (given : ℕ) (w : World) (u : Unit {0}) → T (count_possible w) → checked_later given w ≡ val u → w.cycles ≤ 999_999
checked_later-count m given w u t e = go (eqb w.position 1) (eqb w.cycles 1_000_000) refl t e
  where
    go : (a b : Bool) → eqb w.cycles 1_000_000 ≡ b → T (leb w.cycles (cond a 1_000_000 999_999)) →
        (fault_if (not a && not (eqb given 0)) misplaced_events >>= λ _. fault_if (a && b) cycles_done) ≡ val u → w.cycles ≤ 999_999
    go false b q t e = leb→le w.cycles 999_999 t
    go true true q t e = let z : ◌≡◌ {A = ℕ} 0 1 = cc in absurd (omega arith)
    go true false q t e = let l : w.cycles ≤ 1_000_000 = leb→le w.cycles 1_000_000 t in let n : w.cycles ≡ 1_000_000 → ⊥ = eqb-ne q in omega arith

-- ---- fresh runs

get_or-zeros : (n k : ℕ) → ◌≡◌ {A = ℕ} (get_or (replicate n 0) k 0) 0
get_or-zeros zero k = refl
get_or-zeros (suc n) zero = refl
get_or-zeros (suc n) (suc k) = get_or-zeros n k

get_or-zeros± : (n k : ℕ) → get_or (replicate n (pos 0)) k (pos 0) ≡ pos 0
get_or-zeros± zero k = refl
get_or-zeros± (suc n) zero = refl
get_or-zeros± (suc n) (suc k) = get_or-zeros± n k

module _ (cs : ChartSet) (ok : Sound cs) where
  start-placed : Placed cs (start (charts cs)).at
  start-placed = record {
    room = length-append cs.initial (replicate (8 - length cs.initial) 0)
        ∙ rw (length-replicate {A = ℕ} (8 - length cs.initial) 0) (let h : length cs.initial ≤ 8 = ok.charts_fit in omega arith);
    home = λ c h. subst (λ s. (s < state_count cs) × (home cs.homes s ≡ c)) (sym (get_or-append cs.initial (replicate (8 - length cs.initial) 0) 0 c h)) (ok.initials c h);
    rest = λ k l.
        let e : length cs.initial + (k - length cs.initial) ≡ k = omega arith in
        ap (λ n. get_or (cs.initial ++ replicate (8 - length cs.initial) 0) n 0) (sym e)
        ∙ get_or-append-add cs.initial (replicate (8 - length cs.initial) 0) (k - length cs.initial) 0 ∙ get_or-zeros (8 - length cs.initial) (k - length cs.initial);
  }

  start-valued : Valued cs.variables (start (charts cs)).world.vars
  start-valued = record {
    room = length-append (map (λ v. v.start) cs.variables) (replicate (64 - length (map (λ v. v.start) cs.variables)) (pos 0))
        ∙ rw (length-replicate {A = ℤ} (64 - length (map (λ v. v.start) cs.variables)) (pos 0), length-map cs.variables (λ v. v.start)) (let h : length cs.variables ≤ 64 = ok.variables_fit in omega arith);
    bounded = λ v. go v (ltb v (length cs.variables)) refl;
  }
    where
      firsts : List ℤ
      firsts = map (λ v. v.start) cs.variables

      as_many : length firsts ≡ length cs.variables
      as_many = length-map cs.variables (λ v. v.start)

      go : (v : ℕ) (p : Bool) → ltb v (length cs.variables) ≡ p → T (in_bounds (get_or cs.variables v no_variable) (get_or (firsts ++ replicate (64 - length firsts) (pos 0)) v (pos 0)))
      go v true q =
          let h : v < length firsts = subst (λ n. v < n) (sym as_many) (ltb→lt v (length cs.variables) (of-true q)) in
          subst (λ z. T (in_bounds (get_or cs.variables v no_variable) z))
          (sym (get_or-append firsts (replicate (64 - length firsts) (pos 0)) (pos 0) v h ∙ get_or-map (λ v. v.start) cs.variables v no_variable)) (ok.starts v)
      go v false q =
          let l : length cs.variables ≤ v = nltb→le v (length cs.variables) (not-false q) in
          let e : length firsts + (v - length firsts) ≡ v = omega (arith, as_many) in
          let z : get_or (firsts ++ replicate (64 - length firsts) (pos 0)) v (pos 0) ≡ pos 0 =
          ap (λ n. get_or (firsts ++ replicate (64 - length firsts) (pos 0)) n (pos 0)) (sym e)
          ∙ get_or-append-add firsts (replicate (64 - length firsts) (pos 0)) (v - length firsts) (pos 0) ∙ get_or-zeros± (64 - length firsts) (v - length firsts) in
          let d : get_or cs.variables v no_variable ≡ no_variable = get_or-eq_default cs.variables no_variable l in
          subst (λ x. T (in_bounds x (get_or (firsts ++ replicate (64 - length firsts) (pos 0)) v (pos 0)))) (sym d) (subst (λ x. T (in_bounds no_variable x)) (sym z) tt)

  start-timed : Timed cs (start (charts cs)).at (replicate most_charts 0) (replicate most_clocks 0) 0
  start-timed = record {
    same = λ c k x c-in o. get_or-zeros most_clocks k ∙ sym (ap (clock_for x.timing x.ticks) (get_or-zeros most_charts c) ∙ clock_for-fresh x.timing x.ticks);
    age_room = refl;
    age_low = λ c c-in. rw (get_or-zeros most_charts c) zero-le;
    age_rest = λ k l. get_or-zeros most_charts k;
    clock_room = refl;
    clock_low = λ k l. rw (get_or-zeros most_clocks k) zero-le;
    clock_rest = λ k l. get_or-zeros most_clocks k;
  }

  pub start-at_rest : AtRest cs (start (charts cs)) (start (automata (twin cs)))
  start-at_rest = record {
    alike = record { worlds = refl; ats = refl; placed = start-placed; valued = start-valued; timed = start-timed };
    resting = record { low = omega arith; high = omega arith; count = tt; events = tt };
  }
