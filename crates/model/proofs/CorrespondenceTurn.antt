-- A turn of any position on a set's run and on its twin's: they stay alike, and what a turn does to position and count. Assumes nothing.
use mathlib.Core.Path.{◌≡◌, refl, sym, ap, ◌∙◌, subst}
use mathlib.Core.Bool.{Bool, true, false, cond}
use mathlib.Core.List.{List}
use Prim.Native.Nat.{ℕ, ◌+◌, ◌-◌, ◌≤◌, ◌<◌}
use native.Mathlib.Nat.{zero-add}
use native.Mathlib.Omega.{arith}
use lib.Dec.{eqb, leb, ltb, lt→ltb, ltb→lt, leb→le, nleb→lt, nltb→le}
use lib.ListN.{length, get_or, get_or-eq_default}
use Rattle.model.specs.Limits.{most_clocks}
use Rattle.prelude.specs.Lists.{map_from}
use Rattle.records.specs.Refusal.{Out, val, fault, ◌>>=◌}
use Rattle.model.specs.Runs.{Run, Answer, taken, idle, time, set_events, give, moved, time_passed, stepped}
use Rattle.model.specs.ChartSet.{ChartSet}
use Rattle.model.specs.Charts.{chart_step, charts}
use Rattle.model.specs.AutomataTable.{clock_at}
use Rattle.model.specs.Automata.{grown, edge_step, automata}
use Rattle.model.specs.Translation.{twin}
use Rattle.model.specs.Correspondence.{clock_for, AnswersMatch}
use Rattle.prelude.proofs.Bools.{is_true, is_false, of-true, clash, not-of, not-false}
use Rattle.prelude.proofs.Lists.{get_or-map_from, length-map_from}
use Rattle.model.proofs.CorrespondenceTime.{clock_for-grown, grown-top}
use Rattle.model.proofs.TranslationClocks.{own_at, own_in}
use Rattle.model.proofs.CorrespondenceStep.{Sound, Timed, Alike, StepTaken, StepsMatch, chart_step-edge_step}

-- What a turn, taken in r, comes to: the answers, and the run after it.
abbrev pub TurnTaken : ChartSet → Run → Answer → Answer → Run → Type 0
TurnTaken cs r (taken t) b r₁ =
    StepTaken cs r (taken t) b r₁ × (r.world.position ≤ length cs.initial) × (r₁.world.position ≡ r.world.position + 1) × (r₁.world.cycles ≡ r.world.cycles)
TurnTaken cs r idle b r₁ =
    StepTaken cs r idle b r₁ × (r.world.position ≤ length cs.initial) × (r₁.world.position ≡ r.world.position + 1) × (r₁.world.cycles ≡ r.world.cycles)
TurnTaken cs r time time r₁ =
    (length cs.initial < r.world.position) × (r₁.at ≡ r.at) × (r₁.world.position ≡ 1) × (r₁.world.cycles ≡ r.world.cycles + 1) × (r₁.world.events ≡ 0)
TurnTaken cs r time (taken e) r₁ = ⊥
TurnTaken cs r time idle r₁ = ⊥

-- the outcomes of one turn, taken in the runs r and q
abbrev pub TurnsMatch : ChartSet → Run → Run → Out (Answer × Run) → Out (Answer × Run) → Type 0
TurnsMatch cs r q (fault w) (fault v) = w ≡ v
TurnsMatch cs r q (val x) (val y) = AnswersMatch (twin cs) r q x.0 y.0 × TurnTaken cs r x.0 y.0 x.1 × Alike cs x.1 y.1
TurnsMatch cs r q (fault w) (val y) = ⊥
TurnsMatch cs r q (val x) (fault v) = ⊥

-- ---- what changes the world alone

module _ (cs : ChartSet) (r q : Run) (al : Alike cs r q) where
  pub give-alike : (given : ℕ) → Alike cs (give given r) (give given q)
  give-alike given = record {
    worlds = ap (λ w. set_events (cond (eqb w.position 1) given w.events) w) al.worlds;
    ats = al.ats;
    placed = al.placed;
    valued = al.valued;
    timed = al.timed;
  }

  pub moved-alike : Alike cs (moved r) (moved q)
  moved-alike = record {
    worlds = ap (λ w. record { vars = w.vars; events = w.events; position = w.position + 1; cycles = w.cycles }) al.worlds;
    ats = al.ats;
    placed = al.placed;
    valued = al.valued;
    timed = al.timed;
  }

-- ---- time

-- a place that is not in use stays 0
pub map_from-still : (f : ℕ → ℕ → ℕ) (m : ℕ) (xs : List ℕ) (k : ℕ) → m ≤ k → get_or xs k 0 ≡ 0 → get_or (map_from 0 (λ j x. cond (ltb j m) (f j x) x) xs) k 0 ≡ 0
map_from-still f m xs k l z = go (ltb k (length xs)) refl
  where
    no : ltb k m ≡ false
    no = is_false {b = ltb k m} (not-of (ltb k m) (λ t. let y : k < m = ltb→lt k m t in omega arith))

    go : (p : Bool) → ltb k (length xs) ≡ p → get_or (map_from 0 (λ j x. cond (ltb j m) (f j x) x) xs) k 0 ≡ 0
    go true e = get_or-map_from (λ j x. cond (ltb j m) (f j x) x) xs 0 k (ltb→lt k (length xs) (of-true e)) ∙ rw (zero-add k, no) z
    go false e = get_or-eq_default (map_from 0 (λ j x. cond (ltb j m) (f j x) x) xs) 0 (rw (length-map_from (λ j x. cond (ltb j m) (f j x) x) xs 0) (nltb→le k (length xs) (not-false e)))

module _ (cs : ChartSet) (ok : Sound cs) (r q : Run) (al : Alike cs r q) where
  age-next : (c : ℕ) → c < length cs.initial → get_or ((charts cs).passed r) c 0 ≡ get_or r.timers c 0 + 1
  age-next c h =
      let k : length cs.initial ≤ 8 = ok.charts_fit in
      let j : length r.timers ≡ 8 = al.timed.age_room in
      get_or-map_from (λ c age. cond (ltb c (length cs.initial)) (age + 1) age) r.timers 0 c (omega arith)
      ∙ rw (zero-add c, is_true {b = ltb c (length cs.initial)} (lt→ltb c (length cs.initial) h))

  clock-next : (k : ℕ) → k < length (twin cs).clocks → get_or ((automata (twin cs)).passed q) k 0 ≡ grown (clock_at (twin cs) k).timing (clock_at (twin cs) k).ticks (get_or q.timers k 0)
  clock-next k h =
      let f : length (twin cs).clocks ≤ most_clocks = ok.clocks_fit in
      let j : length q.timers ≡ most_clocks = al.timed.clock_room in
      get_or-map_from (λ k x. cond (ltb k (length (twin cs).clocks)) (grown (clock_at (twin cs) k).timing (clock_at (twin cs) k).ticks x) x) q.timers 0 k (omega arith)
      ∙ rw (zero-add k, is_true {b = ltb k (length (twin cs).clocks)} (lt→ltb k (length (twin cs).clocks) h))

  passed-timed : Timed cs r.at ((charts cs).passed r) ((automata (twin cs)).passed q) (r.world.cycles + 1)
  passed-timed = record {
    same = λ c k x c-in o.
        let d : clock_at (twin cs) k ≡ x = own_at cs (get_or r.at c 0) k x o in
        let l : k < length (twin cs).clocks = own_in cs (get_or r.at c 0) k x o in
        clock-next k l
        ∙ rw (d, al.timed.same c k x c-in o) (clock_for-grown x.timing x.ticks (get_or r.timers c 0) (subst (λ z. 0 < z.ticks) d (ok.ticking k l)))
        ∙ ap (clock_for x.timing x.ticks) (sym (age-next c c-in));
    age_room = length-map_from (λ c age. cond (ltb c (length cs.initial)) (age + 1) age) r.timers 0 ∙ al.timed.age_room;
    age_low = λ c c-in. rw (age-next c c-in) (let h : get_or r.timers c 0 ≤ r.world.cycles = al.timed.age_low c c-in in omega arith);
    age_rest = λ k l. map_from-still (λ c age. age + 1) (length cs.initial) r.timers k l (al.timed.age_rest k l);
    clock_room = length-map_from (λ k x. cond (ltb k (length (twin cs).clocks)) (grown (clock_at (twin cs) k).timing (clock_at (twin cs) k).ticks x) x) q.timers 0 ∙ al.timed.clock_room;
    clock_low = λ k l. rw (clock-next k l) (grown-top (clock_at (twin cs) k).timing (clock_at (twin cs) k).ticks (get_or q.timers k 0) (ok.ticking k l) (al.timed.clock_low k l));
    clock_rest = λ k l. map_from-still (λ k x. grown (clock_at (twin cs) k).timing (clock_at (twin cs) k).ticks x) (length (twin cs).clocks) q.timers k l (al.timed.clock_rest k l);
  }

  passed-alike : Alike cs (time_passed (charts cs) r) (time_passed (automata (twin cs)) q)
  passed-alike = record {
    worlds = ap (λ w. record { vars = w.vars; events = 0; position = 1; cycles = w.cycles + 1 }) al.worlds;
    ats = al.ats;
    placed = al.placed;
    valued = al.valued;
    timed = passed-timed;
  }

  -- ---- a turn

  moved-went : r.world.position ≤ length cs.initial → (a b : Answer) (r₁ : Run) → StepTaken cs r a b r₁ → r₁.world.cycles ≡ r.world.cycles → r₁.world.position ≡ r.world.position →
      TurnTaken cs r a b (moved r₁)
  moved-went l (taken t) (taken e) r₁ k c p = (k, l, ap (λ n. n + 1) p, c)
  moved-went l idle (taken e) r₁ k c p = (k, l, ap (λ n. n + 1) p, c)
  moved-went l (taken t) idle r₁ k c p = absurd k
  moved-went l (taken t) time r₁ k c p = absurd k
  moved-went l idle idle r₁ k c p = absurd k
  moved-went l idle time r₁ k c p = absurd k
  moved-went l time b r₁ k c p = absurd k

  moved-match : r.world.position ≤ length cs.initial → (x y : Out (Answer × Run)) → StepsMatch cs r q x y →
      TurnsMatch cs r q (x >>= λ z. val (z.0, moved z.1)) (y >>= λ z. val (z.0, moved z.1))
  moved-match l (fault w) (fault v) h = h
  moved-match l (fault w) (val y) h = absurd h
  moved-match l (val x) (fault v) h = absurd h
  moved-match l (val x) (val y) h = (h.0, moved-went l x.0 y.0 x.1 h.1 h.2 h.3, moved-alike cs x.1 y.1 h.4)

  pub stepped-turns_match : 1 ≤ r.world.position → TurnsMatch cs r q (stepped (charts cs) r) (stepped (automata (twin cs)) q)
  stepped-turns_match low = go (leb r.world.position (length cs.initial)) refl (leb q.world.position (length cs.initial)) refl
    where
      same : leb r.world.position (length cs.initial) ≡ leb q.world.position (length cs.initial)
      same = ap (λ w. leb w.position (length cs.initial)) al.worlds

      go : (a : Bool) → leb r.world.position (length cs.initial) ≡ a → (b : Bool) → leb q.world.position (length cs.initial) ≡ b →
          TurnsMatch cs r q
          (cond a (chart_step cs (r.world.position - 1) r >>= λ x. val (x.0, moved x.1)) (val (time, time_passed (charts cs) r)))
          (cond b (edge_step (twin cs) (q.world.position - 1) q >>= λ x. val (x.0, moved x.1)) (val (time, time_passed (automata (twin cs)) q)))
      go true e true f =
          let l : r.world.position ≤ length cs.initial = leb→le r.world.position (length cs.initial) (of-true e) in
          moved-match l (chart_step cs (r.world.position - 1) r) (edge_step (twin cs) (q.world.position - 1) q)
          (subst (λ z. StepsMatch cs r q (chart_step cs (r.world.position - 1) r) (edge_step (twin cs) z q)) (ap (λ w. w.position - 1) al.worlds)
          (chart_step-edge_step cs ok r q al (r.world.position - 1) (omega arith) refl))
      go false e false f = (tt, (nleb→lt r.world.position (length cs.initial) (not-false e), refl, refl, refl, refl), passed-alike)
      go true e false f = clash {b = leb q.world.position (length cs.initial)} (of-true (sym same ∙ e)) f
      go false e true f = clash {b = leb r.world.position (length cs.initial)} (of-true (same ∙ f)) e
