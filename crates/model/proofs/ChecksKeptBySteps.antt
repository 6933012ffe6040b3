-- Turns of accepted chart sets and automata tables keep what check 12 asks of a run's places, and so a done cycle of a possible run leaves a possible one.
-- Assumes nothing.
use mathlib.Core.Path.{◌≡◌, refl, sym, ap, ◌∙◌, subst}
use mathlib.Core.Option.{Option, some, none}
use mathlib.Core.Bool.{Bool, true, false, not, cond, ◌&&◌, ◌||◌}
use mathlib.Core.List.{List, [], ◌∷◌, map}
use Prim.Native.Nat.{ℕ, ◌+◌, ◌≤◌, ◌<◌}
use native.Mathlib.Nat.{le_trans, zero-add}
use native.Mathlib.Omega.{arith}
use lib.Dec.{T, leb, ltb, eqb, eqb_refl, le→leb, lt→ltb, leb→le, ltb→lt, nltb→le, eqb→eq}
use lib.ListN.{length, get_or, set, length-set, length-map}
use lib.Seq.{get_or-set_same, get_or-set_other}
use Rattle.model.specs.Limits.{most_clocks}
use Rattle.prelude.specs.Lists.{all, any, map_from, mem, upto}
use Rattle.records.specs.Refusal.{Refusal, bad_table, Out, val, fault, ◌>>=◌}
use Rattle.records.specs.Bytes.{two, of_kind}
use Rattle.framing.specs.Framing.{how_many}
use Rattle.framing.proofs.Framed.{length-of_kind}
use Rattle.expressions.specs.Nodes.{node_of}
use Rattle.expressions.specs.Sorts.{nodes_named}
use Rattle.prelude.specs.Owned.{of}
use Rattle.model.specs.Owned.{home}
use Rattle.model.specs.Runs.{World, Run, Answer, taken, idle, Machine, parts, possible, time_passed, actions, cycle}
use Rattle.model.specs.ChartSet.{ChartSet, read_charts, transition}
use Rattle.model.specs.Charts.{row, transition_holds, first_that, acted, waited, follow, charts}
use Rattle.model.specs.ChartFile.{charts_refusal, between, guard_named, action_named}
use Rattle.model.specs.AutomataTable.{Automata, read_automata, read_clock, edge, no_edge, clock_at, no_clock}
use Rattle.model.specs.Automata.{top, grown, literal_holds, reads, opens, the_one, reset, leaving, open_edges, automata}
use Rattle.model.specs.AutomataFile.{automata_limits, table_tests, automata_refusal, literal_trigger_named, table_named, clocks_tick, inside_automata}
use Rattle.model.specs.Translation.{transition_count}
use Rattle.prelude.proofs.Bools.{and_left, and_right, not-not, to-left, is_true, of-true, eqb-ne}
use Rattle.prelude.proofs.Lists.{mem-cons, keep-mem, from-mem, get_or-map_from, length-map_from, all_get_d, any-off}
use Rattle.model.proofs.ChartsRow.{row-mem}
use Rattle.model.proofs.AutomataOpen.{first_that-mem}
use Rattle.model.proofs.CorrespondenceTime.{grown-top}
use Rattle.model.proofs.TranslationClocks.{length-reset, reset-le}
use Rattle.model.proofs.WorldDeeds.{Kept, actions-kept, acted-updates, waited-updates}
use Rattle.model.proofs.CorrespondenceStep.{Sound}
use Rattle.model.proofs.CorrespondenceTurn.{map_from-still}
use Rattle.model.proofs.ChartFile.{lowest-none, or_off, three-of, seven-of}
use Rattle.model.proofs.ChartFileSound.{sound}
use Rattle.model.proofs.ChecksPossible.{Fits}
use Rattle.model.proofs.ChecksKept.{Keeps, Steady, cycle-possible}

-- ---- a part enters a place of its own, some timers go to 0

module _ (m : Machine) (few : parts m ≤ 8) (r : Run) (f : Fits m r) where
  pub entered-fits : (c g : ℕ) (ks : List ℕ) (w : World) → c < parts m → g < length m.homes → get_or m.homes g 0 ≡ c → Kept m.variables r.world w →
      ((k : ℕ) → k < m.timers_used → (x : ℕ) → x ≤ get_or r.timers k 0 → T (m.timer_possible r.world.cycles k x)) →
      Fits m (record { at = set r.at c g; timers = reset ks r.timers; world = w })
  entered-fits c g ks w c-in g-in own kept low = record {
    room = length-set r.at c g ∙ f.room;
    home = λ d d-in. home d d-in (eqb d c) refl;
    rest = λ k l. get_or-set_other r.at c k g 0 (λ e. omega arith) ∙ f.rest k l;
    valued = kept.2 f.valued;
    timer_room = length-reset ks r.timers ∙ f.timer_room;
    timer_low = λ k h. subst (λ n. T (m.timer_possible n k (get_or (reset ks r.timers) k 0))) (sym kept.0) (low k h (get_or (reset ks r.timers) k 0) (reset-le ks r.timers k));
    timer_rest = λ k l.
        let z : get_or r.timers k 0 ≡ 0 = f.timer_rest k l in
        let y : get_or (reset ks r.timers) k 0 ≤ get_or r.timers k 0 = reset-le ks r.timers k in
        omega arith;
  }
    where
      home : (d : ℕ) → d < parts m → (p : Bool) → eqb d c ≡ p → (get_or (set r.at c g) d 0 < length m.homes) × (get_or m.homes (get_or (set r.at c g) d 0) 0 ≡ d)
      home d d-in true e =
          let dc : d ≡ c = eqb→eq d c (of-true e) in
          let j : length r.at ≡ 8 = f.room in
          let z : get_or (set r.at c g) d 0 ≡ g = ap (λ n. get_or (set r.at c g) n 0) dc ∙ get_or-set_same r.at c g 0 (omega arith) in
          (subst (λ n. n < length m.homes) (sym z) g-in, ap (λ n. get_or m.homes n 0) z ∙ own ∙ sym dc)
      home d d-in false e =
          let z : get_or (set r.at c g) d 0 ≡ get_or r.at d 0 = get_or-set_other r.at c d g 0 (eqb-ne e) in
          (subst (λ n. n < length m.homes) (sym z) (f.home d d-in).0, ap (λ n. get_or m.homes n 0) z ∙ (f.home d d-in).1)

-- ---- a part stays, and the world alone changes

pub idled-fits : (m : Machine) (r : Run) → Fits m r → (w : World) → Kept m.variables r.world w → Fits m (record { at = r.at; timers = r.timers; world = w })
idled-fits m r f w kept = record {
  room = f.room;
  home = f.home;
  rest = f.rest;
  valued = kept.2 f.valued;
  timer_room = f.timer_room;
  timer_low = λ k h. subst (λ n. T (m.timer_possible n k (get_or r.timers k 0))) (sym kept.0) (f.timer_low k h);
  timer_rest = f.timer_rest;
}

-- time: each timer in use goes on
module _ (m : Machine) (r : Run) (f : Fits m r) (grow : ℕ → ℕ → ℕ) (room : m.timers_used ≤ m.timers_room) where
  pub grown-timers-fit : m.passed r ≡ map_from 0 (λ k x. cond (ltb k m.timers_used) (grow k x) x) r.timers →
      ((k : ℕ) → k < m.timers_used → T (m.timer_possible (r.world.cycles + 1) k (grow k (get_or r.timers k 0)))) → Fits m (time_passed m r)
  grown-timers-fit passed low = record {
    room = f.room;
    home = f.home;
    rest = f.rest;
    valued = f.valued;
    timer_room = ap length passed ∙ length-map_from (λ k x. cond (ltb k m.timers_used) (grow k x) x) r.timers 0 ∙ f.timer_room;
    timer_low = λ k h. subst (λ x. T (m.timer_possible (r.world.cycles + 1) k x)) (sym (ap (λ l. get_or l k 0) passed ∙ next k h)) (low k h);
    timer_rest = λ k l. ap (λ l. get_or l k 0) passed ∙ map_from-still grow m.timers_used r.timers k l (f.timer_rest k l);
  }
    where
      next : (k : ℕ) → k < m.timers_used → get_or (map_from 0 (λ k x. cond (ltb k m.timers_used) (grow k x) x) r.timers) k 0 ≡ grow k (get_or r.timers k 0)
      next k h =
          let j : length r.timers ≡ m.timers_room = f.timer_room in
          get_or-map_from (λ k x. cond (ltb k m.timers_used) (grow k x) x) r.timers 0 k (omega arith) ∙ rw (zero-add k, is_true {b = ltb k m.timers_used} (lt→ltb k m.timers_used h))

-- ---- charts

module _ (cs : ChartSet) (ok : Sound cs) where
  chart-keeps : (c : ℕ) (r : Run) (x : Answer × Run) → c < length cs.initial → Fits (charts cs) r → (charts cs).step c r ≡ val x → Keeps (charts cs) r x
  unfolding reset
  chart-keeps c r x c-in f e = go (first_that (transition_holds cs r.world (get_or r.timers c 0)) (row cs (get_or r.at c 0))) refl e
    where
      after : (t : ℕ) → World → Run
      after t w = record { at = set r.at c (transition cs t).target; timers = set r.timers c 0; world = w }

      took : (t : ℕ) → T (mem t (row cs (get_or r.at c 0))) → (o : Out World) → acted cs t r.world ≡ o → (o >>= λ w. val (taken t, after t w)) ≡ val x → Keeps (charts cs) r x
      took t m (fault w) q e = let z : ◌≡◌ {A = ℕ} 0 1 = cc in absurd (omega arith)
      took t m (val w) q e =
          let z : (taken t, after t w) ≡ x = cc in
          let k : Kept cs.variables r.world w = actions-kept cs.nodes cs.variables _ r.world w (sym (acted-updates cs t r.world) ∙ q) in
          let h : (t < transition_count cs) × ((transition cs t).source ≡ get_or r.at c 0) = row-mem cs (get_or r.at c 0) t m in
          subst (Keeps (charts cs) r) z (
            entered-fits (charts cs) ok.charts_fit r f c (transition cs t).target (c ∷ []) w c-in (ok.targets t h.0)
                (sym (ok.same_chart t h.0) ∙ ap (λ n. get_or cs.homes n 0) h.1 ∙ (f.home c c-in).1) k
                (λ d d-in n l. le→leb n r.world.cycles (le_trans l (leb→le (get_or r.timers d 0) r.world.cycles (f.timer_low d d-in)))),
            k.0,
            k.1,
            tt,
          )

      stayed : (o : Out World) → waited cs (get_or r.at c 0) (get_or r.timers c 0) r.world ≡ o → (o >>= λ w. val (idle, record { at = r.at; timers = r.timers; world = w })) ≡ val x → Keeps (charts cs) r x
      stayed (fault w) q e = let z : ◌≡◌ {A = ℕ} 0 1 = cc in absurd (omega arith)
      stayed (val w) q e =
          let z : (idle, record { at = r.at; timers = r.timers; world = w }) ≡ x = cc in
          let k : Kept cs.variables r.world w = actions-kept cs.nodes cs.variables _ r.world w (sym (waited-updates cs (get_or r.at c 0) (get_or r.timers c 0) r.world) ∙ q) in
          subst (Keeps (charts cs) r) z (idled-fits (charts cs) r f w k, k.0, k.1, tt)

      go : (o : Out (Option ℕ)) → first_that (transition_holds cs r.world (get_or r.timers c 0)) (row cs (get_or r.at c 0)) ≡ o → (o >>= follow cs c r) ≡ val x → Keeps (charts cs) r x
      go (fault w) q e = let z : ◌≡◌ {A = ℕ} 0 1 = cc in absurd (omega arith)
      go (val none) q e = stayed (waited cs (get_or r.at c 0) (get_or r.timers c 0) r.world) refl e
      go (val (some t)) q e = took t (first_that-mem (transition_holds cs r.world (get_or r.timers c 0)) (row cs (get_or r.at c 0)) t q) (acted cs t r.world) refl e

  pub steady-charts : Steady (charts cs)
  steady-charts = record {
    step_fits_lem = chart-keeps;
    fits_time = λ r f. grown-timers-fit (charts cs) r f (λ c age. age + 1) ok.charts_fit refl
        (λ k h. let l : get_or r.timers k 0 ≤ r.world.cycles = leb→le (get_or r.timers k 0) r.world.cycles (f.timer_low k h) in le→leb (get_or r.timers k 0 + 1) (r.world.cycles + 1) (omega arith));
  }

pub charts-cycle-possible : (s : List ℕ) → charts_refusal s ≡ none → (given : ℕ) (r r₁ : Run) → T (possible (charts (read_charts s)) r) → cycle (charts (read_charts s)) given r ≡ val (tt, r₁) →
    T (possible (charts (read_charts s)) r₁) × (r₁.world.position ≡ 1) × (r₁.world.cycles ≡ r.world.cycles + 1)
charts-cycle-possible s ok = cycle-possible (charts (read_charts s)) (steady-charts (read_charts s) (sound s ok))

-- ---- automata

-- what is open is one of the edges read
open-mem : (f : ℕ → Out Bool) (es os : List ℕ) (e : ℕ) → opens f es ≡ val os → T (mem e os) → T (mem e es)
unfolding opens mem
open-mem f [] os e q m = let z : os ≡ [] = cc in absurd (subst (λ l. T (mem e l)) z m)
open-mem f (x ∷ es) os e q m = go (f x) (opens f es) refl q (λ rest i. open-mem f es rest e i)
  where
    go : (a : Out Bool) (b : Out (List ℕ)) → opens f es ≡ b → (a >>= λ o. b >>= λ rest. val (cond o (x ∷ rest) rest)) ≡ val os →
        ((rest : List ℕ) → opens f es ≡ val rest → T (mem e rest) → T (mem e es)) → T (mem e (x ∷ es))
    go (fault w) b i q ih = let z : ◌≡◌ {A = ℕ} 0 1 = cc in absurd (omega arith)
    go (val o) (fault w) i q ih = let z : ◌≡◌ {A = ℕ} 0 1 = cc in absurd (omega arith)
    go (val false) (val rest) i q ih = let z : os ≡ rest = cc in mem-cons e x es (ih rest i (subst (λ l. T (mem e l)) z m))
    go (val true) (val rest) i q ih = let z : os ≡ x ∷ rest = cc in by (eqb x e) refl (subst (λ l. T (mem e l)) z m)
      where
        by : (b : Bool) → eqb x e ≡ b → T (b || mem e rest) → T (mem e (x ∷ es))
        by true d t = to-left (eqb x e) (mem e es) (of-true d)
        by false d t = mem-cons e x es (ih rest i t)

-- what an accepted table has
pub record SoundTable (au : Automata) : Type 0 where
  automata_fit : length au.initial ≤ 8
  clocks_fit : length au.clocks ≤ most_clocks
  ticking : (k : ℕ) → k < length au.clocks → 0 < (clock_at au k).ticks
  targets : (e : ℕ) → e < length au.edges → ((edge au e).target < length au.homes) × (home au.homes (edge au e).target ≡ (edge au e).automaton)

module _ (au : Automata) (ok : SoundTable au) where
  edge-keeps : (a : ℕ) (r : Run) (x : Answer × Run) → a < length au.initial → Fits (automata au) r → (automata au).step a r ≡ val x → Keeps (automata au) r x
  unfolding mem
  edge-keeps a r x a_in f q = go (open_edges au a r) refl q
    where
      took : (e : ℕ) → T (mem e (leaving au a (get_or r.at a 0))) → (o : Out World) → actions au.nodes au.variables (of e au.updates) r.world ≡ o →
          (o >>= λ w. val (taken e, record { at = set r.at a (edge au e).target; timers = reset (of e au.resets) r.timers; world = w })) ≡ val x → Keeps (automata au) r x
      took e m (fault w) i q = let z : ◌≡◌ {A = ℕ} 0 1 = cc in absurd (omega arith)
      took e m (val w) i q =
          let z : (taken e, record { at = set r.at a (edge au e).target; timers = reset (of e au.resets) r.timers; world = w }) ≡ x = cc in
          let k : Kept au.variables r.world w = actions-kept au.nodes au.variables (of e au.updates) r.world w i in
          let h : T (eqb (edge au e).automaton a && eqb (edge au e).source (get_or r.at a 0)) × T (mem e (upto (length au.edges)))
          = keep-mem (λ e. eqb (edge au e).automaton a && eqb (edge au e).source (get_or r.at a 0)) e (upto (length au.edges)) m in
          let own : (edge au e).automaton ≡ a = eqb→eq (edge au e).automaton a (and_left (eqb (edge au e).automaton a) (eqb (edge au e).source (get_or r.at a 0)) h.0) in
          let b : (0 ≤ e) × (e < 0 + length au.edges) = from-mem e 0 (length au.edges) h.1 in
          let t : ((edge au e).target < length au.homes) × (home au.homes (edge au e).target ≡ (edge au e).automaton) = ok.targets e (omega arith) in
          subst (Keeps (automata au) r) z (
            entered-fits (automata au) ok.automata_fit r f a (edge au e).target (of e au.resets) w a_in t.0 (t.1 ∙ own) k
                (λ d d-in n l. le→leb n (top (clock_at au d).timing (clock_at au d).ticks) (le_trans l (leb→le (get_or r.timers d 0) (top (clock_at au d).timing (clock_at au d).ticks) (f.timer_low d d-in)))),
            k.0,
            k.1,
            tt,
          )

      one : (es : List ℕ) → open_edges au a r ≡ val es →
          (the_one es >>= λ e. actions au.nodes au.variables (of e au.updates) r.world >>= λ w. val (taken e, record { at = set r.at a (edge au e).target; timers = reset (of e au.resets) r.timers; world = w })) ≡ val x →
          Keeps (automata au) r x
      one [] i q = let z : ◌≡◌ {A = ℕ} 0 1 = cc in absurd (omega arith)
      one (e ∷ []) i q =
          took e (open-mem (λ e. reads (literal_holds au r) (of e au.literals)) (leaving au a (get_or r.at a 0)) (e ∷ []) e i (to-left (eqb e e) false (eqb_same e)))
          (actions au.nodes au.variables (of e au.updates) r.world) refl q
        where
          eqb_same : (e : ℕ) → T (eqb e e)
          eqb_same e = eqb_refl e
      one (e ∷ e' ∷ es) i q = let z : ◌≡◌ {A = ℕ} 0 1 = cc in absurd (omega arith)

      go : (o : Out (List ℕ)) → open_edges au a r ≡ o →
          (o >>= λ es. the_one es >>= λ e. actions au.nodes au.variables (of e au.updates) r.world >>= λ w. val (taken e, record { at = set r.at a (edge au e).target; timers = reset (of e au.resets) r.timers; world = w })) ≡ val x →
          Keeps (automata au) r x
      go (fault w) i q = let z : ◌≡◌ {A = ℕ} 0 1 = cc in absurd (omega arith)
      go (val es) i q = one es i q

  pub steady-automata : Steady (automata au)
  steady-automata = record {
    step_fits_lem = edge-keeps;
    fits_time = λ r f. grown-timers-fit (automata au) r f (λ k x. grown (clock_at au k).timing (clock_at au k).ticks x) ok.clocks_fit refl
        (λ k h. le→leb (grown (clock_at au k).timing (clock_at au k).ticks (get_or r.timers k 0)) (top (clock_at au k).timing (clock_at au k).ticks)
        (grown-top (clock_at au k).timing (clock_at au k).ticks (get_or r.timers k 0) (ok.ticking k h) (leb→le (get_or r.timers k 0) (top (clock_at au k).timing (clock_at au k).ticks) (f.timer_low k h))));
  }

module _ (s : List ℕ) (ok : automata_refusal s ≡ none) where
  abbrev au : Automata
  au = read_automata s

  abbrev tests : List (Refusal × Bool)
  tests = map (λ applies. (bad_table, applies)) (table_tests s)

  off : (k : ℕ) → k < 10 → T (not (get_or tests k (bad_table, false)).1)
  off k h = all_get_d (λ x. not x.1) tests (bad_table, false) k (lowest-none tests ok) h

  limit : (m : ℕ) → m < 9 → T (not (get_or (map_from 33 (λ k m. ltb m (how_many k s)) automata_limits) m false))
  unfolding map_from
  limit m h = any-off (λ over. over) (map_from 33 (λ k m. ltb m (how_many k s)) automata_limits) false m
      (or_off (eqb (how_many 33 s) 0) (any (λ over. over) (map_from 33 (λ k m. ltb m (how_many k s)) automata_limits)) (off 2 (omega arith))).1 h

  pub sound-table : SoundTable au
  unfolding map_from
  sound-table = record {
    automata_fit = rw (length-map (of_kind 33 s) (λ r. two r 2), length-of_kind 33 s) (nltb→le 8 (how_many 33 s) (limit 0 (omega arith)));
    clocks_fit = rw (length-map (of_kind 37 s) read_clock, length-of_kind 37 s) (nltb→le most_clocks (how_many 37 s) (limit 4 (omega arith)));
    ticking = λ k h.
        leb→le 1 (clock_at au k).ticks (and_left (leb 1 (clock_at au k).ticks) (leb (clock_at au k).ticks 36_000)
        (all_get_d (λ c. between 1 36_000 c.ticks) au.clocks no_clock k (not-not (clocks_tick au) (off 6 (omega arith))) h));
    targets = λ e h. (
      ltb→lt (edge au e).target (length au.homes) (three-of (ltb (edge au e).automaton (length au.initial)) (ltb (edge au e).source (length au.homes)) (ltb (edge au e).target (length au.homes))
          (all_get_d (λ e. ltb e.automaton (length au.initial) && ltb e.source (length au.homes) && ltb e.target (length au.homes)) au.edges no_edge e edges-named h)).2,
      eqb→eq (home au.homes (edge au e).target) (edge au e).automaton (and_right (eqb (home au.homes (edge au e).source) (edge au e).automaton) (eqb (home au.homes (edge au e).target) (edge au e).automaton)
          (all_get_d (λ e. eqb (home au.homes e.source) e.automaton && eqb (home au.homes e.target) e.automaton) au.edges no_edge e edges-inside h)),
    );
  }
    where
      edges-named : T (all (λ e. ltb e.automaton (length au.initial) && ltb e.source (length au.homes) && ltb e.target (length au.homes)) au.edges)
      edges-named =
          (seven-of (all (λ l. ltb l (length au.homes)) au.initial) (all (λ a. ltb a (length au.initial)) au.homes)
          (all (λ e. ltb e.automaton (length au.initial) && ltb e.source (length au.homes) && ltb e.target (length au.homes)) au.edges)
          (all (λ x. ltb x.0 (length au.edges) && literal_trigger_named (length au.clocks) x.1.trigger && guard_named (length au.nodes) x.1.guard) au.literals)
          (nodes_named (node_of au.nodes) (length au.nodes) (length au.variables))
          (all (λ x. ltb x.0 (length au.edges) && action_named (length au.variables) (length au.nodes) x.1) au.updates)
          (all (λ x. ltb x.0 (length au.edges) && ltb x.1 (length au.clocks)) au.resets)
          (not-not (table_named au) (off 5 (omega arith)))).2

      edges-inside : T (all (λ e. eqb (home au.homes e.source) e.automaton && eqb (home au.homes e.target) e.automaton) au.edges)
      edges-inside =
          and_left (all (λ e. eqb (home au.homes e.source) e.automaton && eqb (home au.homes e.target) e.automaton) au.edges) (all (λ a. eqb (home au.homes (get_or au.initial a 0)) a) (upto (length au.initial)))
          (not-not (inside_automata au) (off 7 (omega arith)))

pub table-cycle-possible : (s : List ℕ) → automata_refusal s ≡ none → (given : ℕ) (r r₁ : Run) → T (possible (automata (read_automata s)) r) → cycle (automata (read_automata s)) given r ≡ val (tt, r₁) →
    T (possible (automata (read_automata s)) r₁) × (r₁.world.position ≡ 1) × (r₁.world.cycles ≡ r.world.cycles + 1)
table-cycle-possible s ok = cycle-possible (automata (read_automata s)) (steady-automata (read_automata s) (sound-table s ok))
