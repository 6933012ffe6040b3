-- A cycle is its turns, one call after the other, for chart sets and for automata tables that are not refused; and a turn's place in its cycle. Assumes
-- nothing.
use mathlib.Core.Path.{◌≡◌, refl, sym, ap, ◌∙◌, subst}
use mathlib.Core.Option.{none}
use mathlib.Core.Bool.{Bool, true, false, not, cond, ◌&&◌}
use mathlib.Core.List.{List}
use Prim.Native.Nat.{ℕ, suc, ◌+◌, ◌-◌, ◌≤◌, ◌<◌}
use native.Mathlib.Omega.{arith}
use lib.Dec.{T, leb, eqb, leb→le, nleb→lt}
use Rattle.records.specs.Refusal.{impossible_run, misplaced_events, cycles_done, Out, val, fault, ◌>>=◌, ◌>>◌, fault_if}
use Rattle.model.specs.Runs.{Run, Answer, taken, idle, time, Machine, parts, possible, checked, set_events, give, moved, time_passed, stepped, turn, whole_cycle, Trace, done, stopped, turned, onto, unless_stopped, turns, trace, ended, cycle}
use Rattle.model.specs.ChartSet.{read_charts}
use Rattle.model.specs.Charts.{charts}
use Rattle.model.specs.ChartFile.{charts_refusal}
use Rattle.model.specs.AutomataTable.{read_automata}
use Rattle.model.specs.Automata.{automata}
use Rattle.model.specs.AutomataFile.{automata_refusal}
use Rattle.prelude.proofs.Bools.{of-true, not-false, ne→eqb}
use Rattle.model.proofs.ChartFileSound.{sound}
use Rattle.model.proofs.ChecksPossible.{possible-of, possible-fits, possible-rests, part-rests, checked_later, checked-possible, checked_later-count}
use Rattle.model.proofs.ChecksKept.{NotTime, fits-same, Keeps, Steady}
use Rattle.model.proofs.ChecksKeptBySteps.{steady-charts, steady-automata, sound-table}

-- what is left of a cycle after a turn's answer: nothing after time's, else a cycle called with no events
abbrev pub trace_after : Machine → Answer × Run → Trace
trace_after m (taken t, r) = trace m (whole_cycle 0) r
trace_after m (idle, r) = trace m (whole_cycle 0) r
trace_after m (time, r) = done

abbrev pub after_turn : Machine → Answer × Run → Out (Unit {0} × Run)
after_turn m (taken t, r) = cycle m 0 r
after_turn m (idle, r) = cycle m 0 r
after_turn m (time, r) = val (tt, r)

-- a turn taken in r₀, and what is left after it
abbrev pub traced : Machine → Run → Out (Answer × Run) → Trace
traced m r₀ (fault w) = stopped w
traced m r₀ (val x) = turned r₀ x.0 x.1 (trace_after m x)

after-part : (m : Machine) (a : Answer) (r : Run) → NotTime a → trace_after m (a, r) ≡ trace m (whole_cycle 0) r
after-part m (taken t) r n = refl
after-part m idle r n = refl
after-part m time r n = absurd n

-- ---- any machine

module _ (m : Machine) (ok : Steady m) (given : ℕ) (r : Run) where
  -- a call that gets past the checks was lent a possible run
  past-checks : (u : Unit {0}) → checked m given r ≡ val u → T (possible m r) × (r.world.cycles ≤ 999_999)
  past-checks u e = go (possible m r) refl e
    where
      go : (b : Bool) → possible m r ≡ b → (fault_if (not b) impossible_run >>= λ _. checked_later given r.world) ≡ val u → T (possible m r) × (r.world.cycles ≤ 999_999)
      go true p e = (of-true p, checked_later-count m given r.world u (possible-rests m r (of-true p)).count e)
      go false p e = let z : ◌≡◌ {A = ℕ} 0 1 = cc in absurd (omega arith)

  -- A part's turn that comes to x: a call without events gets past the checks again.
  record Onward (x : Answer × Run) : Type 0 where
    answers : NotTime x.0
    position : x.1.world.position ≡ r.world.position
    checks : checked m 0 (moved x.1) ≡ val tt
    none_given : give 0 (moved x.1) ≡ moved x.1

  part-onward : (u : Unit {0}) → checked m given r ≡ val u → r.world.position ≤ parts m → (x : Answer × Run) → m.step (r.world.position - 1) (give given r) ≡ val x → Onward x
  part-onward u c l x e = record {
    answers = kept.3;
    position = kept.2;
    checks = checked-possible m 0 (moved x.1) possible-again
        ∙ ap (λ b. fault_if (not b && not (eqb 0 0)) misplaced_events >>= λ _. fault_if (b && eqb x.1.world.cycles 1_000_000) cycles_done) past_one;
    none_given = ap (λ b. record { at = x.1.at; timers = x.1.timers; world = set_events (cond b 0 x.1.world.events) (moved x.1).world }) past_one;
  }
    where
      passed : T (possible m r) × (r.world.cycles ≤ 999_999)
      passed = past-checks u c

      low : 1 ≤ r.world.position
      low = (possible-rests m r passed.0).low

      kept : Keeps m (give given r) x
      kept = ok.step_fits_lem (r.world.position - 1) (give given r) x (omega (arith, low)) (fits-same m r (give given r) refl refl refl refl (possible-fits m r passed.0)) e

      past_one : eqb (x.1.world.position + 1) 1 ≡ false
      past_one = ne→eqb {a = x.1.world.position + 1} {b = 1} (λ z. omega (arith, low, kept.2))

      possible-again : T (possible m (moved x.1))
      possible-again = possible-of m (moved x.1) (fits-same m x.1 (moved x.1) refl refl refl refl kept.0)
          (part-rests m r.world (moved x.1).world passed.1 low l (ap (λ n. n + 1) kept.2) kept.1)

  -- the turns after a part's turn are those of a cycle called with no events
  trace-onward : (x : Answer × Run) → Onward x → trace m (whole_cycle 0) (moved x.1) ≡ turns m (parts m + 1 - r.world.position) (moved x.1)
  trace-onward x o =
      let n : parts m + 2 - (x.1.world.position + 1) ≡ parts m + 1 - r.world.position = omega (arith, o.position) in
      λ i. unless_stopped (o.checks i) (turns m (n i) (o.none_given i))

  pub trace-by-turns : trace m (whole_cycle given) r ≡ traced m (give given r) (turn m given r)
  unfolding turns
  trace-by-turns = go (checked m given r) refl
    where
      k : ℕ
      k = parts m + 1 - r.world.position

      part : (u : Unit {0}) → checked m given r ≡ val u → r.world.position ≤ parts m → (o : Out (Answer × Run)) → m.step (r.world.position - 1) (give given r) ≡ o →
          onto (give given r) (o >>= λ x. val (x.0, moved x.1)) (turns m k) ≡ traced m (give given r) (o >>= λ x. val (x.0, moved x.1))
      part u c l (fault w) e = refl
      part u c l (val x) e =
          let o : Onward x = part-onward u c l x e in
          ap (turned (give given r) x.0 (moved x.1)) (sym (after-part m x.0 (moved x.1) o.answers ∙ trace-onward x o))

      by : (u : Unit {0}) → checked m given r ≡ val u → (b : Bool) → leb r.world.position (parts m) ≡ b →
          onto (give given r) (cond b (m.step (r.world.position - 1) (give given r) >>= λ x. val (x.0, moved x.1)) (val (time, time_passed m (give given r)))) (turns m k)
          ≡ traced m (give given r) (cond b (m.step (r.world.position - 1) (give given r) >>= λ x. val (x.0, moved x.1)) (val (time, time_passed m (give given r))))
      by u c true q = part u c (leb→le r.world.position (parts m) (of-true q)) (m.step (r.world.position - 1) (give given r)) refl
      by u c false q =
          let l : parts m < r.world.position = nleb→lt r.world.position (parts m) (not-false q) in
          let z : k ≡ 0 = omega arith in
          ap (λ n. turned (give given r) time (time_passed m (give given r)) (turns m n (time_passed m (give given r)))) z

      go : (c : Out (Unit {0})) → checked m given r ≡ c → unless_stopped c (turns m (parts m + 2 - r.world.position) (give given r)) ≡ traced m (give given r) (c >> stepped m (give given r))
      go (fault w) q = refl
      go (val u) q =
          let high : r.world.position ≤ parts m + 1 = (possible-rests m r (past-checks u q).0).high in
          let n : parts m + 2 - r.world.position ≡ suc k = omega arith in
          ap (λ n. turns m n (give given r)) n ∙ by u q (leb r.world.position (parts m)) refl

  pub cycle-by-turns : cycle m given r ≡ (turn m given r >>= λ x. after_turn m x)
  unfolding ended
  cycle-by-turns = ap (λ t. ended r t >>= λ r₁. val (tt {0}, r₁)) trace-by-turns ∙ go (turn m given r)
    where
      go : (o : Out (Answer × Run)) → (ended r (traced m (give given r) o) >>= λ r₁. val (tt {0}, r₁)) ≡ (o >>= λ x. after_turn m x)
      go (fault w) = refl
      go (val (taken t, r₁)) = refl
      go (val (idle, r₁)) = refl
      go (val (time, r₁)) = refl

  -- a part's turn goes one position on, time's is taken at the last
  abbrev TakenAt : Answer × Run → Type 0
  TakenAt (taken t, r₁) = (r.world.position ≤ parts m) × (r₁.world.position ≡ r.world.position + 1)
  TakenAt (idle, r₁) = (r.world.position ≤ parts m) × (r₁.world.position ≡ r.world.position + 1)
  TakenAt (time, r₁) = r.world.position ≡ parts m + 1

  taken_at : (x : Answer × Run) → turn m given r ≡ val x → TakenAt x
  taken_at x e = go (checked m given r) refl e
    where
      moved_on : (a : Answer) (r₁ : Run) → NotTime a → (r.world.position ≤ parts m) × (r₁.world.position ≡ r.world.position + 1) → TakenAt (a, r₁)
      moved_on (taken t) r₁ n h = h
      moved_on idle r₁ n h = h
      moved_on time r₁ n h = absurd n

      part : (u : Unit {0}) → checked m given r ≡ val u → r.world.position ≤ parts m → (o : Out (Answer × Run)) → m.step (r.world.position - 1) (give given r) ≡ o →
          (o >>= λ y. val (y.0, moved y.1)) ≡ val x → TakenAt x
      part u c l (fault w) q e = let z : ◌≡◌ {A = ℕ} 0 1 = cc in absurd (omega arith)
      part u c l (val y) q e =
          let o : Onward y = part-onward u c l y q in
          let z : (y.0, moved y.1) ≡ x = cc in
          subst TakenAt z (moved_on y.0 (moved y.1) o.answers (l, ap (λ n. n + 1) o.position))

      by : (u : Unit {0}) → checked m given r ≡ val u → (b : Bool) → leb r.world.position (parts m) ≡ b →
          cond b (m.step (r.world.position - 1) (give given r) >>= λ y. val (y.0, moved y.1)) (val (time, time_passed m (give given r))) ≡ val x → TakenAt x
      by u c true q e = part u c (leb→le r.world.position (parts m) (of-true q)) (m.step (r.world.position - 1) (give given r)) refl e
      by u c false q e =
          let z : (time, time_passed m (give given r)) ≡ x = cc in
          let l : parts m < r.world.position = nleb→lt r.world.position (parts m) (not-false q) in
          let high : r.world.position ≤ parts m + 1 = (possible-rests m r (past-checks u c).0).high in
          subst TakenAt z (omega arith)

      go : (c : Out (Unit {0})) → checked m given r ≡ c → (c >> stepped m (give given r)) ≡ val x → TakenAt x
      go (fault w) q e = let z : ◌≡◌ {A = ℕ} 0 1 = cc in absurd (omega arith)
      go (val u) q e = by u q (leb r.world.position (parts m)) refl e

  pub turn-moves : (a : Answer) (r₁ : Run) → turn m given r ≡ val (a, r₁) → NotTime a → (r.world.position ≤ parts m) × (r₁.world.position ≡ r.world.position + 1)
  turn-moves (taken t) r₁ e n = taken_at (taken t, r₁) e
  turn-moves idle r₁ e n = taken_at (idle, r₁) e
  turn-moves time r₁ e n = absurd n

  pub turn-time : (r₁ : Run) → turn m given r ≡ val (time, r₁) → r.world.position ≡ parts m + 1
  turn-time r₁ e = taken_at (time, r₁) e

  -- a run whose turn is taken has a position
  pub turn-begun : (x : Answer × Run) → turn m given r ≡ val x → 1 ≤ r.world.position
  turn-begun x e = go (checked m given r) refl e
    where
      go : (c : Out (Unit {0})) → checked m given r ≡ c → (c >> stepped m (give given r)) ≡ val x → 1 ≤ r.world.position
      go (fault w) q e = let z : ◌≡◌ {A = ℕ} 0 1 = cc in absurd (omega arith)
      go (val u) q e = (possible-rests m r (past-checks u q).0).low

-- ---- charts

module _ (s : List ℕ) (ok : charts_refusal s ≡ none) (given : ℕ) (r : Run) where
  pub charts-cycle-by-turns : cycle (charts (read_charts s)) given r ≡ (turn (charts (read_charts s)) given r >>= λ x. after_turn (charts (read_charts s)) x)
  charts-cycle-by-turns = cycle-by-turns (charts (read_charts s)) (steady-charts (read_charts s) (sound s ok)) given r

  pub charts-trace-by-turns : trace (charts (read_charts s)) (whole_cycle given) r ≡ traced (charts (read_charts s)) (give given r) (turn (charts (read_charts s)) given r)
  charts-trace-by-turns = trace-by-turns (charts (read_charts s)) (steady-charts (read_charts s) (sound s ok)) given r

  pub charts-turn-moves : (a : Answer) (r₁ : Run) → turn (charts (read_charts s)) given r ≡ val (a, r₁) → NotTime a →
      (r.world.position ≤ parts (charts (read_charts s))) × (r₁.world.position ≡ r.world.position + 1)
  charts-turn-moves = turn-moves (charts (read_charts s)) (steady-charts (read_charts s) (sound s ok)) given r

  pub charts-turn-time : (r₁ : Run) → turn (charts (read_charts s)) given r ≡ val (time, r₁) → r.world.position ≡ parts (charts (read_charts s)) + 1
  charts-turn-time = turn-time (charts (read_charts s)) (steady-charts (read_charts s) (sound s ok)) given r

-- ---- automata

module _ (s : List ℕ) (ok : automata_refusal s ≡ none) (given : ℕ) (r : Run) where
  pub table-cycle-by-turns : cycle (automata (read_automata s)) given r ≡ (turn (automata (read_automata s)) given r >>= λ x. after_turn (automata (read_automata s)) x)
  table-cycle-by-turns = cycle-by-turns (automata (read_automata s)) (steady-automata (read_automata s) (sound-table s ok)) given r

  pub table-trace-by-turns : trace (automata (read_automata s)) (whole_cycle given) r ≡ traced (automata (read_automata s)) (give given r) (turn (automata (read_automata s)) given r)
  table-trace-by-turns = trace-by-turns (automata (read_automata s)) (steady-automata (read_automata s) (sound-table s ok)) given r

  pub table-turn-moves : (a : Answer) (r₁ : Run) → turn (automata (read_automata s)) given r ≡ val (a, r₁) → NotTime a →
      (r.world.position ≤ parts (automata (read_automata s))) × (r₁.world.position ≡ r.world.position + 1)
  table-turn-moves = turn-moves (automata (read_automata s)) (steady-automata (read_automata s) (sound-table s ok)) given r

  pub table-turn-time : (r₁ : Run) → turn (automata (read_automata s)) given r ≡ val (time, r₁) → r.world.position ≡ parts (automata (read_automata s)) + 1
  table-turn-time = turn-time (automata (read_automata s)) (steady-automata (read_automata s) (sound-table s ok)) given r
