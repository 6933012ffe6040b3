-- Many cycles of chart sets: a chart's turn keeps position and count, so they are at most 1,000,000; what is checked of a possible run between two cycles; a
-- cycle from what its turns came to; and a first cycle with those after it. Assumes nothing.
use mathlib.Core.Path.{◌≡◌, refl, sym, ap, ◌∙◌, subst}
use mathlib.Core.Bool.{Bool, true, false, not, cond, ◌&&◌, ◌||◌}
use mathlib.Core.List.{List}
use Prim.Native.Nat.{ℕ, ◌+◌, ◌-◌, ◌≤◌}
use native.Mathlib.Omega.{arith}
use borrow.Author.Tests.{eq-eqb, ne_eqb}
use lib.Dec.{T, leb, eqb, leb→le, eqb→eq}
use lib.IntN.{ℤ}
use lib.ListN.{drop}
use Rattle.prelude.proofs.Counts.{impossible}
use Rattle.records.specs.Refusal.{impossible_run, misplaced_events, cycles_done, Out, val, fault, ◌>>◌, fault_if}
use Rattle.model.specs.Outcome.{settled}
use Rattle.model.specs.Runs.{Run, Machine, possible, checked, give, cycle}
use Rattle.model.proofs.ChecksPossible.{possible-rests, checked-possible}
use Rattle.model.specs.ChartSet.{ChartSet, read_charts}
use Rattle.model.specs.Charts.{chart_step, charts}
use Rattle.model.specs.Calls.{chart_sets}
use Rattle.answers.specs.declared.Reason.{Reason}
use Rattle.answers.specs.Answers.{reason_of, cycles_of}
use Rattle.chart_records.specs.declared.Shape.{Shape}
use Rattle.chart_records.specs.Shape.{IsShape}
use Rattle.chart_records.proofs.PlacesRead.{length-initial}
use Rattle.machines.specs.Playing.{played, stopped_at, playing, play_call}
use Rattle.machines.proofs.Turns.{cycle-refused, cycle-given}
use Rattle.machines.proofs.Playing as P
use Rattle.std.specs.Prelude.{Result, Ok, Err, is_err}
use Rattle.charts.specs.declared.plays.Played.{Played}
use Rattle.machines.specs.Worlds.{moment, run_in}
use Rattle.chart_runs.specs.RunOf.{run_of}
use Rattle.charts.specs.PlayedOf.{played_of}
use Rattle.charts.specs.EndedBy.{ran_to}
use Rattle.charts.specs.TurnOf.{after, finish}
use Rattle.charts.proofs.TurnOfKept.{step_kept}

pub count_kept : (cs : ChartSet) (part : ℕ) (r : Run) → P.KeptCount r ((charts cs).step part r)
count_kept cs part r = P.count_kept r (chart_step cs part r) (step_kept cs part r)

pub few-played : (s masks : List ℕ) (r : Run) (n : ℕ) → (play_call chart_sets s masks r).answer ≡ val n → n ≤ 1_000_000
few-played s masks r = P.few-called chart_sets s masks r (count_kept (read_charts s))

-- ---- between two cycles

module _ (cs : ChartSet) (states ages : List ℕ) (vars : List ℤ) (cycles given : ℕ) (fine : T (possible (charts cs) (run_in states ages vars 0 (moment 1 cycles)))) where
  checked-by : (b : Bool) → eqb cycles 1_000_000 ≡ b → checked (charts cs) given (run_in states ages vars 0 (moment 1 cycles)) ≡ fault_if b cycles_done
  checked-by b e = checked-possible (charts cs) given (run_in states ages vars 0 (moment 1 cycles)) fine ∙ ap (λ b. fault_if b cycles_done) e

  -- the count alone is asked
  pub checked-fine : (cycles ≡ 1_000_000 → ⊥) → checked (charts cs) given (run_in states ages vars 0 (moment 1 cycles)) ≡ val tt
  checked-fine n = checked-by false (ne_eqb cycles 1_000_000 n)

  pub checked-last : cycles ≡ 1_000_000 → checked (charts cs) given (run_in states ages vars 0 (moment 1 cycles)) ≡ fault cycles_done
  checked-last e = checked-by true (eq-eqb cycles 1_000_000 e)

module _ (m : Machine) (r : Run) where
  -- what of check 12 is about events and the count
  pub no-events : T (possible m r) → r.world.position ≡ 1 → r.world.events ≡ 0
  no-events fine e = eqb→eq r.world.events 0 (go (eqb r.world.position 1) (eq-eqb r.world.position 1 e) (possible-rests m r fine).events)
    where
      go : (b : Bool) → b ≡ true → T (not b || eqb r.world.events 0) → T (eqb r.world.events 0)
      go true d t = t
      go false d t = let z : ◌≡◌ {A = ℕ} 0 1 = cc in absurd (omega arith)

  pub few-cycles : T (possible m r) → r.world.cycles ≤ 1_000_000
  few-cycles fine = go (eqb r.world.position 1) (possible-rests m r fine).count
    where
      go : (b : Bool) → T (leb r.world.cycles (cond b 1_000_000 999_999)) → r.world.cycles ≤ 1_000_000
      go true t = leb→le r.world.cycles 1_000_000 t
      go false t = let l : r.world.cycles ≤ 999_999 = leb→le r.world.cycles 999_999 t in omega arith

  -- a cycle is done only of a possible run
  pub was-possible : (given : ℕ) (q : Run) → cycle m given r ≡ val (tt, q) → T (possible m r)
  was-possible given q e = go (possible m r) refl
    where
      go : (b : Bool) → possible m r ≡ b → T (possible m r)
      go true d = subst T (sym d) tt
      go false d =
          let c : checked m given r ≡ fault impossible_run =
          ap (λ b. fault_if (not b) impossible_run >> (fault_if (not (eqb r.world.position 1) && not (eqb given 0)) misplaced_events >> fault_if (eqb r.world.position 1 && eqb r.world.cycles 1_000_000) cycles_done)) d
          in
          let f : ◌≡◌ {A = Out (Unit {0} × Run)} (fault impossible_run) (val (tt, q)) = sym (cycle-refused m given r impossible_run c) ∙ e in
          let z : ◌≡◌ {A = ℕ} 0 1 = cc in absurd (omega arith)

-- ---- a cycle in place of a run that passed the checks, from what its turns came to

module _ (s : List ℕ) (sh : Shape) (is : IsShape s sh) (given : ℕ) (r q p : Run) (fine : checked (charts (read_charts s)) given r ≡ val tt) (events : q ≡ give given r)
    (o : Result (Unit {0}) Reason) (turned : ran_to o p ≡ after (charts (read_charts s)) (sh.charts + 2 - q.world.position) q) where
  pub by_turns : cycle (charts (read_charts s)) given r ≡ finish (ran_to o p)
  by_turns = cycle-given (charts (read_charts s)) sh.charts (length-initial s sh is) given r q fine events ∙ ap finish (sym turned)

  pub cycle-ends : (u : Unit {0}) → o ≡ Ok u → cycle (charts (read_charts s)) given r ≡ val (tt, p)
  cycle-ends u e = by_turns ∙ ap (λ d. finish (ran_to d p)) e

  pub cycle-fails : (w : Reason) → o ≡ Err w → cycle (charts (read_charts s)) given r ≡ fault (reason_of w)
  cycle-fails w e = by_turns ∙ ap (λ d. finish (ran_to d p)) e

  -- the run that a fault leaves does not matter
  pub cycle-failed : (l : Run) → is_err o ≡ true → cycle (charts (read_charts s)) given r ≡ finish (ran_to o l)
  cycle-failed l e = go o e by_turns
    where
      go : (d : Result (Unit {0}) Reason) → is_err d ≡ true → cycle (charts (read_charts s)) given r ≡ finish (ran_to d p) → cycle (charts (read_charts s)) given r ≡ finish (ran_to d l)
      go (Ok u) f is = impossible (sym f)
      go (Err w) f is = is

-- ---- the first cycle, and those after it

told-late : (n : ℕ) (q : Run) (o : Out (Unit {0})) → stopped_at (1 + n) q o ≡ val (1 + n, q)
told-late n q (val u) = refl
told-late n q (fault w) = ap (λ b. cond b (fault w) (val (1 + n, q))) (ne_eqb (1 + n) 0 (λ e. absurd (omega arith)))

pub later-told : (m : Machine) (masks : List ℕ) (r p l : Run) → P.PlayedAfter m masks r 1 p → (x : Played) → x.answer ≡ Ok (1 + (played m (drop 1 masks) p).count) → run_of x.run ≡ (played m (drop 1 masks) p).run →
    played_of x ≡ settled l (playing m masks r)
later-told m masks r p l went x a b =
    (λ i. record { answer = cycles_of (a i); lent = b i })
    ∙ sym
    (ap (λ y. settled l (stopped_at y.count y.run y.stop)) went
    ∙ ap (settled l) (told-late (played m (drop 1 masks) p).count (played m (drop 1 masks) p).run (played m (drop 1 masks) p).stop))
