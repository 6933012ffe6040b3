-- The turns of a cycle, from a ready run to time's. Assumes nothing.
use mathlib.Core.Path.{◌≡◌, refl, sym, ap, ◌∙◌, subst}
use mathlib.Core.Bool.{Bool, true, false}
use mathlib.Core.List.{List}
use Prim.Native.Nat.{ℕ, zero, suc, ◌+◌, ◌-◌, ◌≤◌, ◌<◌}
use native.Mathlib.Omega.{arith}
use borrow.Author.Tests.{ltb-true, ltb-false}
use lib.Dec.{ltb}
use lib.IntN.{ℤ}
use Rattle.std.specs.Prelude.{Result}
use lib.ListN.{get_or}
use Rattle.prelude.specs.Lists.{map_from}
use Rattle.records.specs.Refusal.{Out, val, fault, ◌>>=◌}
use Rattle.model.specs.Runs.{Run, Answer, moved, stepped}
use Rattle.model.specs.ChartSet.{read_charts}
use Rattle.model.specs.Charts.{chart_step, charts}
use Rattle.chart_records.specs.declared.Shape.{Shape}
use Rattle.chart_records.specs.Shape.{IsShape}
use Rattle.chart_records.proofs.PlacesRead.{length-initial}
use Rattle.machines.specs.Worlds.{Moment, moment, coded_fault, run_in}
use Rattle.answers.specs.declared.Reason.{Reason}
use Rattle.machines.proofs.WorldsCodes.{coded-value, coded-fault}
use Rattle.machines.proofs.Turns.{at_part, cycle-more, cycle-stop, cycle-end}
use Rattle.chart_runs.specs.RunOf.{aged}
use Rattle.chart_steps.specs.StepOf.{moved_by, chart_turns}
use Rattle.charts.specs.EndedBy.{ran_to, ended_by}
use Rattle.charts.specs.TurnOf.{Ready, after}
use Rattle.chart_steps.proofs.StepOf.{moved_value, moved-fault}
use Rattle.charts.proofs.TurnOf.{ready-next}
use Rattle.chart_steps.proofs.StepOfTurns.{onwards}

-- ---- the turns of a cycle

module _ (s : List ℕ) (sh : Shape) (is : IsShape s sh) where
  -- what is left of a cycle once the charts' turns are taken from a ready run: time's
  abbrev pub CycleFrom : Run → Out (Answer × Run) → Type 0
  CycleFrom r (val y) =
      Ready sh.charts y.1 × (y.1.world.position ≡ sh.charts + 1)
      × (after (charts (read_charts s)) (sh.charts + 2 - r.world.position) r ≡ after (charts (read_charts s)) (sh.charts + 2 - y.1.world.position) y.1)
  CycleFrom r (fault w) = after (charts (read_charts s)) (sh.charts + 2 - r.world.position) r ≡ fault w

  cycle-from : (k chart : ℕ) (x : Answer × Run) → Ready sh.charts x.1 → x.1.world.position ≡ chart + 1 → chart + k ≡ sh.charts →
      CycleFrom x.1 (chart_turns (read_charts s) chart k x)
  unfolding chart_turns
  cycle-from zero chart x ready at end = (ready, omega arith, refl)
  cycle-from (suc k) chart x ready at end = go (λ y a b. cycle-from k (chart + 1) (onwards y) a b (omega arith)) (chart_step (read_charts s) chart x.1) refl
    where
      r : Run
      r = x.1

      in_parts : r.world.position ≤ sh.charts
      in_parts = omega arith

      stepping : stepped (charts (read_charts s)) r ≡ (chart_step (read_charts s) chart r >>= λ y. val (onwards y))
      stepping =
          at_part (charts (read_charts s)) sh.charts (length-initial s sh is) r in_parts
          ∙ ap (λ n. chart_step (read_charts s) n r >>= λ y. val (onwards y)) (let z : r.world.position - 1 ≡ chart = omega arith in z)

      Rest : Type 0
      Rest = (y : Answer × Run) → Ready sh.charts (onwards y).1 → (onwards y).1.world.position ≡ chart + 1 + 1 → CycleFrom (onwards y).1 (chart_turns (read_charts s) (chart + 1) k (onwards y))

      go : Rest → (o : Out (Answer × Run)) → chart_step (read_charts s) chart r ≡ o → CycleFrom r (o >>= λ y. chart_turns (read_charts s) (chart + 1) k (onwards y))
      go rest (fault w) e = cycle-stop (charts (read_charts s)) sh.charts (length-initial s sh is) r w in_parts (stepping ∙ ap (λ o. o >>= λ y. val (onwards y)) e)
      go rest (val y) e = on (chart_turns (read_charts s) (chart + 1) k (onwards y)) (rest y next.0 (omega (arith, next.1)))
        where
          taken : stepped (charts (read_charts s)) r ≡ val (onwards y)
          taken = stepping ∙ ap (λ o. o >>= λ y. val (onwards y)) e

          next : Ready sh.charts (moved y.1) × ((moved y.1).world.position ≡ r.world.position + 1)
          next = ready-next s sh is r (onwards y) ready in_parts taken

          more : after (charts (read_charts s)) (sh.charts + 2 - r.world.position) r ≡ after (charts (read_charts s)) (sh.charts + 2 - (moved y.1).world.position) (moved y.1)
          more = cycle-more (charts (read_charts s)) sh.charts (length-initial s sh is) r y.0 (moved y.1) in_parts next.1 taken

          on : (o : Out (Answer × Run)) → CycleFrom (moved y.1) o → CycleFrom r o
          on (fault w) f = more ∙ f
          on (val z) f = (f.0, f.1, more ∙ f.2)

  module _ (answer₀ : Answer) (r : Run) (ready : Ready sh.charts r) (code : ℕ) (answer : Answer) (states ages : List ℕ) (vars : List ℤ) (m : Moment)
      (turned : moved_by code answer states ages vars m ≡ chart_turns (read_charts s) (r.world.position - 1) (sh.charts - (r.world.position - 1)) (answer₀, r)) where
    turned-all : CycleFrom r (moved_by code answer states ages vars m)
    turned-all =
        subst (CycleFrom r) (sym turned)
        (cycle-from (sh.charts - (r.world.position - 1)) (r.world.position - 1) (answer₀, r) ready (omega (arith, ready.begun)) (omega (arith, ready.begun, ready.within)))

    pub cycle-stopped : 4_294_967_295 < code → after (charts (read_charts s)) (sh.charts + 2 - r.world.position) r ≡ fault (coded_fault code)
    cycle-stopped h = subst (CycleFrom r) (moved-fault code answer states ages vars m h) turned-all

    -- the charts' turns are taken, and time's is left
    pub cycle-passed : code ≤ 4_294_967_295 → CycleFrom r (val (answer, run_in states ages vars code m))
    cycle-passed h = subst (CycleFrom r) (moved_value code answer states ages vars m h) turned-all

    pub cycle-young : code ≤ 4_294_967_295 → (k : ℕ) → k < sh.charts → get_or ages k 0 < 4_294_967_295
    cycle-young h k l = let passed = (cycle-passed h).0 in omega (arith, passed.unfinished, passed.timers k l)

    -- time passes, unless a turn faulted
    module _ (d : Result (Unit {0}) Reason) (ages' : List ℕ) (told : (q : Run) → ran_to d q ≡ ended_by code q) (grown : code ≤ 4_294_967_295 → ages' ≡ map_from 0 (aged sh.charts) ages) where
      pub cycle-closed : ran_to d (run_in states ages' vars 0 (moment 1 (m.cycles + 1))) ≡ after (charts (read_charts s)) (sh.charts + 2 - r.world.position) r
      cycle-closed = told (run_in states ages' vars 0 (moment 1 (m.cycles + 1))) ∙ go (ltb 4_294_967_295 code) refl
        where
          go : (b : Bool) → ltb 4_294_967_295 code ≡ b → ended_by code (run_in states ages' vars 0 (moment 1 (m.cycles + 1))) ≡ after (charts (read_charts s)) (sh.charts + 2 - r.world.position) r
          go true e =
              let h : 4_294_967_295 < code = ltb-true 4_294_967_295 code e in
              ap (λ o. o >>= λ events. val (run_in states ages' vars 0 (moment 1 (m.cycles + 1)))) (coded-fault code h) ∙ sym (cycle-stopped h)
          go false e =
              let h : code ≤ 4_294_967_295 = ltb-false 4_294_967_295 code e in
              let is = length-initial s sh is in
              let passed = cycle-passed h in
              ap (λ o. o >>= λ events. val (run_in states ages' vars 0 (moment 1 (m.cycles + 1)))) (coded-value code h)
              ∙ ap (λ t. val (run_in states t vars 0 (moment 1 (m.cycles + 1)))) (grown h ∙ ap (λ n. map_from 0 (aged n) ages) (sym is))
              ∙ sym (passed.2 ∙ cycle-end (charts (read_charts s)) sh.charts is (run_in states ages vars code m) passed.1)
