use mathlib.Core.Path.{◌≡◌, sym, ap, ◌∙◌}
use Prim.Native.Nat.{◌+◌, ◌-◌}
use native.Mathlib.Omega.{arith}
use lib.ListN.{get_or}
use Rattle.records.specs.Refusal.{cycles_done, val}
use Rattle.model.specs.Runs.{cycle}
use Rattle.model.specs.ChartSet.{read_charts}
use Rattle.model.specs.Charts.{charts}
use Rattle.model.proofs.ChecksKeptBySteps.{charts-cycle-possible}
use Rattle.answers.specs.Answers.{reason_of}
use Rattle.machines.proofs.Turns.{cycle-refused}
use Rattle.machines.proofs.Playing.{played_after-more, played_after-stop, played_after-all}
use Rattle.machines.specs.Worlds.{moment, run_in}
use Rattle.charts.specs.EndedBy.{ran_to}
use Rattle.charts.specs.TurnOf.{finish}
use Rattle.charts.proofs.PlayedOf.{checked-last}
use Rattle.charts.proofs.plays.further_cycles.Goals as goal

pub returns-then-done-eq-MOST_CYCLES : goal.returns-then-done-eq-MOST_CYCLES
returns-then-done-eq-MOST_CYCLES c =
    let l = c.loop-mask in
    let h = l.invariant.1 in
    let refused = cycle-refused (charts (read_charts c.args.s.now)) (get_or c.args.masks.now l.mask-index 0) (run_in l.states l.ages l.vars 0 (moment 1 l.done)) cycles_done (checked-last (read_charts c.args.s.now) l.states l.ages l.vars l.done (get_or c.args.masks.now l.mask-index 0) l.invariant.2 c.if-done-eq-MOST_CYCLES.true) in
    let e = played_after-stop (charts (read_charts c.args.s.now)) c.args.masks.now (run_in c.args.states.now c.args.ages.now c.args.vars.now 0 (moment 1 c.args.cycles)) l.mask-index (run_in l.states l.ages l.vars 0 (moment 1 l.done)) cycles_done c.loop-mask-test.true l.invariant.0 refused in
    let n : l.mask-index ≡ l.done - c.args.cycles = omega (arith, h) in
    let m : l.done ≡ c.args.cycles + (l.done - c.args.cycles) = omega (arith, h) in
    (ap (λ p. p.count) e ∙ n, ap (λ p. p.run) e ∙ ap (λ n. run_in l.states l.ages l.vars 0 (moment 1 n)) m)

pub returns-in-Err : goal.returns-in-Err
returns-in-Err c =
    let l = c.loop-mask in
    let h = l.invariant.1 in
    let w = c.in-Err.field-0 in
    let failed = sym c.cycle_or_none.ensures.cycles_after ∙ ap (λ d. finish (ran_to d (run_in c.cycle_or_none.new.states c.cycle_or_none.new.ages c.cycle_or_none.new.vars 0 (moment 1 (l.done + 1))))) c.in-Err.is in
    let kept = c.cycle_or_none.ensures.states_unchanged w c.in-Err.is in
    let e = played_after-stop (charts (read_charts c.args.s.now)) c.args.masks.now (run_in c.args.states.now c.args.ages.now c.args.vars.now 0 (moment 1 c.args.cycles)) l.mask-index (run_in l.states l.ages l.vars 0 (moment 1 l.done)) (reason_of w) c.loop-mask-test.true l.invariant.0 failed in
    let n : l.mask-index ≡ l.done - c.args.cycles = omega (arith, h) in
    let m : l.done ≡ c.args.cycles + (l.done - c.args.cycles) = omega (arith, h) in
    (ap (λ p. p.count) e ∙ n, ap (λ p. p.run) e ∙ (λ i. run_in (sym kept.0 i) (sym kept.1 i) (sym kept.2 i) 0 (moment 1 (m i))))

pub loop-mask-preserved : goal.loop-mask-preserved
loop-mask-preserved c =
    let went : let l = c.loop-mask in cycle (charts (read_charts c.args.s.now)) (get_or c.args.masks.now l.mask-index 0) (run_in l.states l.ages l.vars 0 (moment 1 l.done)) ≡ val (tt, (run_in c.cycle_or_none.new.states c.cycle_or_none.new.ages c.cycle_or_none.new.vars 0 (moment 1 (l.done + 1)))) = let l = c.loop-mask in
    sym c.cycle_or_none.ensures.cycles_after ∙ ap (λ d. finish (ran_to d (run_in c.cycle_or_none.new.states c.cycle_or_none.new.ages c.cycle_or_none.new.vars 0 (moment 1 (l.done + 1))))) c.in-Ok.is in
    let l = c.loop-mask in
    let h = l.invariant.1 in (
      played_after-more (charts (read_charts c.args.s.now)) c.args.masks.now (run_in c.args.states.now c.args.ages.now c.args.vars.now 0 (moment 1 c.args.cycles)) l.mask-index (run_in l.states l.ages l.vars 0 (moment 1 l.done)) (run_in c.cycle_or_none.new.states c.cycle_or_none.new.ages c.cycle_or_none.new.vars 0 (moment 1 (l.done + 1))) c.loop-mask-test.true l.invariant.0 went,
      omega (arith, h),
      (charts-cycle-possible c.args.s.now c.requires.0.accepted.unrefused (get_or c.args.masks.now l.mask-index 0) (run_in l.states l.ages l.vars 0 (moment 1 l.done)) (run_in c.cycle_or_none.new.states c.cycle_or_none.new.ages c.cycle_or_none.new.vars 0 (moment 1 (l.done + 1))) l.invariant.2 went).0,
    )

pub returns : goal.returns
returns c =
    let l = c.loop-mask in
    let h = l.invariant.1 in
    let e = played_after-all (charts (read_charts c.args.s.now)) c.args.masks.now (run_in c.args.states.now c.args.ages.now c.args.vars.now 0 (moment 1 c.args.cycles)) l.mask-index (run_in l.states l.ages l.vars 0 (moment 1 l.done)) c.loop-mask-test.false l.invariant.0 in
    let n : l.mask-index ≡ l.done - c.args.cycles = omega (arith, h) in
    let m : l.done ≡ c.args.cycles + (l.done - c.args.cycles) = omega (arith, h) in
    (ap (λ p. p.count) e ∙ n, ap (λ p. p.run) e ∙ ap (λ n. run_in l.states l.ages l.vars 0 (moment 1 n)) m)
