use mathlib.Core.Path.{◌≡◌, sym, ap, ◌∙◌, subst}
use Prim.Native.Nat.{◌+◌, ◌-◌}
use native.Mathlib.Omega.{arith}
use lib.ListN.{length, get_or, drop, length-drop}
use lib.Seq.{take_all}
use Rattle.std.specs.Prelude.{Ok}
use Rattle.records.specs.Refusal.{val}
use Rattle.model.specs.Outcome.{settled}
use Rattle.model.specs.Runs.{cycle}
use Rattle.model.specs.ChartSet.{read_charts}
use Rattle.model.specs.Charts.{charts}
use Rattle.model.proofs.ChecksKeptBySteps.{charts-cycle-possible}
use Rattle.answers.specs.Answers.{reason_of}
use Rattle.machines.specs.Playing.{played, stopped_at}
use Rattle.machines.proofs.Playing.{played_after-none, played_after-more, played_after-stop}
use Rattle.machines.specs.Worlds.{moment, run_in}
use Rattle.chart_runs.specs.RunOf.{run_of}
use Rattle.charts.specs.TurnOf.{Ready}
use Rattle.charts.proofs.TurnOf.{ready}
use Rattle.charts.proofs.PlayedOf.{was-possible, cycle-ends, cycle-fails, later-told}
use Rattle.charts.proofs.plays.play_from_first.Goals as goal
use Rattle.charts.proofs.plays.play_from_first.Goals.{After-run_between_cycles-after}

pub cycle_or_fault-requires : goal.cycle_or_fault-requires
cycle_or_fault-requires c =
    let x = c.args in
    let r = x.run in (
      c.requires.0,
      subst (λ e. Ready x.shape.charts (run_in r.states r.ages r.variables e (moment r.position r.cycles))) (sym c.events_given-events.ensures)
          (ready x.s.now x.shape c.requires.0.accepted.shape (get_or x.masks.now 0 0) (run_of r) c.requires.2),
    )

-- the first cycle is done
done : (c : After-run_between_cycles-after) → cycle (charts (read_charts c.args.s.now)) (get_or c.args.masks.now 0 0) (run_of c.args.run) ≡ val (tt, run_of c.run_between_cycles-after.result)
done c =
    let x = c.args in
    let r = x.run in
    let f = c.cycle_or_fault in
    cycle-ends x.s.now x.shape c.requires.0.accepted.shape (get_or x.masks.now 0 0) (run_of r) (run_in r.states r.ages r.variables c.events_given-events.result (moment r.position r.cycles)) (run_in f.new.states f.new.ages f.new.vars 0 (moment 1 (r.cycles + 1))) c.requires.2
    (ap (λ n. run_in r.states r.ages r.variables n (moment r.position r.cycles)) c.events_given-events.ensures) f.result f.ensures _ c.in-Ok.is
    ∙ ap (λ q. val (tt, q)) (sym c.run_between_cycles-after.ensures)

pub play_further-requires : goal.play_further-requires
play_further-requires c =
    let x = c.args in
    let after = run_of c.run_between_cycles-after.result in
    let w = done (goal.at.play_further-requires c).After-run_between_cycles-after in
    let l = charts-cycle-possible x.s.now c.requires.0.accepted.unrefused (get_or x.masks.now 0 0) (run_of x.run) after (was-possible (charts (read_charts x.s.now)) (run_of x.run) (get_or x.masks.now 0 0) after w) w in
    (c.requires.0, l.0, l.1)

pub returns-in-Err : goal.returns-in-Err
returns-in-Err c =
    let x = c.args in
    let r = x.run in
    let f = c.cycle_or_fault in
    let m = charts (read_charts x.s.now) in
    let failed = cycle-fails x.s.now x.shape c.requires.0.accepted.shape (get_or x.masks.now 0 0) (run_of r) (run_in r.states r.ages r.variables c.events_given-events.result (moment r.position r.cycles)) (run_in f.new.states f.new.ages f.new.vars 0 (moment 1 (r.cycles + 1))) c.requires.2
    (ap (λ n. run_in r.states r.ages r.variables n (moment r.position r.cycles)) c.events_given-events.ensures) f.result f.ensures c.in-Err.w c.in-Err.is in
    sym (ap (λ p. settled (run_of r) (stopped_at p.count p.run p.stop)) (played_after-stop m x.masks.now (run_of r) 0 (run_of r) (reason_of c.in-Err.w) c.requires.1 (played_after-none m x.masks.now (run_of r)) failed))

pub returns-in-Ok : goal.returns-in-Ok
returns-in-Ok c =
    let x = c.args in
    let m = charts (read_charts x.s.now) in
    let after = run_of c.run_between_cycles-after.result in
    let rest = take_all (length x.masks.now - 1) (drop 1 x.masks.now) (omega (arith, length-drop 1 x.masks.now)) in
    later-told m x.masks.now (run_of x.run) after (run_of x.run) (played_after-more m x.masks.now (run_of x.run) 0 (run_of x.run) after c.requires.1 (played_after-none m x.masks.now (run_of x.run)) (done (goal.at.returns-in-Ok c).After-run_between_cycles-after))
    c.play_further.result (c.play_further.ensures.0 ∙ ap (λ l. Ok (1 + (played m l after).count)) rest) (c.play_further.ensures.1 ∙ ap (λ l. (played m l after).run) rest)
