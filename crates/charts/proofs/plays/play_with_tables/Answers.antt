use mathlib.Core.Path.{sym, ap, ◌∙◌}
use native.Mathlib.Omega.{arith}
use Rattle.std.proofs.lemmas.Bool.Decides.{nat_tests}
use lib.ListN.{get_or}
use Rattle.records.specs.RefusalOf.{refusal_of}
use Rattle.model.specs.Outcome.{settled}
use Rattle.model.specs.ChartSet.{read_charts}
use Rattle.model.specs.Charts.{charts}
use Rattle.machines.specs.Checks.{before_of}
use Rattle.machines.specs.Playing.{stopped_at}
use Rattle.machines.proofs.Turns.{cycle-refused}
use Rattle.machines.proofs.Playing.{played_after-none, played_after-stop, played_after-all}
use Rattle.chart_runs.specs.RunOf.{run_of}
use Rattle.charts.proofs.plays.play_with_tables.Goals as goal

pub returns-then-is_empty : goal.returns-then-is_empty
returns-then-is_empty c =
    sym (ap (λ p. settled (run_of c.args.run) (stopped_at p.count p.run p.stop)) (played_after-all (charts (read_charts c.args.s.now)) c.args.masks.now (run_of c.args.run) 0 (run_of c.args.run) (grind (arith, nat_tests, c.if-is_empty.ensures)) (played_after-none (charts (read_charts c.args.s.now)) c.args.masks.now (run_of c.args.run))))

pub returns-in-Err : goal.returns-in-Err
returns-in-Err c =
    let m = charts (read_charts c.args.s.now) in
    let failed = cycle-refused m (get_or c.args.masks.now 0 0) (run_of c.args.run) (refusal_of c.in-Err.w) (sym c.before_turn.ensures ∙ ap before_of c.in-Err.is) in
    sym (ap (λ p. settled (run_of c.args.run) (stopped_at p.count p.run p.stop)) (played_after-stop m c.args.masks.now (run_of c.args.run) 0 (run_of c.args.run) (refusal_of c.in-Err.w) (grind (arith, nat_tests, c.if-is_empty.ensures)) (played_after-none m c.args.masks.now (run_of c.args.run)) failed))
