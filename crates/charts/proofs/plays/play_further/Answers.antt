use mathlib.Core.Path.{◌≡◌, sym, ap, ◌∙◌}
use Prim.Native.Nat.{◌+◌, ◌≤◌}
use native.Mathlib.Omega.{arith}
use Rattle.model.specs.ChartSet.{read_charts}
use Rattle.model.specs.Charts.{charts}
use Rattle.machines.specs.Playing.{played}
use Rattle.machines.proofs.Playing.{most-played}
use Rattle.std.specs.Prelude.{Ok}
use Rattle.machines.specs.Worlds.{moment, run_in}
use Rattle.chart_runs.specs.RunOf.{run_of}
use Rattle.charts.proofs.PlayedOf.{count_kept, few-cycles, no-events}
use Rattle.charts.proofs.plays.play_further.Goals as goal

pub overflow_add-result : goal.overflow_add-result
overflow_add-result c =
    let few : c.args.run.cycles + c.further_cycles-count.result ≤ 1_000_000 = omega (arith, c.further_cycles-count.ensures.0, most-played (charts (read_charts c.args.s.now)) (count_kept (read_charts c.args.s.now)) c.args.masks.now (run_in c.args.run.states c.args.run.ages c.args.run.variables 0 (moment 1 c.args.run.cycles)), few-cycles (charts (read_charts c.args.s.now)) (run_of c.args.run) c.requires.1) in
    omega (arith, few)

pub overflow_add-cycles : goal.overflow_add-cycles
overflow_add-cycles c =
    let few : c.args.run.cycles + c.further_cycles-count.result ≤ 1_000_000 = omega (arith, c.further_cycles-count.ensures.0, most-played (charts (read_charts c.args.s.now)) (count_kept (read_charts c.args.s.now)) c.args.masks.now (run_in c.args.run.states c.args.run.ages c.args.run.variables 0 (moment 1 c.args.run.cycles)), few-cycles (charts (read_charts c.args.s.now)) (run_of c.args.run) c.requires.1) in
    omega (arith, few)

pub returns : goal.returns
returns c =
    let r = c.args.run in
    let rests : run_of r ≡ run_in r.states r.ages r.variables 0 (moment 1 r.cycles) = λ i. run_in r.states r.ages r.variables (no-events (charts (read_charts c.args.s.now)) (run_of r) c.requires.1 c.requires.2 i) (moment (c.requires.2 i) r.cycles) in (
      ap (λ n. Ok (1 + n)) (sym (ap (λ q. (played (charts (read_charts c.args.s.now)) c.args.masks.now q).count) rests ∙ c.further_cycles-count.ensures.0)),
      c.run_between_cycles.ensures ∙ sym (ap (λ q. (played (charts (read_charts c.args.s.now)) c.args.masks.now q).run) rests ∙ c.further_cycles-count.ensures.1),
    )
