use mathlib.Core.Path.{sym, ◌∙◌}
use Prim.Native.Nat.{◌≤◌}
use native.Mathlib.Omega.{arith}
use Rattle.chart_runs.specs.RunOf.{run_of}
use Rattle.charts.proofs.PlayedOf.{few-played}
use Rattle.monuvaleck.proofs.sets.charts_play.Goals as goal

pub count_code-requires : goal.count_code-requires
count_code-requires c = λ n e.
    let few : n ≤ 1_000_000 = few-played c.args.s.now c.args.masks.now (run_of c.args.run.now) n (sym c.play.ensures.0 ∙ e) in
    omega (arith, few)
