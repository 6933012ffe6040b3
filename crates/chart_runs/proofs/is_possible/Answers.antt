use mathlib.Core.Path.{◌≡◌, sym, ◌∙◌}
use mathlib.Core.Bool.{◌&&◌}
use lib.Dec.{leb}
use lib.ListN.{length, get_or}
use Rattle.prelude.specs.Lists.{all, upto}
use Rattle.model.specs.ChartSet.{read_charts}
use Rattle.model.specs.Charts.{charts}
use Rattle.chart_records.proofs.PlacesRead.{most-charts, length-initial}
use Rattle.machines.specs.Checks.{shared_possible}
use Rattle.model.specs.Runs.{rest_zero}
use Rattle.machines.proofs.ChecksClauses.{possible-is}
use Rattle.chart_runs.specs.RunOf.{run_of}
use Rattle.chart_steps.proofs.ValuesRead.{has-values, homes_in_lem, variables-in}
use borrow.Author.Rules.{rules}
use Rattle.chart_runs.proofs.is_possible.Goals as goal

pub ages_possible-requires : goal.ages_possible-requires
ages_possible-requires c =
    most-charts c.args.s.now c.args.shape c.requires

pub returns : goal.returns
returns c =
    let lengths : (length c.args.run.states ≡ 8) × (length c.args.run.ages ≡ 8) × (length c.args.run.variables ≡ 64) = (search rules, search rules, search rules) in
    let r = c.args.run in
    let s = c.args.s.now in
    let sh = c.args.shape in
    let v = c.values_of-values in
    let n = sym (length-initial s sh c.requires) in
    (λ i. c.shared_possible-shared.ensures i && c.ages_possible.ensures i && c.unused.ensures i)
    ∙ (λ i. shared_possible (n i) (homes_in_lem s sh c.requires i) (variables-in s sh c.requires v.result v.ensures i) r.states (run_of r).world
    && all (λ k. leb (get_or r.ages k 0) r.cycles) (upto (n i))
    && rest_zero (n i) r.ages)
    ∙ sym (possible-is (charts (read_charts s)) (run_of r) lengths.0 lengths.1 lengths.2)

pub shared_possible-shared-requires-clause-parts_le_most_charts :
    goal.shared_possible-shared-requires-clause-parts_le_most_charts
shared_possible-shared-requires-clause-parts_le_most_charts c = most-charts c.args.s.now c.args.shape c.requires

pub shared_possible-shared-requires-clause-has_values : goal.shared_possible-shared-requires-clause-has_values
shared_possible-shared-requires-clause-has_values c =
    has-values c.args.s.now c.args.shape c.requires c.values_of-values.result c.values_of-values.ensures
