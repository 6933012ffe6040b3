use Rattle.alike.specs.Alike.{outs_alike, runs_alike}
use Rattle.twins.proofs.AlikeBoth.{unrefused}
use Rattle.automata.specs.RunOf as automata-run
use Rattle.chart_runs.specs.RunOf as charts-run
use Rattle.model.specs.Calls.{chart_sets, automata_tables}
use Rattle.model.specs.Automata.{automata}
use Rattle.model.specs.AutomataTable.{read_automata}
use Rattle.model.specs.Charts.{charts}
use Rattle.model.specs.ChartSet.{read_charts}
use Rattle.model.specs.Runs.{cycle}
use mathlib.Core.Bool.{true, ◌&&◌}
use mathlib.Core.Path.{◌∙◌}
use Rattle.twins.proofs.both.cycle_both.Goals as goal

pub returns : goal.returns
returns c =
    let a = c.args in
    let x = unrefused chart_sets a.s.now c.requires.0.unrefused (charts-run.run_of a.run) (cycle (charts (read_charts a.s.now)) a.events (charts-run.run_of a.run)) c.cycle_by_turns-done.ensures in
    let y = unrefused automata_tables a.t.now c.requires.1.unrefused (automata-run.run_of a.twin) (cycle (automata (read_automata a.t.now)) a.events (automata-run.run_of a.twin)) c.cycle_by_turns-other.ensures in
    λ i. record { alike = (c.endings_alike.ensures ∙ (λ j. outs_alike (λ _ _. true) (x j).answer (y j).answer)) i && (c.runs_alike.ensures ∙ (λ j. runs_alike a.t.now a.table (x j).lent (y j).lent)) i; run = (x i).lent; twin = (y i).lent }
