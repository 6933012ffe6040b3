use Rattle.alike.specs.Alike.{called, call_for}
use Rattle.automata.specs.RunOf as automata-run
use Rattle.chart_runs.specs.RunOf as charts-run
use mathlib.Core.Path.{sym, ap, ◌∙◌}
use Rattle.twins.proofs.both.call_both.Goals as goal

pub returns-then-turn : goal.returns-then-turn
returns-then-turn c =
    let a = c.args in
    c.turn_both.ensures
    ∙ ap (λ b. called a.s.now a.t.now a.table (call_for b a.events) (charts-run.run_of a.run) (automata-run.run_of a.twin)) (sym c.if-turn.true)

pub returns-else-turn : goal.returns-else-turn
returns-else-turn c =
    let a = c.args in
    c.cycle_both.ensures
    ∙ ap (λ b. called a.s.now a.t.now a.table (call_for b a.events) (charts-run.run_of a.run) (automata-run.run_of a.twin)) (sym c.if-turn.false)
