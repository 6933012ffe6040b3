use Rattle.twins.proofs.ComparedCalls.{LeadsOn}
use Rattle.automata.specs.RunOf as automata-run
use Rattle.chart_runs.specs.RunOf as charts-run
use Rattle.model.specs.Calls.{chart_sets, automata_tables}
use Rattle.model.specs.Correspondence.{MoveAlike}
use Rattle.model.specs.Runs.{Call}
use mathlib.Core.List.{List}
use Rattle.twins.proofs.calls_compared.Given as goal

abbrev pub invariant-loop-k : goal.invariant-loop-k
invariant-loop-k l = ((calls : List Call) → MoveAlike l.s l.t calls (charts-run.run_of l.run) (automata-run.run_of l.twin))
    × LeadsOn chart_sets l.s l.kinds l.masks l.k (charts-run.run_of l.run) × LeadsOn automata_tables l.t l.kinds l.masks l.k (automata-run.run_of l.twin)
