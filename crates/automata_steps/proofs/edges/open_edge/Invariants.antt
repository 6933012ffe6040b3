use Prim.Native.Nat.{◌-◌}
use Rattle.model.specs.AutomataTable.{read_automata}
use Rattle.automata_records.specs.Places.{first_edge, first_literal}
use Rattle.automata_steps.specs.StepOf.{bare_run, edge_open, the_open, TallyIn}
use Rattle.automata_steps.proofs.IndexWalk.{Walk}
use Rattle.automata_steps.proofs.IndexRecords.{own_edge}
use Rattle.automata_steps.proofs.StepOfOpen.{count_on}
use Rattle.automata_steps.proofs.edges.open_edge.Given as goal

abbrev pub invariant-loop-n : goal.invariant-loop-n
invariant-loop-n l = TallyIn l.shape.edges l.tally
    × Walk (count_on (edge_open (read_automata l.s) (bare_run l.clocks l.vars l.events)) (first_edge l.shape) (own_edge l.s l.automaton)) (the_open (read_automata l.s) (bare_run l.clocks l.vars l.events) l.automaton l.location) l.s (first_edge l.shape) (first_literal l.shape) l.location l.tally l.n

abbrev pub decreases-loop-n : goal.decreases-loop-n
decreases-loop-n l = 65536 - l.n
