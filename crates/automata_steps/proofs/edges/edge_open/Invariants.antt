use Prim.Native.Nat.{◌-◌}
use Rattle.model.specs.AutomataTable.{read_automata}
use Rattle.model.specs.Automata.{literal_holds}
use Rattle.automata_records.specs.Places.{first_literal, first_clock, literal_in}
use Rattle.automata_steps.specs.StepOf.{bare_run, edge_open}
use Rattle.automata_steps.proofs.IndexWalk.{Walk}
use Rattle.automata_steps.proofs.StepOfOpen.{read_on}
use Rattle.automata_steps.proofs.edges.edge_open.Given as goal

abbrev pub invariant-loop-n : goal.invariant-loop-n
invariant-loop-n l = Walk (read_on (literal_holds (read_automata l.s) (bare_run l.clocks l.vars l.events)) (λ m. (literal_in l.s m).1)) (edge_open (read_automata l.s) (bare_run l.clocks l.vars l.events) l.e) l.s (first_literal l.shape) (first_clock l.shape) l.e tt l.n

abbrev pub decreases-loop-n : goal.decreases-loop-n
decreases-loop-n l = 65536 - l.n
