use Prim.Native.Nat.{◌+◌, ◌-◌}
use Rattle.prelude.specs.Owned.{of}
use Rattle.model.specs.AutomataTable.{read_automata}
use Rattle.model.specs.Automata.{reset}
use Rattle.automata_records.specs.Places.{first_reset, reset_in}
use Rattle.automata_steps.proofs.IndexWalk.{Walk}
use Rattle.automata_steps.proofs.StepOf.{reset_on}
use Rattle.automata_steps.proofs.steps.reset_clocks.Given as goal

abbrev pub invariant-loop-n : goal.invariant-loop-n
invariant-loop-n l = Walk (reset_on (λ m. (reset_in l.s m).1)) (reset (of l.e (read_automata l.s).resets) l.initial.clocks) l.s (first_reset l.shape) (first_reset l.shape + l.shape.resets) l.e l.clocks l.n

abbrev pub decreases-loop-n : goal.decreases-loop-n
decreases-loop-n l = 65536 - l.n
