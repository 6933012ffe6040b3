use Prim.Native.Nat.{◌+◌, ◌-◌}
use Rattle.prelude.specs.Owned.{of}
use Rattle.model.specs.Runs.{actions}
use Rattle.model.specs.AutomataTable.{read_automata}
use Rattle.automata_records.specs.Places.{first_update, first_reset, update_in}
use Rattle.machines.specs.Worlds.{world_in}
use Rattle.automata_steps.specs.Index.{owned_by}
use Rattle.automata_steps.proofs.IndexWalk.{Walk, up_to, Ahead}
use Rattle.automata_steps.proofs.StepOf.{do_on}
use Rattle.automata_steps.proofs.steps.take_edge.Given as goal

abbrev pub invariant-loop-n : goal.invariant-loop-n
invariant-loop-n l = Walk (do_on (read_automata l.s).nodes (read_automata l.s).variables (λ m. (update_in l.s m).1)) (λ m. actions (read_automata l.s).nodes (read_automata l.s).variables (of l.e (read_automata l.s).updates) (world_in l.initial.vars l.events m)) l.s (first_update l.shape) (first_reset l.shape) l.e (world_in l.vars l.raised) (up_to (first_reset l.shape) l.n)
    × Ahead (owned_by l.s l.e) (first_reset l.shape) (first_reset l.shape + l.shape.resets) l.n

abbrev pub decreases-loop-n : goal.decreases-loop-n
decreases-loop-n l = 65536 - l.n
