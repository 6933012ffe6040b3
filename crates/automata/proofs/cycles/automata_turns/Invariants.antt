use mathlib.Core.Path.{◌≡◌}
use Prim.Native.Nat.{◌+◌, ◌-◌}
use lib.ListN.{length}
use Rattle.model.specs.AutomataTable.{read_automata}
use Rattle.model.specs.Automata.{automata}
use Rattle.machines.specs.Turns.{after}
use Rattle.machines.specs.Worlds.{moment, run_in}
use Rattle.automata.specs.TurnOf.{Ready}
use Rattle.automata.proofs.cycles.automata_turns.Given as goal

abbrev pub invariant-loop-automaton : goal.invariant-loop-automaton
invariant-loop-automaton l = Ready l.shape (run_in l.locations l.clocks l.vars l.present (moment (l.automaton + 1) l.cycles))
    × (after (automata (read_automata l.s)) (l.shape.automata + 2 - l.position) (run_in l.initial.locations l.initial.clocks l.initial.vars l.events (moment l.position l.cycles))
    ≡ after (automata (read_automata l.s)) (l.shape.automata + 2 - (l.automaton + 1)) (run_in l.locations l.clocks l.vars l.present (moment (l.automaton + 1) l.cycles)))
    × (length l.clocks ≡ length l.initial.clocks)
