use mathlib.Core.Path.{◌≡◌}
use Prim.Native.Nat.{◌+◌, ◌-◌}
use Rattle.model.specs.Runs as M
use Rattle.model.specs.AutomataTable.{read_automata}
use Rattle.model.specs.Automata.{automata}
use Rattle.automata.specs.RunOf.{run_of}
use Rattle.automata.proofs.cycles.turns_of_cycle.Given as goal

abbrev pub invariant-loop-present : goal.invariant-loop-present
invariant-loop-present l = M.cycle (automata (read_automata l.s)) l.events (run_of l.run) ≡ M.cycle (automata (read_automata l.s)) l.given (run_of l.present)

abbrev pub decreases-loop-present : goal.decreases-loop-present
decreases-loop-present l = M.parts (automata (read_automata l.s)) + 2 - l.present.position
