use mathlib.Core.Path.{◌≡◌}
use Prim.Native.Nat.{◌+◌, ◌-◌}
use lib.ListN.{length}
use Rattle.model.specs.Runs.{parts}
use Rattle.model.specs.AutomataTable.{read_automata}
use Rattle.model.specs.Automata.{automata}
use Rattle.automata.specs.RunOf.{run_of}
use Rattle.replays.proofs.Lines.{Underway}
use Rattle.replays.proofs.twins.cycle_into.Given as goal

abbrev pub invariant-loop-locations : goal.invariant-loop-locations
invariant-loop-locations l = Underway (automata (read_automata l.s)) l.initial.out l.events (run_of l.run) l.out l.size l.given (run_of l.present) × (length l.out ≡ length l.initial.out)

abbrev pub decreases-loop-locations : goal.decreases-loop-locations
decreases-loop-locations l = parts (automata (read_automata l.s)) + 2 - l.present.position
