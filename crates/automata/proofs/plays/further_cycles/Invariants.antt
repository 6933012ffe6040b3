use Prim.Native.Nat.{◌≤◌}
use Rattle.model.specs.AutomataTable.{read_automata}
use Rattle.model.specs.Automata.{automata}
use Rattle.machines.proofs.Playing.{PlayedAfter}
use Rattle.machines.specs.Worlds.{moment, run_in}
use Rattle.automata.specs.PlayedOf.{BetweenCycles}
use Rattle.automata.proofs.plays.further_cycles.Given as goal

abbrev pub invariant-loop-k : goal.invariant-loop-k
invariant-loop-k l = PlayedAfter (automata (read_automata l.s)) l.masks (run_in l.initial.locations l.initial.clocks l.initial.variables 0 (moment 1 l.initial.cycles)) l.k (run_in l.locations l.clocks l.variables 0 (moment 1 l.cycles))
    × BetweenCycles (automata (read_automata l.s)) (run_in l.locations l.clocks l.variables 0 (moment 1 l.cycles))
    × (l.k ≤ l.cycles)
