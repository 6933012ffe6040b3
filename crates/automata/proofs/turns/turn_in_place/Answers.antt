use mathlib.Core.Path.{sym, subst}
use Rattle.machines.specs.Worlds.{moment, run_in}
use Rattle.automata.specs.TurnOf.{Ready}
use Rattle.automata.proofs.TurnOf.{ready}
use Rattle.automata.proofs.turns.turn_in_place.Goals as goal

pub turn_taken-requires-clause-ready : goal.turn_taken-requires-clause-ready
turn_taken-requires-clause-ready c =
    let x = c.args in
    subst (λ e. Ready x.shape (run_in x.locations.now x.clocks.now x.vars.now e (moment x.position.now x.cycles.now))) (sym c.events_given.ensures)
    (ready x.s.now x.shape c.requires.prepared.accepted x.events (run_in x.locations.now x.clocks.now x.vars.now x.present.now (moment x.position.now x.cycles.now)) (sym c.in-Ok.ensures))
