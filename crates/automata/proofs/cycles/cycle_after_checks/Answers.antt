use mathlib.Core.Path.{sym, ap, ◌∙◌, subst}
use Rattle.std.proofs.lemmas.Result.{err_from_is_err_and}
use Rattle.records.specs.RefusalOf.{refusal_of}
use Rattle.model.specs.AutomataTable.{read_automata}
use Rattle.model.specs.Automata.{automata}
use Rattle.automata_records.proofs.PlacesRead.{length-initial}
use Rattle.machines.specs.Turns.{finish}
use Rattle.machines.proofs.Turns.{cycle-refused, cycle-given}
use Rattle.machines.specs.Worlds.{moment, run_in}
use Rattle.automata.specs.TurnOf.{Ready}
use Rattle.automata.proofs.TurnOf.{ready}
use Rattle.automata.proofs.cycles.cycle_after_checks.Goals as goal

pub cycle_or_none-requires-clause-ready : goal.cycle_or_none-requires-clause-ready
cycle_or_none-requires-clause-ready c =
    let x = c.args in
    subst (λ e. Ready x.shape (run_in x.locations.now x.clocks.now x.vars.now e (moment x.position x.cycles))) (sym c.events_given-given.ensures)
    (ready x.s.now x.shape c.requires.prepared.accepted x.events (run_in x.locations.now x.clocks.now x.vars.now x.present (moment x.position x.cycles)) (sym c.in_ok-before_turn.ensures))

pub returns-in_err-before_turn : goal.returns-in_err-before_turn
returns-in_err-before_turn c =
    let x = c.args in
    let p = err_from_is_err_and c.from_residual.result c.from_residual.ensures.1 in
    rw (p.1, p.2)
    (sym
    (cycle-refused (automata (read_automata x.s.now)) x.events (run_in x.locations.now x.clocks.now x.vars.now x.present (moment x.position x.cycles)) (refusal_of c.in_err-before_turn.field-0.0)
    (sym c.in_err-before_turn.ensures)))

pub returns-in_err-cycle_or_none : goal.returns-in_err-cycle_or_none
returns-in_err-cycle_or_none c =
    let x = c.args in
    let g = c.events_given-given in
    let p = err_from_is_err_and c.from_residual-in_err-cycle_or_none.result c.from_residual-in_err-cycle_or_none.ensures.1 in
    rw (p.1, p.2)
    (sym
    (cycle-given (automata (read_automata x.s.now)) x.shape.automata (length-initial x.s.now x.shape c.requires.prepared.accepted.shape) x.events
    (run_in x.locations.now x.clocks.now x.vars.now x.present (moment x.position x.cycles))
    (run_in x.locations.now x.clocks.now x.vars.now g.result (moment x.position x.cycles)) (sym c.in_ok-before_turn.ensures)
    (ap (λ e. run_in x.locations.now x.clocks.now x.vars.now e (moment x.position x.cycles)) g.ensures)
    ∙ ap finish (sym c.in_err-cycle_or_none.ensures.cycles_after)))

pub returns : goal.returns
returns c =
    let x = c.args in
    let g = c.events_given-given in
    sym
    (cycle-given (automata (read_automata x.s.now)) x.shape.automata (length-initial x.s.now x.shape c.requires.prepared.accepted.shape) x.events
    (run_in x.locations.now x.clocks.now x.vars.now x.present (moment x.position x.cycles))
    (run_in x.locations.now x.clocks.now x.vars.now g.result (moment x.position x.cycles)) (sym c.in_ok-before_turn.ensures)
    (ap (λ e. run_in x.locations.now x.clocks.now x.vars.now e (moment x.position x.cycles)) g.ensures)
    ∙ ap finish (sym c.in_ok-cycle_or_none.ensures.cycles_after))
