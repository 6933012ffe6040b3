use mathlib.Core.Path.{sym, ap, ◌∙◌}
use Rattle.records.specs.Refusal.{val, ◌>>=◌}
use Rattle.model.specs.Runs.{moved}
use Rattle.model.specs.AutomataTable.{read_automata}
use Rattle.model.specs.Automata.{automata}
use Rattle.automata_records.proofs.PlacesRead.{length-initial}
use Rattle.machines.specs.Worlds.{moment, run_in}
use Rattle.machines.proofs.Turns.{at_part}
use Rattle.automata.proofs.turns.automaton_turn.Goals as goal

pub returns-in-Err : goal.returns-in-Err
returns-in-Err c =
    λ k.
    let x = c.args in
    let p = x.position.now in
    let r = run_in x.locations.now x.clocks.now x.vars.now x.events.now (moment p k) in
    sym
    (at_part (automata (read_automata x.s.now)) x.shape.automata (length-initial x.s.now x.shape c.requires.prepared.accepted.shape) r c.requires.le_position.1
    ∙ ap (λ o. o >>= λ z. val (z.0, moved z.1)) (sym (c.in-Err.ensures.m_after (moment p k))))

pub returns-in-Ok : goal.returns-in-Ok
returns-in-Ok c =
    λ k.
    let x = c.args in
    let p = x.position.now in
    let r = run_in x.locations.now x.clocks.now x.vars.now x.events.now (moment p k) in
    sym
    (at_part (automata (read_automata x.s.now)) x.shape.automata (length-initial x.s.now x.shape c.requires.prepared.accepted.shape) r c.requires.le_position.1
    ∙ ap (λ o. o >>= λ z. val (z.0, moved z.1)) (sym (c.in-Ok.ensures.m_after (moment p k))))
