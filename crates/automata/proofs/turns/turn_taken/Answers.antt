use mathlib.Core.Path.{sym, ap, ◌∙◌}
use Prim.Native.Nat.{◌+◌}
use Rattle.records.specs.Refusal.{val}
use Rattle.model.specs.Runs.{time}
use Rattle.model.specs.AutomataTable.{read_automata}
use Rattle.model.specs.Automata.{automata}
use Rattle.automata_records.proofs.PlacesRead.{length-initial}
use Rattle.machines.specs.Worlds.{moment, run_in}
use Rattle.automata.proofs.RunOfClocks.{grown-are}
use Rattle.machines.proofs.Turns.{at-time}
use Rattle.automata.proofs.turns.turn_taken.Goals as goal

pub returns-else-position-shape : goal.returns-else-position-shape
returns-else-position-shape c =
    let x = c.args in
    let s = x.s.now in
    let is = c.requires.prepared.accepted.shape in
    let r = run_in x.locations.now x.clocks.now x.vars.now x.events.now (moment x.position.now x.cycles.now) in
    ap (λ l. val (time, run_in x.locations.now l x.vars.now 0 (moment 1 (x.cycles.now + 1)))) (c.pass_time.ensures ∙ sym (grown-are s x.shape is r))
    ∙ sym (at-time (automata (read_automata s)) x.shape.automata (length-initial s x.shape is) r c.if-position-shape.false)
