use mathlib.Core.Path.{sym, ◌∙◌}
use mathlib.Core.Bool.{◌&&◌}
use Rattle.model.specs.Runs.{timers_possible, rest_zero}
use Rattle.model.specs.AutomataTable.{read_automata}
use Rattle.model.specs.Automata.{automata}
use Rattle.automata_records.proofs.PlacesRead.{most-automata, length-initial, length-clocks}
use Rattle.machines.specs.Checks.{shared_possible}
use Rattle.machines.proofs.ChecksClauses.{possible-is}
use Rattle.machines.specs.Worlds.{moment, run_in}
use Rattle.automata_steps.proofs.ValuesRead.{homes_in_lem, has-values, variables-in}
use Rattle.automata.proofs.RunOfClocks.{clocks-are}
use Rattle.automata.proofs.runs.is_possible.Goals as goal

pub returns : goal.returns
returns c =
    let x = c.args in
    let s = x.s.now in
    let sh = x.shape in
    let is = c.requires.0 in
    let r = run_in x.locations.now x.clocks.now x.vars.now x.events (moment x.position x.cycles) in
    let v = c.values_of-values in
    let n = sym (length-initial s sh is) in
    (λ i. c.shared_possible-shared.ensures i && (c.clocks_possible.ensures ∙ sym (clocks-are s sh is r)) i && c.clocks_unused.ensures i)
    ∙ (λ i. shared_possible (n i) (homes_in_lem s sh is i) (variables-in s sh is v.result v.ensures i) r.at r.world
    && timers_possible (automata (read_automata s)) r
    && rest_zero (sym (length-clocks s sh is) i) r.timers)
    ∙ sym (possible-is (automata (read_automata s)) r c.requires.1.0 c.requires.1.1 c.requires.1.2)

pub shared_possible-shared-requires-clause-parts_le_most_charts : goal.shared_possible-shared-requires-clause-parts_le_most_charts
shared_possible-shared-requires-clause-parts_le_most_charts c = most-automata c.args.s.now c.args.shape c.requires.0

pub shared_possible-shared-requires-clause-has_values : goal.shared_possible-shared-requires-clause-has_values
shared_possible-shared-requires-clause-has_values c = has-values c.args.s.now c.args.shape c.requires.0 c.values_of-values.result c.values_of-values.ensures
