use mathlib.Core.Path.{◌∙◌}
use mathlib.Core.Bool.{◌&&◌}
use Rattle.records.specs.Bytes.{records}
use Rattle.model.specs.ChartFile.{unused_are_zero}
use Rattle.model.specs.AutomataFile.{unused_in_table, table_in_code}
use Rattle.prelude.proofs.Numbers.{all_both}
use Rattle.automata_files.proofs.passes.Goals as goal

pub returns : goal.returns
returns c =
    let s = c.args.s.now in
    let sound = c.all_sound.ensures ∙ all_both (λ r. unused_are_zero (unused_in_table r) r) table_in_code (records s) in
    λ i.
    sound i
    && c.table_named.ensures i
    && c.clocks_tick.ensures i
    && c.inside_automata.ensures i
    && c.idle_edges_stay.ensures i
    && c.table_nodes_fit.ensures i
