-- The tests of refusal 11 behind framing, all together. Assumes nothing: these are definitions.
use Rattle.std.specs.Prelude.{Bool, ◌&&◌, List, ℕ}
use Rattle.prelude.specs.Lists.{all}
use Rattle.records.specs.Bytes.{records}
use Rattle.model.specs.AutomataTable.{read_automata}
use Rattle.model.specs.ChartFile.{unused_are_zero}
use Rattle.model.specs.AutomataFile.{unused_in_table, table_in_code, table_named, clocks_tick, inside_automata, idle_edges_stay, table_nodes_fit}

abbrev pub passes : List ℕ → Bool
passes s =
    all (λ r. unused_are_zero (unused_in_table r) r) (records s)
    && all table_in_code (records s)
    && table_named (read_automata s)
    && clocks_tick (read_automata s)
    && inside_automata (read_automata s)
    && idle_edges_stay (read_automata s)
    && table_nodes_fit (read_automata s)
