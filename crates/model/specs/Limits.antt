-- Every limit of document 01, by name; nothing else says its number. Assumes nothing: these are definitions.
use Rattle.std.specs.Prelude.{ℕ, ◌+◌, ◌*◌}

-- ---- "Limits" of a chart set, kind by kind

abbrev pub most_charts : ℕ
most_charts = 8

abbrev pub most_states : ℕ
most_states = 128

abbrev pub most_transitions : ℕ
most_transitions = 256

abbrev pub most_variables : ℕ
most_variables = 64

abbrev pub most_nodes : ℕ
most_nodes = 1024

abbrev pub most_actions : ℕ
most_actions = 512

-- ---- of an automata table; automata, locations, variables and nodes are those of a set

abbrev pub most_edges : ℕ
most_edges = 512

abbrev pub most_literals : ℕ
most_literals = 2944

abbrev pub most_clocks : ℕ
most_clocks = 384

abbrev pub most_updates : ℕ
most_updates = 7168

abbrev pub most_resets : ℕ
most_resets = 4352

-- ---- of what a record holds

-- events are 0 to 31
abbrev pub last_event : ℕ
last_event = 31

-- priorities are 1 to 16
abbrev pub most_priorities : ℕ
most_priorities = 16

-- "at most 8 an owner"
abbrev pub most_owned : ℕ
most_owned = 8

-- milliseconds of a timing trigger, and its ticks
abbrev pub most_milliseconds : ℕ
most_milliseconds = 3_600_000

abbrev pub most_ticks : ℕ
most_ticks = 36_000

-- ---- of a run

abbrev pub most_cycles : ℕ
most_cycles = 1_000_000

-- ---- what follows from them: of an automata table, its records and its bytes

abbrev pub table_records : ℕ
table_records = most_charts + most_states + most_edges + most_literals + most_clocks + most_variables + most_nodes + most_updates + most_resets

abbrev pub longest_table : ℕ
longest_table = 16 * table_records
