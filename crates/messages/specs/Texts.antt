-- The texts that programs print besides replay lines, as bytes. Assumes nothing: these are definitions.
use Rattle.std.specs.Prelude.{List, [], ◌∷◌, ◌++◌, ℕ}
use Rattle.model.specs.Replay.{decimal, space, feed}
use Rattle.lines.specs.Ascii.{ascii}
use Rattle.chart_records.specs.declared.Shape as sets
use Rattle.automata_records.specs.declared.Shape as tables

-- three numbers, each before its word
abbrev pub three_text : ℕ → List ℕ → ℕ → List ℕ → ℕ → List ℕ → List ℕ
three_text a u b v c w = (decimal a ++ u) ++ (decimal b ++ v) ++ (decimal c ++ w)

-- a row of a path led back: cycle, chart, transition
abbrev pub row_text : ℕ → ℕ → ℕ → List ℕ
row_text cycle chart transition = three_text cycle (space ∷ []) chart (space ∷ []) transition (feed ∷ [])

abbrev pub accepted_word : List ℕ
accepted_word = ascii "accepted: "

abbrev pub written_word : List ℕ
written_word = ascii "written: "

abbrev pub bytes_word : List ℕ
bytes_word = ascii " bytes, "

-- how many records a set has of each kind
abbrev pub set_text : sets.Shape → List ℕ
set_text sh =
    three_text sh.charts (ascii " charts, ") sh.states (ascii " states, ") sh.transitions (ascii " transitions, ")
    ++ three_text sh.variables (ascii " variables, ") sh.nodes (ascii " nodes, ") sh.actions (ascii " actions\n")

-- and a table
abbrev pub places_text : tables.Shape → List ℕ
places_text sh =
    three_text sh.automata (ascii " automata, ") sh.locations (ascii " locations, ") sh.edges (ascii " edges, ")
    ++ three_text sh.literals (ascii " literals, ") sh.clocks (ascii " clocks, ") sh.variables (ascii " variables, ")

abbrev pub table_text : tables.Shape → List ℕ
table_text sh = places_text sh ++ three_text sh.nodes (ascii " nodes, ") sh.updates (ascii " updates, ") sh.resets (ascii " resets\n")
