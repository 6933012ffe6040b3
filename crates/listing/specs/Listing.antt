-- A file's listing: a line for each record, by its kind and its number among those of its kind. Assumes nothing: these are definitions.
use Rattle.std.specs.Prelude.{◌≡◌, cond, List, [], ◌∷◌, ◌++◌, ℕ, ◌*◌, leb, eqb, take, drop}
use Rattle.prelude.specs.Lists.{count, case_of}
use Rattle.records.specs.Bytes.{byte, two, records, kind}
use Rattle.expressions.specs.Nodes.{Node, read_node, node_of, node_at}
use Rattle.model.specs.ChartSet.{read_transition, read_variable, read_charts}
use Rattle.model.specs.AutomataTable.{read_edge, read_literal, read_clock, read_update, read_reset, read_automata}
use Rattle.model.specs.Replay.{feed}
use Rattle.listing_parts.specs.Parts.{variable_text, node_text}
use Rattle.listing.specs.Sets.{chart_text, state_text, transition_text, action_text}
use Rattle.listing.specs.Tables.{automaton_text, location_text, edge_text, literal_text, clock_text, update_text, reset_text}
use Rattle.listing.specs.Guards.{guard_of, guarded_text, beside_text, alone_text, Short}

-- by its kind, record r that is the i-th of its kind
abbrev pub text_by : ℕ → ℕ → List ℕ → List ℕ
text_by k i r =
    case_of k
    ((1, chart_text i (two r 2))
    ∷ (2, state_text i (byte r 1))
    ∷ (3, transition_text i (read_transition r))
    ∷ (4, variable_text i (read_variable r))
    ∷ (5, node_text i (read_node r))
    ∷ (6, action_text i r)
    ∷ (33, automaton_text i (two r 2))
    ∷ (34, location_text i (byte r 1))
    ∷ (35, edge_text i (read_edge r))
    ∷ (36, literal_text i (read_literal r))
    ∷ (37, clock_text i (read_clock r))
    ∷ (38, variable_text i (read_variable r))
    ∷ (39, node_text i (read_node r))
    ∷ (40, update_text i (read_update r))
    ∷ [])
    (reset_text i (read_reset r))

abbrev pub record_text : ℕ → List ℕ → List ℕ
record_text i r = text_by (kind r) i r

-- in a file with these nodes: the whole line, and that of the record's guard alone, which is nothing where it has none
module _ (node : ℕ → Node) where
  abbrev pub line_text : ℕ → List ℕ → List ℕ
  line_text i r = record_text i r ++ beside_text node (guard_of r) ++ (feed ∷ [])

  abbrev pub guard_text : ℕ → List ℕ → List ℕ
  guard_text i r = alone_text node (guarded_text i r) (guard_of r)

-- the nodes of a file, which is a table where its first record is of a table's kind
abbrev pub nodes_of : List ℕ → ℕ → Node
nodes_of s = node_of (cond (leb 33 (byte s 0)) (read_automata s).nodes (read_charts s).nodes)

-- "Things of a kind are counted from 0 in file order": of kind k, those before record n
abbrev pub number_of : List ℕ → ℕ → ℕ → ℕ
number_of s k n = count (λ r. eqb (kind r) k) (take n (records s))

-- the line of record n of a file, and of its guard
module _ (s : List ℕ) (n : ℕ) where
  abbrev pub listed : List ℕ
  listed = line_text (nodes_of s) (number_of s (byte s (16 * n)) n) (take 16 (drop (16 * n) s))

  abbrev pub guard_listed : List ℕ
  guard_listed = guard_text (nodes_of s) (number_of s (byte s (16 * n)) n) (take 16 (drop (16 * n) s))

-- The bytes are the records of a file's nodes, of which no line is too long.
pub record HasNodes (s nodes : List ℕ) : Type 0 where
  pub same : node_at nodes ≡ nodes_of s
  pub short : Short (node_at nodes)
