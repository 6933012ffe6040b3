-- Where the things of a framed automata file stand, and what its bytes say of them: the records of a kind stand after those of the lower kinds. Assumes nothing: these are definitions.
use Rattle.std.specs.Prelude.{List, [], ◌∷◌, ℕ, ◌+◌, ◌*◌, eqb, take, drop}
use Rattle.prelude.specs.Lists.{case_of}
use Rattle.records.specs.Bytes.{byte, two}
use Rattle.model.specs.Runs.{Variable, Action}
use Rattle.model.specs.ChartSet.{read_guard, action_by}
use Rattle.model.specs.AutomataTable.{LiteralTrigger, always, event, clock, Edge, Literal, Timing, after, every, Clock}
use Rattle.chart_records.specs.Places.{variable_in}
use Rattle.automata_records.specs.declared.Shape.{Shape}

-- the number of a kind's first record
abbrev pub first_location : Shape → ℕ
first_location sh = sh.automata

abbrev pub first_edge : Shape → ℕ
first_edge sh = sh.automata + sh.locations

abbrev pub first_literal : Shape → ℕ
first_literal sh = sh.automata + sh.locations + sh.edges

abbrev pub first_clock : Shape → ℕ
first_clock sh = sh.automata + sh.locations + sh.edges + sh.literals

abbrev pub first_variable : Shape → ℕ
first_variable sh = sh.automata + sh.locations + sh.edges + sh.literals + sh.clocks

abbrev pub first_node : Shape → ℕ
first_node sh = sh.automata + sh.locations + sh.edges + sh.literals + sh.clocks + sh.variables

abbrev pub first_update : Shape → ℕ
first_update sh = sh.automata + sh.locations + sh.edges + sh.literals + sh.clocks + sh.variables + sh.nodes

abbrev pub first_reset : Shape → ℕ
first_reset sh = sh.automata + sh.locations + sh.edges + sh.literals + sh.clocks + sh.variables + sh.nodes + sh.updates

-- the trigger of a code, an event and a clock
abbrev pub literal_trigger_by : ℕ → ℕ → ℕ → LiteralTrigger
literal_trigger_by code e k = case_of code ((1, event e) ∷ (2, clock k) ∷ []) always

abbrev pub timing_by : ℕ → Timing
timing_by code = case_of code ((2, after) ∷ []) every

-- what record n of a file says, as a thing of each kind
module _ (s : List ℕ) (n : ℕ) where
  abbrev pub edge_in : Edge
  edge_in = record { automaton = byte s (16 * n + 1); source = two s (16 * n + 2); target = two s (16 * n + 4); idles = eqb (byte s (16 * n + 6)) 1 }

  -- with its edge, as updates and resets are
  abbrev pub literal_in : ℕ × Literal
  literal_in = (
    two s (16 * n + 2),
    record {
      must = eqb (byte s (16 * n + 1)) 1;
      trigger = literal_trigger_by (byte s (16 * n + 4)) (byte s (16 * n + 5)) (two s (16 * n + 6));
      guard = read_guard (two s (16 * n + 8));
    },
  )

  abbrev pub clock_in : Clock
  clock_in = record { timing = timing_by (byte s (16 * n + 1)); ticks = two s (16 * n + 2) }

  abbrev pub update_in : ℕ × Action
  update_in = (two s (16 * n + 2), action_by (two s (16 * n + 8)) (byte s (16 * n + 1)) (byte s (16 * n + 4)) (two s (16 * n + 6)))

  abbrev pub reset_in : ℕ × ℕ
  reset_in = (two s (16 * n + 2), two s (16 * n + 4))

-- thing i of each kind
module _ (s : List ℕ) (sh : Shape) (i : ℕ) where
  abbrev pub initial_at : ℕ
  initial_at = two s (16 * i + 2)

  abbrev pub home_at : ℕ
  home_at = byte s (16 * (first_location sh + i) + 1)

  abbrev pub edge_at : Edge
  edge_at = edge_in s (first_edge sh + i)

  abbrev pub literal_at : ℕ × Literal
  literal_at = literal_in s (first_literal sh + i)

  abbrev pub clock_at : Clock
  clock_at = clock_in s (first_clock sh + i)

  abbrev pub variable_at : Variable
  variable_at = variable_in s (first_variable sh + i)

  abbrev pub update_at : ℕ × Action
  update_at = update_in s (first_update sh + i)

  abbrev pub reset_at : ℕ × ℕ
  reset_at = reset_in s (first_reset sh + i)

-- the records of the nodes, one after the other
abbrev pub node_part : List ℕ → Shape → List ℕ
node_part s sh = take (16 * sh.nodes) (drop (16 * first_node sh) s)
