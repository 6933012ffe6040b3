-- The refusal of an automata file, 11. Assumes nothing: these are definitions.
use Rattle.std.proofs.Math.Option.{Option}
use Rattle.std.specs.Prelude.{Bool, true, not, ◌&&◌, ◌||◌, List, [], ◌∷◌, ◌++◌, map, ℕ, leb, ltb, eqb, length, get_or}
use Rattle.prelude.specs.Lists.{all, case_of, gather, upto}
use Rattle.records.specs.Refusal.{Refusal, bad_table, lowest}
use Rattle.records.specs.Bytes.{byte, records, kind}
use Rattle.framing.specs.Framing.{framing_tests, Framing}
use Rattle.expressions.specs.Nodes.{node_of}
use Rattle.expressions.specs.Sorts.{sort_of, is_number, is_truth, nodes_named, operands_fit, operand_uses, Sorts}
use Rattle.model.specs.Limits.{most_charts, most_states, most_variables, most_nodes, most_edges, most_literals, most_clocks, most_updates, most_resets, most_ticks}
use Rattle.model.specs.Owned.{home}
use Rattle.model.specs.AutomataTable.{LiteralTrigger, always, event, clock, Automata, read_automata, AutomataTable}
use Rattle.model.specs.ChartFile.{unused_are_zero, unused_variable, unused_node, between, is_event, variable_in_code, node_in_code, deed_in_code, guard_named, action_named, guard_nodes, assigned_nodes}

-- ---- "1 to 6 read for kinds 33 to 41"

-- the most of each kind, from 33 on
abbrev pub automata_limits : List ℕ
automata_limits = most_charts ∷ most_states ∷ most_edges ∷ most_literals ∷ most_clocks ∷ most_variables ∷ most_nodes ∷ most_updates ∷ most_resets ∷ []

-- 4
abbrev pub unused_literal : List ℕ → List (ℕ × ℕ)
unused_literal r = (10, 15) ∷ case_of (byte r 4) ((0, (5, 7) ∷ []) ∷ (1, (6, 7) ∷ []) ∷ (2, (5, 5) ∷ []) ∷ []) []

abbrev pub unused_update : List ℕ → List (ℕ × ℕ)
unused_update r = (5, 5) ∷ (10, 15) ∷ case_of (byte r 1) ((2, (6, 7) ∷ []) ∷ []) []

abbrev pub unused_in_table : List ℕ → List (ℕ × ℕ)
unused_in_table r =
    case_of (kind r)
    ((33, (1, 1) ∷ (4, 15) ∷ [])
    ∷ (34, (2, 15) ∷ [])
    ∷ (35, (7, 15) ∷ [])
    ∷ (36, unused_literal r)
    ∷ (37, (4, 15) ∷ [])
    ∷ (38, unused_variable)
    ∷ (39, unused_node r)
    ∷ (40, unused_update r)
    ∷ (41, (1, 1) ∷ (6, 15) ∷ [])
    ∷ [])
    []

-- 5
abbrev pub literal_in_code : List ℕ → Bool
literal_in_code r = between 1 2 (byte r 1) && leb (byte r 4) 2 && case_of (byte r 4) ((1, is_event (byte r 5)) ∷ []) true

abbrev pub table_in_code : List ℕ → Bool
table_in_code r =
    case_of (kind r)
    ((35, leb (byte r 6) 1)
    ∷ (36, literal_in_code r)
    ∷ (37, between 2 3 (byte r 1))
    ∷ (38, variable_in_code r)
    ∷ (39, node_in_code r)
    ∷ (40, deed_in_code (byte r 1) (byte r 4))
    ∷ [])
    true

-- 6
abbrev pub literal_trigger_named : ℕ → LiteralTrigger → Bool
literal_trigger_named clocks always = true
literal_trigger_named clocks (event e) = true
literal_trigger_named clocks (clock k) = ltb k clocks

abbrev pub table_named : Automata → Bool
table_named au =
    let locations = length au.homes in
    let automata = length au.initial in
    let edges = length au.edges in
    let clocks = length au.clocks in
    let variables = length au.variables in
    let nodes = length au.nodes in
    all (λ l. ltb l locations) au.initial
    && all (λ a. ltb a automata) au.homes
    && all (λ e. ltb e.automaton automata && ltb e.source locations && ltb e.target locations) au.edges
    && all (λ x. ltb x.0 edges && literal_trigger_named clocks x.1.trigger && guard_named nodes x.1.guard) au.literals
    && nodes_named (node_of au.nodes) nodes variables
    && all (λ x. ltb x.0 edges && action_named variables nodes x.1) au.updates
    && all (λ x. ltb x.0 edges && ltb x.1 clocks) au.resets

-- ---- the rest

module _ (au : Automata) where
  -- not "ticks outside 1 to 36,000"
  abbrev pub clocks_tick : Bool
  clocks_tick = all (λ c. between 1 most_ticks c.ticks) au.clocks

  -- not "ends or initial location in another automaton"
  abbrev pub inside_automata : Bool
  inside_automata =
      all (λ e. eqb (home au.homes e.source) e.automaton && eqb (home au.homes e.target) e.automaton) au.edges
      && all (λ a. eqb (home au.homes (get_or au.initial a 0)) a) (upto (length au.initial))

  -- not "an idle edge with two different ends"
  abbrev pub idle_edges_stay : Bool
  idle_edges_stay = all (λ e. not e.idles || eqb e.source e.target) au.edges

  -- not "node sorts or order; a node operand twice"; a literal's and an update's guard is a truth, an update's node a number
  abbrev pub table_nodes_fit : Bool
  table_nodes_fit =
      operands_fit (node_of au.nodes) (length au.nodes)
      && all (λ n. is_truth (sort_of (node_of au.nodes n))) (gather (λ x. guard_nodes x.1.guard) au.literals)
      && all (λ n. is_truth (sort_of (node_of au.nodes n))) (gather (λ x. guard_nodes x.1.guard) au.updates)
      && all (λ n. is_number (sort_of (node_of au.nodes n))) (gather (λ x. assigned_nodes x.1.deed) au.updates)
      && all (λ n. leb (operand_uses (node_of au.nodes) (length au.nodes) n) 1) (upto (length au.nodes))

-- which of them apply, in the paper's order; the number is 11 whichever it is
abbrev pub table_tests : List ℕ → List Bool
table_tests s =
    let au = read_automata s in
    map (λ x. x.1) (framing_tests 33 automata_limits s) ++ (
    not (all (λ r. unused_are_zero (unused_in_table r) r) (records s))
    ∷ not (all table_in_code (records s))
    ∷ not (table_named au)
    ∷ not (clocks_tick au)
    ∷ not (inside_automata au)
    ∷ not (idle_edges_stay au)
    ∷ not (table_nodes_fit au)
    ∷ [])

-- why an automata file is refused, if it is
abbrev pub automata_refusal : List ℕ → Option Refusal
automata_refusal s = lowest (map (λ applies. (bad_table, applies)) (table_tests s))

-- what a proof that computes with these opens
unfoldable pub AutomataFile : Type 0
unfolding AutomataTable Sorts Framing
AutomataFile = Unit
