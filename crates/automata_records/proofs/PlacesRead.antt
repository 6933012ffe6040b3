-- What a framed automata file says, as reads of its bytes: each list of `read_automata` by its things' numbers. Assumes nothing.
use mathlib.Core.Path.{◌≡◌, sym, ap, ◌∙◌}
use mathlib.Core.List.{List, [], ◌∷◌, map}
use Prim.Native.Nat.{ℕ, ◌+◌, ◌*◌, ◌≤◌, ◌<◌}
use native.Mathlib.Nat.{zero-add}
use native.Mathlib.Omega.{arith}
use lib.Dec.{eqb}
use lib.ListN.{length, get_or, length-map}
use Rattle.model.specs.Limits.{most_edges, most_literals, most_clocks, most_updates, most_resets}
use Rattle.prelude.specs.Lists.{upto, case_of}
use Rattle.records.specs.Bytes.{byte, two, of_kind}
use Rattle.framing.specs.Framing.{how_many, first_of}
use Rattle.records.proofs.Records.{record_at, byte-record}
use Rattle.records.proofs.RoundTrips.{two-record}
use Rattle.prelude.proofs.Counts.{get_or-upto}
use Rattle.framing.proofs.Framed.{length-of_kind, first-and-many, framed-most}
use Rattle.expressions.specs.Nodes.{read_node, node_of, node_at}
use Rattle.model.specs.Owned.{home}
use Rattle.model.specs.ChartSet.{read_guard, action_by, read_variable}
use Rattle.model.specs.AutomataTable as M
use Rattle.model.specs.AutomataTable.{Literal, event, clock, always, after, every, read_edge, read_literal, read_clock, read_update, read_reset, read_automata, edge, no_edge, no_clock}
use Rattle.model.specs.AutomataFile.{automata_limits}
use Rattle.chart_records.proofs.Places.{none_below, next-first, things-read, node-part, node-lookup}
use Rattle.chart_records.proofs.PlacesRead.{variable-record}
use Rattle.automata_records.specs.declared.Shape.{Shape}
use Rattle.automata_records.specs.Shape.{IsShape}
use Rattle.automata_records.specs.Places.{first_location, first_edge, first_literal, first_clock, first_variable, first_node, first_update, first_reset, edge_in, literal_in, clock_in, update_in, reset_in, initial_at, home_at, edge_at, literal_at, clock_at, variable_at, update_at, reset_at, node_part}

-- ---- what record n says, read where it stands

module _ (s : List ℕ) (n : ℕ) where
  b : (k : ℕ) → k < 16 → byte (record_at s n) k ≡ byte s (16 * n + k)
  b = byte-record s n

  t : (k : ℕ) → k + 2 ≤ 16 → two (record_at s n) k ≡ two s (16 * n + k)
  t k = two-record s n k

  pub edge-record : read_edge (record_at s n) ≡ edge_in s n
  edge-record = λ i. record { automaton = b 1 (omega arith) i; source = t 2 (omega arith) i; target = t 4 (omega arith) i; idles = eqb (b 6 (omega arith) i) 1 }

  pub literal-record : read_literal (record_at s n) ≡ literal_in s n
  literal-record = λ i. (
    t 2 (omega arith) i,
    record {
      must = eqb (b 1 (omega arith) i) 1;
      trigger = case_of (b 4 (omega arith) i) ((1, event (b 5 (omega arith) i)) ∷ (2, clock (t 6 (omega arith) i)) ∷ []) always;
      guard = read_guard (t 8 (omega arith) i);
    },
  )

  pub clock-record : read_clock (record_at s n) ≡ clock_in s n
  clock-record = λ i. record { timing = case_of (b 1 (omega arith) i) ((2, after) ∷ []) every; ticks = t 2 (omega arith) i }

  pub update-record : read_update (record_at s n) ≡ update_in s n
  update-record = λ i. (t 2 (omega arith) i, action_by (t 8 (omega arith) i) (b 1 (omega arith) i) (b 4 (omega arith) i) (t 6 (omega arith) i))

  pub reset-record : read_reset (record_at s n) ≡ reset_in s n
  reset-record = λ i. (t 2 (omega arith) i, t 4 (omega arith) i)

module _ (s : List ℕ) (sh : Shape) (is : IsShape s sh) where
  -- ---- where each kind starts

  pub first-automaton : first_of 33 s ≡ 0
  first-automaton = none_below 33 automata_limits s is.framed

  pub first-location : first_of 34 s ≡ first_location sh
  first-location = omega (arith, first-automaton, next-first s 33)

  pub first_edge_lem : first_of 35 s ≡ first_edge sh
  first_edge_lem = omega (arith, first-location, next-first s 34)

  pub first-literal : first_of 36 s ≡ first_literal sh
  first-literal = omega (arith, first_edge_lem, next-first s 35)

  pub first-clock : first_of 37 s ≡ first_clock sh
  first-clock = omega (arith, first-literal, next-first s 36)

  pub first-variable : first_of 38 s ≡ first_variable sh
  first-variable = omega (arith, first-clock, next-first s 37)

  pub first-node : first_of 39 s ≡ first_node sh
  first-node = omega (arith, first-variable, next-first s 38)

  pub first-update : first_of 40 s ≡ first_update sh
  first-update = omega (arith, first-node, next-first s 39)

  pub first-reset : first_of 41 s ≡ first_reset sh
  first-reset = omega (arith, first-update, next-first s 40)

  -- ---- amounts

  pub at_most : (j : ℕ) → j < 9 → how_many (33 + j) s ≤ get_or automata_limits j 0
  at_most j h = framed-most 33 automata_limits s is.framed j (omega arith) h

  pub most-automata : sh.automata ≤ 8
  most-automata = omega (arith, at_most 0 (omega arith))

  pub most-locations : sh.locations ≤ 128
  most-locations = omega (arith, at_most 1 (omega arith))

  pub most-edges : sh.edges ≤ most_edges
  most-edges = omega (arith, at_most 2 (omega arith))

  pub most-literals : sh.literals ≤ most_literals
  most-literals = omega (arith, at_most 3 (omega arith))

  pub most-clocks : sh.clocks ≤ most_clocks
  most-clocks = omega (arith, at_most 4 (omega arith))

  pub most-variables : sh.variables ≤ 64
  most-variables = omega (arith, at_most 5 (omega arith))

  pub most-nodes : sh.nodes ≤ 1024
  most-nodes = omega (arith, at_most 6 (omega arith))

  pub most-updates : sh.updates ≤ most_updates
  most-updates = omega (arith, at_most 7 (omega arith))

  pub most-resets : sh.resets ≤ most_resets
  most-resets = omega (arith, at_most 8 (omega arith))

  -- all records are in the file
  pub inside : 16 * (first_reset sh + sh.resets) ≤ length s
  inside = omega (arith, first-reset, first-and-many 41 s)

  -- ---- lengths

  pub length-initial : length (read_automata s).initial ≡ sh.automata
  length-initial = length-map (of_kind 33 s) (λ r. two r 2) ∙ length-of_kind 33 s ∙ sym is.automata

  pub length-homes : length (read_automata s).homes ≡ sh.locations
  length-homes = length-map (of_kind 34 s) (λ r. byte r 1) ∙ length-of_kind 34 s ∙ sym is.locations

  pub length-edges : length (read_automata s).edges ≡ sh.edges
  length-edges = length-map (of_kind 35 s) read_edge ∙ length-of_kind 35 s ∙ sym is.edges

  pub length-literals : length (read_automata s).literals ≡ sh.literals
  length-literals = length-map (of_kind 36 s) read_literal ∙ length-of_kind 36 s ∙ sym is.literals

  pub length-clocks : length (read_automata s).clocks ≡ sh.clocks
  length-clocks = length-map (of_kind 37 s) read_clock ∙ length-of_kind 37 s ∙ sym is.clocks

  pub length-variables : length (read_automata s).variables ≡ sh.variables
  length-variables = length-map (of_kind 38 s) read_variable ∙ length-of_kind 38 s ∙ sym is.variables

  pub length-nodes : length (read_automata s).nodes ≡ sh.nodes
  length-nodes = length-map (of_kind 39 s) read_node ∙ length-of_kind 39 s ∙ sym is.nodes

  -- ---- whole lists, by the numbers of their things

  pub initial-are : (read_automata s).initial ≡ map (initial_at s sh) (upto sh.automata)
  initial-are =
      things-read 33 automata_limits s is.framed (λ r. two r 2) (initial_at s sh) 33 sh.automata 0 is.automata first-automaton
      (λ i l. two-record s (0 + i) 2 (omega arith) ∙ ap (λ n. two s (16 * n + 2)) (zero-add i))

  pub homes-are : (read_automata s).homes ≡ map (home_at s sh) (upto sh.locations)
  homes-are =
      things-read 33 automata_limits s is.framed (λ r. byte r 1) (home_at s sh) 34 sh.locations (first_location sh) is.locations first-location
      (λ i l. byte-record s (first_location sh + i) 1 (omega arith))

  pub edges_are : (read_automata s).edges ≡ map (edge_at s sh) (upto sh.edges)
  edges_are = things-read 33 automata_limits s is.framed read_edge (edge_at s sh) 35 sh.edges (first_edge sh) is.edges first_edge_lem (λ i l. edge-record s (first_edge sh + i))

  pub literals-are : (read_automata s).literals ≡ map (literal_at s sh) (upto sh.literals)
  literals-are = things-read 33 automata_limits s is.framed read_literal (literal_at s sh) 36 sh.literals (first_literal sh) is.literals first-literal (λ i l. literal-record s (first_literal sh + i))

  pub clocks-are : (read_automata s).clocks ≡ map (clock_at s sh) (upto sh.clocks)
  clocks-are = things-read 33 automata_limits s is.framed read_clock (clock_at s sh) 37 sh.clocks (first_clock sh) is.clocks first-clock (λ i l. clock-record s (first_clock sh + i))

  pub variables-are : (read_automata s).variables ≡ map (variable_at s sh) (upto sh.variables)
  variables-are = things-read 33 automata_limits s is.framed read_variable (variable_at s sh) 38 sh.variables (first_variable sh) is.variables first-variable (λ i l. variable-record s (first_variable sh + i))

  -- a node is that of the part of the file that has the nodes' records
  pub nodes-are : (read_automata s).nodes ≡ map (node_at (node_part s sh)) (upto sh.nodes)
  nodes-are =
      things-read 33 automata_limits s is.framed read_node (node_at (node_part s sh)) 39 sh.nodes (first_node sh) is.nodes first-node
      (node-part s (first_node sh) sh.nodes)

  pub updates-are : (read_automata s).updates ≡ map (update_at s sh) (upto sh.updates)
  updates-are = things-read 33 automata_limits s is.framed read_update (update_at s sh) 40 sh.updates (first_update sh) is.updates first-update (λ i l. update-record s (first_update sh + i))

  pub resets-are : (read_automata s).resets ≡ map (reset_at s sh) (upto sh.resets)
  resets-are = things-read 33 automata_limits s is.framed read_reset (reset_at s sh) 41 sh.resets (first_reset sh) is.resets first-reset (λ i l. reset-record s (first_reset sh + i))

  -- ---- thing i

  pub initial-is : (a : ℕ) → a < sh.automata → get_or (read_automata s).initial a 0 ≡ initial_at s sh a
  initial-is a h = ap (λ l. get_or l a 0) initial-are ∙ get_or-upto (initial_at s sh) 0 sh.automata a h

  pub home-is : (n : ℕ) → n < sh.locations → home (read_automata s).homes n ≡ home_at s sh n
  home-is n h = ap (λ l. get_or l n 0) homes-are ∙ get_or-upto (home_at s sh) 0 sh.locations n h

  pub edge-is : (e : ℕ) → e < sh.edges → edge (read_automata s) e ≡ edge_at s sh e
  edge-is e h = ap (λ l. get_or l e no_edge) edges_are ∙ get_or-upto (edge_at s sh) no_edge sh.edges e h

  pub literal-is : (d : ℕ × Literal) (l : ℕ) → l < sh.literals → get_or (read_automata s).literals l d ≡ literal_at s sh l
  literal-is d l h = ap (λ x. get_or x l d) literals-are ∙ get_or-upto (literal_at s sh) d sh.literals l h

  pub clock-is : (k : ℕ) → k < sh.clocks → M.clock_at (read_automata s) k ≡ clock_at s sh k
  clock-is k h = ap (λ l. get_or l k no_clock) clocks-are ∙ get_or-upto (clock_at s sh) no_clock sh.clocks k h

  -- also past the end, where both are unknown
  pub node-is : (n : ℕ) → node_of (read_automata s).nodes n ≡ node_at (node_part s sh) n
  node-is = node-lookup s (first_node sh) sh.nodes (read_automata s).nodes length-nodes nodes-are

  -- the same, as lookups
  pub lookup-is : node_of (read_automata s).nodes ≡ node_at (node_part s sh)
  lookup-is = λ j n. node-is n j
