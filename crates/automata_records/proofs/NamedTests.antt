-- What a framed file names, and the ticks of its clocks: the tests by the numbers of its things. Assumes nothing.
use mathlib.Core.Path.{◌≡◌, ap, ◌∙◌}
use mathlib.Core.Bool.{◌&&◌}
use mathlib.Core.List.{List}
use Prim.Native.Nat.{ℕ}
use lib.Dec.{ltb}
use lib.ListN.{length}
use Rattle.model.specs.Limits.{most_ticks}
use Rattle.prelude.specs.Lists.{all, upto}
use Rattle.expressions.specs.Nodes.{node_of, node_at}
use Rattle.expressions.specs.Sorts.{nodes_named}
use Rattle.model.specs.AutomataTable.{read_automata}
use Rattle.model.specs.ChartFile.{between, guard_named, action_named}
use Rattle.model.specs.AutomataFile.{literal_trigger_named, table_named, clocks_tick}
use Rattle.prelude.proofs.Maps.{all_map}
use Rattle.automata_records.specs.declared.Shape.{Shape}
use Rattle.automata_records.specs.Shape.{IsShape}
use Rattle.automata_records.specs.Places.{initial_at, home_at, edge_at, literal_at, clock_at, update_at, reset_at, node_part}
use Rattle.automata_records.specs.Names.{initial_named, home_named, edge_named, literal_named, update_named, reset_named}
use Rattle.automata_records.specs.Structure.{clock_ticks}
use Rattle.automata_records.proofs.PlacesRead.{length-initial, length-homes, length-edges, length-clocks, length-variables, length-nodes, initial-are, homes-are, edges_are, literals-are, clocks-are, updates-are, resets-are, lookup-is}

module _ (s : List ℕ) (sh : Shape) (is : IsShape s sh) where
  -- ---- names

  initials : all (λ l. ltb l (length (read_automata s).homes)) (read_automata s).initial ≡ all (initial_named s sh) (upto sh.automata)
  initials =
      (λ j. all (λ l. ltb l (length-homes s sh is j)) (initial-are s sh is j))
      ∙ all_map (initial_at s sh) (λ l. ltb l sh.locations) (upto sh.automata)

  homes : all (λ a. ltb a (length (read_automata s).initial)) (read_automata s).homes ≡ all (home_named s sh) (upto sh.locations)
  homes =
      (λ j. all (λ a. ltb a (length-initial s sh is j)) (homes-are s sh is j))
      ∙ all_map (home_at s sh) (λ a. ltb a sh.automata) (upto sh.locations)

  edges :
      all (λ e. ltb e.automaton (length (read_automata s).initial) && ltb e.source (length (read_automata s).homes) && ltb e.target (length (read_automata s).homes)) (read_automata s).edges
      ≡ all (edge_named s sh) (upto sh.edges)
  edges =
      (λ j. all (λ e. ltb e.automaton (length-initial s sh is j) && ltb e.source (length-homes s sh is j) && ltb e.target (length-homes s sh is j)) (edges_are s sh is j))
      ∙ all_map (edge_at s sh) (λ e. ltb e.automaton sh.automata && ltb e.source sh.locations && ltb e.target sh.locations) (upto sh.edges)

  literals :
      all (λ x. ltb x.0 (length (read_automata s).edges) && literal_trigger_named (length (read_automata s).clocks) x.1.trigger && guard_named (length (read_automata s).nodes) x.1.guard) (read_automata s).literals
      ≡ all (literal_named s sh) (upto sh.literals)
  literals =
      (λ j. all (λ x. ltb x.0 (length-edges s sh is j) && literal_trigger_named (length-clocks s sh is j) x.1.trigger && guard_named (length-nodes s sh is j) x.1.guard) (literals-are s sh is j))
      ∙ all_map (literal_at s sh) (λ x. ltb x.0 sh.edges && literal_trigger_named sh.clocks x.1.trigger && guard_named sh.nodes x.1.guard) (upto sh.literals)

  nodes : nodes_named (node_of (read_automata s).nodes) (length (read_automata s).nodes) (length (read_automata s).variables) ≡ nodes_named (node_at (node_part s sh)) sh.nodes sh.variables
  nodes = λ j. nodes_named (lookup-is s sh is j) (length-nodes s sh is j) (length-variables s sh is j)

  updates :
      all (λ x. ltb x.0 (length (read_automata s).edges) && action_named (length (read_automata s).variables) (length (read_automata s).nodes) x.1) (read_automata s).updates
      ≡ all (update_named s sh) (upto sh.updates)
  updates =
      (λ j. all (λ x. ltb x.0 (length-edges s sh is j) && action_named (length-variables s sh is j) (length-nodes s sh is j) x.1) (updates-are s sh is j))
      ∙ all_map (update_at s sh) (λ x. ltb x.0 sh.edges && action_named sh.variables sh.nodes x.1) (upto sh.updates)

  resets :
      all (λ x. ltb x.0 (length (read_automata s).edges) && ltb x.1 (length (read_automata s).clocks)) (read_automata s).resets
      ≡ all (reset_named s sh) (upto sh.resets)
  resets =
      (λ j. all (λ x. ltb x.0 (length-edges s sh is j) && ltb x.1 (length-clocks s sh is j)) (resets-are s sh is j))
      ∙ all_map (reset_at s sh) (λ x. ltb x.0 sh.edges && ltb x.1 sh.clocks) (upto sh.resets)

  pub named-is :
      table_named (read_automata s)
      ≡ (all (initial_named s sh) (upto sh.automata)
      && all (home_named s sh) (upto sh.locations)
      && all (edge_named s sh) (upto sh.edges)
      && all (literal_named s sh) (upto sh.literals)
      && nodes_named (node_at (node_part s sh)) sh.nodes sh.variables
      && all (update_named s sh) (upto sh.updates)
      && all (reset_named s sh) (upto sh.resets))
  named-is = λ j. initials j && homes j && edges j && literals j && nodes j && updates j && resets j

  -- ---- clocks, and ends of edges

  pub clocks-is : clocks_tick (read_automata s) ≡ all (clock_ticks s sh) (upto sh.clocks)
  clocks-is = ap (all (λ c. between 1 most_ticks c.ticks)) (clocks-are s sh is) ∙ all_map (clock_at s sh) (λ c. between 1 most_ticks c.ticks) (upto sh.clocks)
