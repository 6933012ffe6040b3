-- The rest of refusal 11, of one clock, edge, automaton, literal or update by its number. Assumes nothing: these are definitions.
use Rattle.std.specs.Prelude.{Bool, not, ◌&&◌, ◌||◌, List, ℕ, eqb}
use Rattle.model.specs.Limits.{most_ticks}
use Rattle.model.specs.Owned.{home}
use Rattle.model.specs.AutomataTable.{read_automata}
use Rattle.model.specs.ChartFile.{between, guard_nodes, assigned_nodes}
use Rattle.automata_records.specs.declared.Shape.{Shape}
use Rattle.automata_records.specs.Places.{initial_at, edge_at, literal_at, clock_at, update_at}

module _ (s : List ℕ) (sh : Shape) where
  abbrev pub clock_ticks : ℕ → Bool
  clock_ticks k = between 1 most_ticks (clock_at s sh k).ticks

  -- both ends of an edge, and the initial location, are in the automaton
  abbrev pub edge_inside : ℕ → Bool
  edge_inside e =
      eqb (home (read_automata s).homes (edge_at s sh e).source) (edge_at s sh e).automaton
      && eqb (home (read_automata s).homes (edge_at s sh e).target) (edge_at s sh e).automaton

  abbrev pub initial_inside : ℕ → Bool
  initial_inside a = eqb (home (read_automata s).homes (initial_at s sh a)) a

  abbrev pub idle_stays : ℕ → Bool
  idle_stays e = not (edge_at s sh e).idles || eqb (edge_at s sh e).source (edge_at s sh e).target

  -- the node that literal l has as its guard, that update u has as its guard, and that it assigns, if there is one
  abbrev pub guard_at : ℕ → List ℕ
  guard_at l = guard_nodes (literal_at s sh l).1.guard

  abbrev pub condition_at : ℕ → List ℕ
  condition_at u = guard_nodes (update_at s sh u).1.guard

  abbrev pub assigned_at : ℕ → List ℕ
  assigned_at u = assigned_nodes (update_at s sh u).1.deed
