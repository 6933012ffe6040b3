-- Refusal 6, read for an automata file, of one thing by its number. Assumes nothing: these are definitions.
use Rattle.std.specs.Prelude.{Bool, ◌&&◌, List, ℕ, ltb}
use Rattle.model.specs.ChartFile.{guard_named, action_named}
use Rattle.model.specs.AutomataFile.{literal_trigger_named}
use Rattle.automata_records.specs.declared.Shape.{Shape}
use Rattle.automata_records.specs.Places.{initial_at, home_at, edge_at, literal_at, update_at, reset_at}

module _ (s : List ℕ) (sh : Shape) where
  abbrev pub initial_named : ℕ → Bool
  initial_named a = ltb (initial_at s sh a) sh.locations

  abbrev pub home_named : ℕ → Bool
  home_named n = ltb (home_at s sh n) sh.automata

  abbrev pub edge_named : ℕ → Bool
  edge_named e =
      ltb (edge_at s sh e).automaton sh.automata && ltb (edge_at s sh e).source sh.locations && ltb (edge_at s sh e).target sh.locations

  abbrev pub literal_named : ℕ → Bool
  literal_named l =
      ltb (literal_at s sh l).0 sh.edges && literal_trigger_named sh.clocks (literal_at s sh l).1.trigger && guard_named sh.nodes (literal_at s sh l).1.guard

  abbrev pub update_named : ℕ → Bool
  update_named u = ltb (update_at s sh u).0 sh.edges && action_named sh.variables sh.nodes (update_at s sh u).1

  abbrev pub reset_named : ℕ → Bool
  reset_named r = ltb (reset_at s sh r).0 sh.edges && ltb (reset_at s sh r).1 sh.clocks
