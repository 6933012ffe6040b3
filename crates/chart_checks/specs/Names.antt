-- Refusal 6 of one thing, by its number. Assumes nothing: these are definitions.
use Rattle.std.specs.Prelude.{Bool, not, ◌&&◌, ◌||◌, List, ℕ, ltb, eqb}
use Rattle.model.specs.ChartFile as F
use Rattle.model.specs.ChartFile.{guard_named}
use Rattle.chart_records.specs.declared.Shape.{Shape}
use Rattle.chart_records.specs.Places.{initial_at, home_at, transition_at, place_at, action_at}

module _ (s : List ℕ) (sh : Shape) where
  abbrev pub initial_named : ℕ → Bool
  initial_named c = ltb (initial_at s sh c) sh.states

  abbrev pub home_named : ℕ → Bool
  home_named n = ltb (home_at s sh n) sh.charts

  abbrev pub transition_named : ℕ → Bool
  transition_named t =
      ltb (transition_at s sh t).source sh.states && ltb (transition_at s sh t).target sh.states && guard_named sh.nodes (transition_at s sh t).guard

  -- of an action of a state, and of one of a transition; one of another place passes
  abbrev pub action_named : ℕ → Bool
  action_named i =
      (not (eqb (place_at s sh i) 1 || eqb (place_at s sh i) 2 || eqb (place_at s sh i) 4) || (ltb (action_at s sh i).0 sh.states && F.action_named sh.variables sh.nodes (action_at s sh i).1))
      && (not (eqb (place_at s sh i) 3) || (ltb (action_at s sh i).0 sh.transitions && F.action_named sh.variables sh.nodes (action_at s sh i).1))
