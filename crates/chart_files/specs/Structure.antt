-- Refusal 7, one transition and one action at a time. Assumes nothing: these are definitions.
use Rattle.std.specs.Prelude.{Bool, true, false, not, cond, ◌&&◌, ◌||◌, List, ℕ, ◌+◌, ◌-◌, ◌*◌, eqb, get_or}
use Rattle.std.proofs.Math.Option.{Option, some, none}
use Rattle.model.specs.Owned.{home}
use Rattle.model.specs.ChartSet.{read_charts}
use Rattle.model.specs.ChartFile.{between, unconditional}
use Rattle.chart_records.specs.declared.Shape.{Shape}
use Rattle.chart_records.specs.Places.{initial_at, transition_at, place_at, action_at}

abbrev pub is_free : Option ℕ → Bool
is_free none = true
is_free (some n) = false

module _ (s : List ℕ) (sh : Shape) where
  abbrev pub inside_chart : ℕ → Bool
  inside_chart t = eqb (home (read_charts s).homes (transition_at s sh t).source) (home (read_charts s).homes (transition_at s sh t).target)

  -- where each state has a count of the charts whose initial one it is: the transition enters none of them, and leaves one, if it does, always
  abbrev pub transition_fits_initials : List ℕ → ℕ → Bool
  transition_fits_initials initial t =
      eqb (get_or initial (transition_at s sh t).target 0) 0
      && (eqb (get_or initial (transition_at s sh t).source 0) 0 || unconditional (transition_at s sh t).trigger (transition_at s sh t).guard)

  -- action i is not among those of an initial state's entry or exit
  abbrev pub action_fits_initials : List ℕ → ℕ → Bool
  action_fits_initials initial i = eqb (get_or initial (action_at s sh i).0 0) 0 || not (between 1 2 (place_at s sh i))

  -- where each state has a count of the transitions that leave it: the initial state of chart c is one of its own, and left once
  abbrev pub left_once : List ℕ → ℕ → Bool
  left_once left c = eqb (home (read_charts s).homes (initial_at s sh c)) c && eqb (get_or left (initial_at s sh c) 0) 1

  abbrev pub source_at : ℕ → ℕ
  source_at t = (transition_at s sh t).source

  -- the number of a transition's source with its priority: 16 for each state
  abbrev pub pair_at : ℕ → ℕ
  pair_at t = 16 * (transition_at s sh t).source + ((transition_at s sh t).priority - 1)

  -- the number of action i's owner: the states, and the transitions behind them
  abbrev pub owner_at : ℕ → ℕ
  owner_at i = cond (eqb (place_at s sh i) 3) (sh.states + (action_at s sh i).0) (action_at s sh i).0
