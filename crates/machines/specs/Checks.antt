-- Checks 12 to 14: what of them is the same for charts and automata, and what the code answers. Assumes nothing: these are definitions.
use Rattle.std.specs.Prelude.{Bool, ◌&&◌, List, ℕ, length, Result}
use Rattle.records.specs.declared.refusals.Refusal.{Refusal}
use Rattle.records.specs.RefusalOf.{refusal_of, out_of}
use Rattle.records.specs.Refusal.{Out}
use Rattle.model.specs.Runs.{Variable, World, places_possible, variables_possible, position_possible, count_possible, events_possible, rest_zero, rest_zero_values}

-- position, count and events
abbrev pub counts_possible : ℕ → World → Bool
counts_possible parts w = position_possible parts w && count_possible w && events_possible w

-- all of 12 but the timers
abbrev pub shared_possible : ℕ → List ℕ → List Variable → List ℕ → World → Bool
shared_possible parts homes variables at w =
    places_possible parts homes at
    && variables_possible variables w.vars
    && counts_possible parts w
    && rest_zero parts at
    && rest_zero_values (length variables) w.vars

abbrev pub before_of : Result (Unit {0}) Refusal → Out (Unit {0})
before_of r = out_of refusal_of r
