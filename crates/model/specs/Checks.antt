-- Before a turn: 12, 13 and 14. Each clause of 12 is named by what holds where the run passes. Assumes nothing: these are definitions.
use Rattle.std.specs.Prelude.{Bool, not, cond, ◌&&◌, ◌||◌, List, ℕ, ◌+◌, ◌-◌, leb, ltb, eqb, length, get_or, drop, ℤ, pos}
use Rattle.prelude.specs.Lists.{all, upto}
use Rattle.records.specs.Refusal.{impossible_run, misplaced_events, cycles_done, Out, ◌>>◌, fault_if}
use Rattle.arithmetic.specs.Arithmetic.{is_zero}
use Rattle.model.specs.Limits.{most_charts, most_variables, most_cycles}
use Rattle.model.specs.Owned.{home}
use Rattle.model.specs.World.{Variable, World, Run, no_variable, in_bounds}
use Rattle.model.specs.Machine.{Machine, parts}

-- ---- 12, clause by clause

-- A lent run has fixed places: one for each chart that a set may have, one for each age or clock, one for each variable.
abbrev pub all_places : Machine → Run → Bool
all_places m r = eqb (length r.at) most_charts && eqb (length r.timers) m.timers_room && eqb (length r.world.vars) most_variables

-- not "a location not of its chart", of so many charts, by the chart of each state
abbrev pub places_possible : ℕ → List ℕ → List ℕ → Bool
places_possible parts homes at = all (λ c. ltb (get_or at c 0) (length homes) && eqb (home homes (get_or at c 0)) c) (upto parts)

-- not "a variable out of range"
abbrev pub variables_possible : List Variable → List ℤ → Bool
variables_possible variables vars = all (λ v. in_bounds (get_or variables v no_variable) (get_or vars v (pos 0))) (upto (length variables))

-- not "age over cycle count, clock over its top"
abbrev pub timers_possible : Machine → Run → Bool
timers_possible m r = all (λ k. m.timer_possible r.world.cycles k (get_or r.timers k 0)) (upto m.timers_used)

-- not "position 0 or over n + 1"
abbrev pub position_possible : ℕ → World → Bool
position_possible parts w = leb 1 w.position && leb w.position (parts + 1)

-- not "count over 1,000,000 or, past position 1, over 999,999"
abbrev pub count_possible : World → Bool
count_possible w = leb w.cycles (cond (eqb w.position 1) most_cycles (most_cycles - 1))

-- not "events present at position 1"
abbrev pub events_possible : World → Bool
events_possible w = not (eqb w.position 1) || eqb w.events 0

-- not "unused places not zero": places behind those in use
abbrev pub rest_zero : ℕ → List ℕ → Bool
rest_zero used places = all (λ x. eqb x 0) (drop used places)

abbrev pub rest_zero_values : ℕ → List ℤ → Bool
rest_zero_values used vars = all is_zero (drop used vars)

abbrev pub unused_zero : Machine → Run → Bool
unused_zero m r = rest_zero (parts m) r.at && rest_zero m.timers_used r.timers && rest_zero_values (length m.variables) r.world.vars

-- ---- 12 to 14

-- not "state impossible for the table"
abbrev pub possible : Machine → Run → Bool
possible m r =
    all_places m r
    && places_possible (parts m) m.homes r.at
    && variables_possible m.variables r.world.vars
    && timers_possible m r
    && position_possible (parts m) r.world
    && count_possible r.world
    && events_possible r.world
    && unused_zero m r

-- 12 where the run is not possible; 13 "events given elsewhere than at position 1"; 14 "position 1 and 1,000,000 cycles done"
abbrev pub checked_by : Bool → (given position cycles : ℕ) → Out (Unit {0})
checked_by passes given position cycles = do
  fault_if (not passes) impossible_run
  fault_if (not (eqb position 1) && not (eqb given 0)) misplaced_events
  fault_if (eqb position 1 && eqb cycles most_cycles) cycles_done

abbrev pub checked : Machine → ℕ → Run → Out (Unit {0})
checked m given r = checked_by (possible m r) given r.world.position r.world.cycles
