-- Runs of any machine, in four parts: what a run is and what deeds do to it (World), the machine and its start (Machine), what is checked before a turn (Checks), turns and cycles (Turns). Assumes nothing: these are
-- definitions.
unfoldable pub use Rattle.model.specs.World.{actions}
pub use Rattle.model.specs.World.{in_bounds, no_variable, present, raised, set_var, set_events, deed, guard_holds, action, Variable, World, Run, Deed, assign, raise, Action}
pub use Rattle.model.specs.Machine.{give, moved, parts, start, Answer, Machine, taken, idle, time}
pub use Rattle.model.specs.Checks.{all_places, places_possible, variables_possible, timers_possible, position_possible, count_possible, events_possible, rest_zero, rest_zero_values, unused_zero, possible, checked_by, checked}
unfoldable pub use Rattle.model.specs.Turns.{turns, ended}
pub use Rattle.model.specs.Turns.{time_passed, stepped, turn, input_events, onto, unless_stopped, turns_of, trace, cycle, Call, Trace, one_turn, whole_cycle, done, stopped, turned}
use Rattle.prelude.specs.Lists.{Lists}
use Rattle.expressions.specs.Values.{Values}

-- what a proof that computes with these opens
unfoldable pub Runs : Type 0
unfolding actions turns ended Lists Values
Runs = Unit
