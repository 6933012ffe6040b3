-- Where the things of a framed chart file stand, and what its bytes say of them: the records of a kind stand after those of the lower kinds. Assumes nothing: these are definitions.
use Rattle.std.specs.Prelude.{List, [], ◌∷◌, ℕ, ◌+◌, ◌*◌, take, drop}
use Rattle.prelude.specs.Lists.{case_of}
use Rattle.records.specs.Bytes.{byte, two, four, two±}
use Rattle.model.specs.Runs.{Variable, Action}
use Rattle.model.specs.ChartSet.{Trigger, always, event, after, every, Transition, read_guard, action_by}
use Rattle.chart_records.specs.declared.Shape.{Shape}

-- the number of a kind's first record
abbrev pub first_state : Shape → ℕ
first_state sh = sh.charts

abbrev pub first_transition : Shape → ℕ
first_transition sh = sh.charts + sh.states

abbrev pub first_variable : Shape → ℕ
first_variable sh = sh.charts + sh.states + sh.transitions

abbrev pub first_node : Shape → ℕ
first_node sh = sh.charts + sh.states + sh.transitions + sh.variables

abbrev pub first_action : Shape → ℕ
first_action sh = sh.charts + sh.states + sh.transitions + sh.variables + sh.nodes

-- the trigger of a code, an event and milliseconds
abbrev pub trigger_by : ℕ → ℕ → ℕ → Trigger
trigger_by code e ms = case_of code ((1, event e) ∷ (2, after ms) ∷ (3, every ms) ∷ []) always

-- what record n of a file says, as a thing of each kind
module _ (s : List ℕ) (n : ℕ) where
  abbrev pub trigger_in : Trigger
  trigger_in = trigger_by (byte s (16 * n + 6)) (byte s (16 * n + 7)) (four s (16 * n + 8))

  abbrev pub transition_in : Transition
  transition_in = record {
    priority = byte s (16 * n + 1);
    source = two s (16 * n + 2);
    target = two s (16 * n + 4);
    trigger = trigger_in;
    guard = read_guard (two s (16 * n + 12));
  }

  abbrev pub variable_in : Variable
  variable_in = record { lowest = two± s (16 * n + 2); highest = two± s (16 * n + 4); start = two± s (16 * n + 6) }

  -- an action's place, and its owner with it
  abbrev pub place_in : ℕ
  place_in = byte s (16 * n + 1)

  abbrev pub action_in : ℕ × Action
  action_in = (two s (16 * n + 2), action_by (two s (16 * n + 8)) (byte s (16 * n + 4)) (byte s (16 * n + 5)) (two s (16 * n + 6)))

  -- a waiting action's state and its milliseconds
  abbrev pub wait_in : ℕ × ℕ
  wait_in = (two s (16 * n + 2), four s (16 * n + 12))

-- thing i of each kind
module _ (s : List ℕ) (sh : Shape) (i : ℕ) where
  abbrev pub initial_at : ℕ
  initial_at = two s (16 * i + 2)

  abbrev pub home_at : ℕ
  home_at = byte s (16 * (first_state sh + i) + 1)

  abbrev pub transition_at : Transition
  transition_at = transition_in s (first_transition sh + i)

  abbrev pub variable_at : Variable
  variable_at = variable_in s (first_variable sh + i)

  abbrev pub place_at : ℕ
  place_at = place_in s (first_action sh + i)

  abbrev pub action_at : ℕ × Action
  action_at = action_in s (first_action sh + i)

  abbrev pub wait_at : ℕ × ℕ
  wait_at = wait_in s (first_action sh + i)

-- the records of the nodes, one after the other
abbrev pub node_part : List ℕ → Shape → List ℕ
node_part s sh = take (16 * sh.nodes) (drop (16 * first_node sh) s)
