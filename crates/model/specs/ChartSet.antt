-- Chart sets, kinds 1 to 6: what a file says. Assumes nothing: these are definitions.
use Rattle.std.proofs.Math.Option.{Option, some, none}
use Rattle.std.specs.Prelude.{cond, List, [], ◌∷◌, map, ℕ, ◌-◌, eqb, get_or, take}
use Rattle.prelude.specs.Lists.{keep, case_of, Lists}
use Rattle.prelude.specs.Owned.{of}
use Rattle.records.specs.Bytes.{byte, two, four, two±, of_kind, Bytes}
use Rattle.expressions.specs.Nodes.{Node, read_node}
use Rattle.model.specs.Runs.{Variable, Deed, assign, raise, Action}

-- "6 trigger: 0 none, 1 event, 2 after, 3 every"; of the timing ones, milliseconds
pub data Trigger : Type 0 where
  always : Trigger
  event : ℕ → Trigger
  after : ℕ → Trigger
  every : ℕ → Trigger

pub record Transition : Type 0 where
  pub priority : ℕ
  pub source : ℕ
  pub target : ℕ
  pub trigger : Trigger
  pub guard : Option ℕ

pub record ChartSet : Type 0 where
  -- of each chart its initial state, of each state its chart
  pub initial : List ℕ
  pub homes : List ℕ
  pub transitions : List Transition
  pub variables : List Variable
  pub nodes : List Node
  -- actions in file order, each with its owner: a state, a state, a transition
  pub entries : List (ℕ × Action)
  pub exits : List (ℕ × Action)
  pub transition_actions : List (ℕ × Action)
  -- those done while a state idles, and of each its state and its milliseconds (request 4)
  pub waiting_actions : List (ℕ × Action)
  pub waiting_times : List (ℕ × ℕ)

-- "12-13 guard node, 65,535 for none"
abbrev pub read_guard : ℕ → Option ℕ
read_guard n = cond (eqb n 65535) none (some n)

-- "1 priority; 2-3 source; 4-5 target; 6 trigger; 7 event; 8-11 milliseconds; 12-13 guard node"
abbrev pub read_transition : List ℕ → Transition
read_transition r = record {
  priority = byte r 1;
  source = two r 2;
  target = two r 4;
  trigger = case_of (byte r 6) ((1, event (byte r 7)) ∷ (2, after (four r 8)) ∷ (3, every (four r 8)) ∷ []) always;
  guard = read_guard (two r 12);
}

-- "2-3 lowest, 4-5 highest, 6-7 start"
abbrev pub read_variable : List ℕ → Variable
read_variable r = record { lowest = two± r 2; highest = two± r 4; start = two± r 6 }

-- the deed's code, its variable or event, its node: "1 assign, 2 raise"
abbrev pub read_deed : ℕ → ℕ → ℕ → Deed
read_deed code x n = case_of code ((2, raise x) ∷ []) (assign x n)

-- "guard node plus one, zero for none" (request 4)
abbrev pub read_plus_one : ℕ → Option ℕ
read_plus_one n = cond (eqb n 0) none (some (n - 1))

-- an action or update by its guard plus one and its deed
abbrev pub action_by : ℕ → ℕ → ℕ → ℕ → Action
action_by guard code x n = record { guard = read_plus_one guard; deed = read_deed code x n }

-- "2-3 owner; 4 deed; 5 variable or event; 6-7 node", and 8-9 the guard (request 4)
abbrev pub read_action : List ℕ → ℕ × Action
read_action r = (two r 2, action_by (two r 8) (byte r 4) (byte r 5) (two r 6))

-- the actions of a place: "1 place: 1 entry, 2 exit, 3 transition", "place 4 is an action done while a state idles" (request 4)
abbrev pub of_place : ℕ → List ℕ → List (List ℕ)
of_place place s = keep (λ r. eqb (byte r 1) place) (of_kind 6 s)

abbrev pub read_actions : ℕ → List ℕ → List (ℕ × Action)
read_actions place s = map read_action (of_place place s)

abbrev pub read_charts : List ℕ → ChartSet
read_charts s = record {
  initial = map (λ r. two r 2) (of_kind 1 s);
  homes = map (λ r. byte r 1) (of_kind 2 s);
  transitions = map read_transition (of_kind 3 s);
  variables = map read_variable (of_kind 4 s);
  nodes = map read_node (of_kind 5 s);
  entries = read_actions 1 s;
  exits = read_actions 2 s;
  transition_actions = read_actions 3 s;
  waiting_actions = read_actions 4 s;
  waiting_times = map (λ r. (two r 2, four r 12)) (of_place 4 s);
}

abbrev pub no_transition : Transition
no_transition = record { priority = 0; source = 0; target = 0; trigger = always; guard = none }

abbrev pub transition : ChartSet → ℕ → Transition
transition cs t = get_or cs.transitions t no_transition

-- the milliseconds of a state's waiting actions, which are the same for all of them (25); none where it has no such action
abbrev pub waits : ChartSet → ℕ → List ℕ
waits cs s = take 1 (of s cs.waiting_times)

-- what a proof that computes with these opens
unfoldable pub ChartSet· : Type 0
unfolding Lists Bytes
ChartSet· = Unit
