-- The lines of a chart set's records without their ends, of things numbered i. Assumes nothing: these are definitions.
use Rattle.std.specs.Prelude.{List, [], ◌∷◌, ◌++◌, ℕ}
use Rattle.prelude.specs.Lists.{case_of}
use Rattle.records.specs.Bytes.{byte, two, four}
use Rattle.model.specs.ChartSet.{Trigger, always, event, after, every, Transition, read_action}
use Rattle.lines.specs.Ascii.{ascii}
use Rattle.listing_parts.specs.Parts as P
use Rattle.listing_parts.specs.Parts.{named, measured, guard_text}

-- 1
abbrev pub chart_text : ℕ → ℕ → List ℕ
chart_text i initial = named "chart " i ++ named ": initial state " initial

-- 2
abbrev pub state_text : ℕ → ℕ → List ℕ
state_text i chart = named "state " i ++ named ": chart " chart

abbrev pub trigger_text : Trigger → List ℕ
trigger_text always = ascii ", always"
trigger_text (event e) = named ", event " e
trigger_text (after ms) = measured ", after " ms " ms"
trigger_text (every ms) = measured ", every " ms " ms"

-- 3
abbrev pub transition_text : ℕ → Transition → List ℕ
transition_text i t =
    named "transition " i
    ++ named ": state " t.source
    ++ named " to state " t.target
    ++ named ", priority " t.priority
    ++ trigger_text t.trigger
    ++ guard_text t.guard

abbrev pub waiting_text : ℕ → ℕ → List ℕ
waiting_text state ms = named ": waiting in state " state ++ measured ", every " ms " ms"

-- "1 place: 1 entry, 2 exit, 3 transition; 2-3 owner", and place 4 with its milliseconds
abbrev pub owner_text : ℕ → ℕ → ℕ → List ℕ
owner_text place owner ms =
    case_of place ((1, named ": entry of state " owner) ∷ (2, named ": exit of state " owner) ∷ (4, waiting_text owner ms) ∷ []) (named ": transition " owner)

-- 6
abbrev pub action_text : ℕ → List ℕ → List ℕ
action_text i r = named "action " i ++ owner_text (byte r 1) (two r 2) (four r 12) ++ P.action_text (read_action r).1
