-- The lines of an automata table's records without their ends, of things numbered i. Assumes nothing: these are definitions.
use Rattle.std.specs.Prelude.{Bool, true, false, List, [], ◌++◌, ℕ}
use Rattle.model.specs.Runs.{Action}
use Rattle.model.specs.AutomataTable.{Edge, Literal, Clock, LiteralTrigger, always, event, clock, Timing, after, every}
use Rattle.lines.specs.Ascii.{ascii}
use Rattle.listing_parts.specs.Parts.{named, measured, guard_text, action_text}

-- 33
abbrev pub automaton_text : ℕ → ℕ → List ℕ
automaton_text i initial = named "automaton " i ++ named ": initial location " initial

-- 34
abbrev pub location_text : ℕ → ℕ → List ℕ
location_text i automaton = named "location " i ++ named ": automaton " automaton

abbrev pub idle_text : Bool → List ℕ
idle_text true = ascii ", idle"
idle_text false = []

-- 35
abbrev pub edge_text : ℕ → Edge → List ℕ
edge_text i e =
    named "edge " i ++ named ": automaton " e.automaton ++ named ", location " e.source ++ named " to location " e.target ++ idle_text e.idles

abbrev pub sign_text : Bool → List ℕ
sign_text true = ascii " must hold"
sign_text false = ascii " must not"

abbrev pub literal_trigger_text : LiteralTrigger → List ℕ
literal_trigger_text always = ascii ": always"
literal_trigger_text (event e) = named ": event " e
literal_trigger_text (clock k) = named ": clock " k

-- 36, of an edge
abbrev pub literal_text : ℕ → ℕ × Literal → List ℕ
literal_text i x = named "literal " i ++ named ": edge " x.0 ++ sign_text x.1.must ++ literal_trigger_text x.1.trigger ++ guard_text x.1.guard

abbrev pub timing_text : Timing → ℕ → List ℕ
timing_text after ticks = measured ": after " ticks " ticks"
timing_text every ticks = measured ": every " ticks " ticks"

-- 37
abbrev pub clock_text : ℕ → Clock → List ℕ
clock_text i k = named "clock " i ++ timing_text k.timing k.ticks

-- 40, of an edge
abbrev pub update_text : ℕ → ℕ × Action → List ℕ
update_text i x = named "update " i ++ named ": edge " x.0 ++ action_text x.1

-- 41, of an edge
abbrev pub reset_text : ℕ → ℕ × ℕ → List ℕ
reset_text i x = named "reset " i ++ named ": edge " x.0 ++ named ": clock " x.1
