-- Files with bytes put in, and the number that refuses them, and replays, for the examples. Assumes nothing: these are definitions.
use mathlib.Core.Option.{Option, some, none}
use mathlib.Core.List.{List, [], ◌∷◌, ◌++◌}
use Prim.Native.Nat.{ℕ, suc, ◌-◌}
use Prim.Native.String.{String}
use lib.ListN.{set, replicate}
use Rattle.prelude.specs.Lists.{gather, from}
use Rattle.records.specs.Refusal.{Refusal, refusal_number}
use Rattle.model.specs.ChartFile.{charts_refusal}
use Rattle.model.specs.AutomataFile.{automata_refusal}
use Rattle.model.specs.Translation.{twin_bytes}
use Rattle.model.specs.Replay.{replay}
use Rattle.examples.proofs.ExampleSets.{ascii, input_of, chart, state, transition, freely, timed, variable, action, zero_watch, waiting, raising}

-- bytes a to e of a record, as the paper counts them, and so many copies of a record
abbrev pub bytes : (a e : ℕ) → List ℕ
bytes a e = from a (suc e - a)

abbrev pub copies : ℕ → List ℕ → List ℕ
copies n r = gather (λ x. x) (replicate n r)

-- bytes put in at places
abbrev pub edited : List ℕ → List (ℕ × ℕ) → List ℕ
edited s [] = s
edited s (x ∷ xs) = edited (set s x.0 x.1) xs

abbrev pub number_of : Option Refusal → ℕ
number_of none = 0
number_of (some w) = refusal_number w

abbrev pub refused : List ℕ → ℕ
refused s = number_of (charts_refusal s)

abbrev pub refused_table : List ℕ → ℕ
refused_table t = number_of (automata_refusal t)

-- a set whose first transition assigns node n of these nodes, and one whose second has node n as its guard
abbrev pub assigning_node : (n : ℕ) → List ℕ → List ℕ
assigning_node n nodes = chart 0 ++ state 0 ++ state 0 ++ freely 1 0 1 ++ variable 0 9 0 ++ nodes ++ action 3 0 1 0 n

abbrev pub guarded_by : (n : ℕ) → List ℕ → List ℕ
guarded_by n nodes = chart 0 ++ state 0 ++ state 0 ++ freely 1 0 1 ++ transition 1 1 1 0 0 0 n ++ nodes

abbrev pub every_few : (ms : ℕ) → List ℕ
every_few ms = chart 0 ++ state 0 ++ state 0 ++ freely 1 0 1 ++ timed 3 1 1 ms

-- the twins of the zero-watch set, of `waiting`, which has a clock and a reset, and of `raising`, which has two automata
abbrev pub zero_twin : List ℕ
zero_twin = twin_bytes zero_watch

abbrev pub clock_twin : List ℕ
clock_twin = twin_bytes (waiting 300)

abbrev pub edited_twin : List (ℕ × ℕ) → List ℕ
edited_twin = edited zero_twin

abbrev pub edited_clocks : List (ℕ × ℕ) → List ℕ
edited_clocks = edited clock_twin

abbrev pub edited_pair : List (ℕ × ℕ) → List ℕ
edited_pair = edited (twin_bytes raising)

-- ---- replays: the number of the refusal that ended it, or 0, then the lines printed

abbrev pub printed : List ℕ → List ℕ → List ℕ
printed s masks = let p = replay s (input_of masks) in number_of p.end ∷ p.text

abbrev pub lines : (end : ℕ) → String → List ℕ
lines end t = end ∷ ascii t
