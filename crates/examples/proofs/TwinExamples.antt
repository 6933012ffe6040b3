-- Examples of the translation, record for record, and of turns by open edges, from bytes. Assumes nothing.
use mathlib.Core.Path.{◌≡◌, refl}
use mathlib.Core.List.{List, [], ◌∷◌, ◌++◌}
use Prim.Native.Nat.{ℕ}
use mathlib.Core.Bool.{cond}
use lib.Dec.{eqb}
use lib.IntN.{ℤ, pos, negsuc}
use Rattle.prelude.specs.Lists.{gather}
use Rattle.model.specs.Translation.{twin_bytes, Translation}
use Rattle.model.specs.AutomataFile.{AutomataFile}
use Rattle.model.specs.Calls.{automata_tables, start_call, turn_call, numbered, answer_code}
use Rattle.records.proofs.Tables.{Agree}
use Rattle.expressions.proofs.ExampleNodes.{rec16, constant, read, binary}
use Rattle.examples.proofs.ExampleSets.{blank, chart, state, transition, freely, on_event, variable, action}

-- ---- the translation

-- priorities out of file order; after, every and an event; a guard; exit, transition and entry actions
abbrev mixed : List ℕ
mixed =
    chart 0 ++ state 0 ++ state 0 ++ state 0
    ++ freely 1 0 1 ++ freely 9 1 2 ++ transition 5 1 1 3 0 200 65535 ++ transition 2 1 2 2 0 300 2 ++ on_event 3 2 1 7 ++ transition 1 2 2 3 0 100 65535
    ++ variable 65533 100 1
    ++ (read 0 ++ constant 3 ++ binary 17 0 1) ++ (read 0 ++ constant 1 ++ binary 3 3 4)
    ++ action 1 2 1 0 5 ++ action 2 1 2 3 0 ++ action 3 3 2 4 0

-- its twin's records, each without the zeros at its end
abbrev mixed_twin : List (List ℕ)
mixed_twin =
    (33 ∷ 0 ∷ [])
    ∷ (34 ∷ 0 ∷ [])
    ∷ (34 ∷ 0 ∷ [])
    ∷ (34 ∷ 0 ∷ [])
    ∷ (35 ∷ 0 ∷ 0 ∷ 0 ∷ 1 ∷ [])
    ∷ (35 ∷ 0 ∷ 1 ∷ 0 ∷ 2 ∷ [])
    ∷ (35 ∷ 0 ∷ 1 ∷ 0 ∷ 1 ∷ [])
    ∷ (35 ∷ 0 ∷ 1 ∷ 0 ∷ 2 ∷ [])
    ∷ (35 ∷ 0 ∷ 2 ∷ 0 ∷ 1 ∷ [])
    ∷ (35 ∷ 0 ∷ 2 ∷ 0 ∷ 2 ∷ [])
    ∷ (35 ∷ 0 ∷ 0 ∷ 0 ∷ 0 ∷ 0 ∷ 1 ∷ [])
    ∷ (35 ∷ 0 ∷ 1 ∷ 0 ∷ 1 ∷ 0 ∷ 1 ∷ [])
    ∷ (35 ∷ 0 ∷ 2 ∷ 0 ∷ 2 ∷ 0 ∷ 1 ∷ [])
    ∷ (36 ∷ 1 ∷ 0 ∷ 0 ∷ 0 ∷ 0 ∷ 0 ∷ 0 ∷ 255 ∷ 255 ∷ [])
    ∷ (36 ∷ 2 ∷ 1 ∷ 0 ∷ 2 ∷ 0 ∷ 1 ∷ 0 ∷ 2 ∷ [])
    ∷ (36 ∷ 2 ∷ 1 ∷ 0 ∷ 2 ∷ 0 ∷ 0 ∷ 0 ∷ 255 ∷ 255 ∷ [])
    ∷ (36 ∷ 1 ∷ 1 ∷ 0 ∷ 0 ∷ 0 ∷ 0 ∷ 0 ∷ 255 ∷ 255 ∷ [])
    ∷ (36 ∷ 2 ∷ 2 ∷ 0 ∷ 2 ∷ 0 ∷ 1 ∷ 0 ∷ 2 ∷ [])
    ∷ (36 ∷ 1 ∷ 2 ∷ 0 ∷ 2 ∷ 0 ∷ 0 ∷ 0 ∷ 255 ∷ 255 ∷ [])
    ∷ (36 ∷ 1 ∷ 3 ∷ 0 ∷ 2 ∷ 0 ∷ 1 ∷ 0 ∷ 2 ∷ [])
    ∷ (36 ∷ 2 ∷ 4 ∷ 0 ∷ 2 ∷ 0 ∷ 2 ∷ 0 ∷ 255 ∷ 255 ∷ [])
    ∷ (36 ∷ 1 ∷ 4 ∷ 0 ∷ 1 ∷ 7 ∷ 0 ∷ 0 ∷ 255 ∷ 255 ∷ [])
    ∷ (36 ∷ 1 ∷ 5 ∷ 0 ∷ 2 ∷ 0 ∷ 2 ∷ 0 ∷ 255 ∷ 255 ∷ [])
    ∷ (36 ∷ 2 ∷ 6 ∷ 0 ∷ 0 ∷ 0 ∷ 0 ∷ 0 ∷ 255 ∷ 255 ∷ [])
    ∷ (36 ∷ 2 ∷ 7 ∷ 0 ∷ 2 ∷ 0 ∷ 1 ∷ 0 ∷ 2 ∷ [])
    ∷ (36 ∷ 2 ∷ 7 ∷ 0 ∷ 2 ∷ 0 ∷ 0 ∷ 0 ∷ 255 ∷ 255 ∷ [])
    ∷ (36 ∷ 2 ∷ 7 ∷ 0 ∷ 0 ∷ 0 ∷ 0 ∷ 0 ∷ 255 ∷ 255 ∷ [])
    ∷ (36 ∷ 2 ∷ 8 ∷ 0 ∷ 2 ∷ 0 ∷ 2 ∷ 0 ∷ 255 ∷ 255 ∷ [])
    ∷ (36 ∷ 2 ∷ 8 ∷ 0 ∷ 1 ∷ 7 ∷ 0 ∷ 0 ∷ 255 ∷ 255 ∷ [])
    ∷ (37 ∷ 3 ∷ 2 ∷ [])
    ∷ (37 ∷ 2 ∷ 3 ∷ [])
    ∷ (37 ∷ 3 ∷ 1 ∷ [])
    ∷ (38 ∷ 0 ∷ 253 ∷ 255 ∷ 100 ∷ 0 ∷ 1 ∷ [])
    ∷ (39 ∷ 2 ∷ [])
    ∷ (39 ∷ 1 ∷ 0 ∷ 0 ∷ 0 ∷ 0 ∷ 0 ∷ 0 ∷ 3 ∷ [])
    ∷ (39 ∷ 17 ∷ 0 ∷ 0 ∷ 1 ∷ [])
    ∷ (39 ∷ 2 ∷ [])
    ∷ (39 ∷ 1 ∷ 0 ∷ 0 ∷ 0 ∷ 0 ∷ 0 ∷ 0 ∷ 1 ∷ [])
    ∷ (39 ∷ 3 ∷ 3 ∷ 0 ∷ 4 ∷ [])
    ∷ (40 ∷ 2 ∷ 1 ∷ 0 ∷ 3 ∷ [])
    ∷ (40 ∷ 1 ∷ 1 ∷ 0 ∷ 0 ∷ 0 ∷ 5 ∷ [])
    ∷ (40 ∷ 2 ∷ 2 ∷ 0 ∷ 3 ∷ [])
    ∷ (40 ∷ 2 ∷ 3 ∷ 0 ∷ 3 ∷ [])
    ∷ (40 ∷ 2 ∷ 3 ∷ 0 ∷ 4 ∷ [])
    ∷ (40 ∷ 1 ∷ 3 ∷ 0 ∷ 0 ∷ 0 ∷ 5 ∷ [])
    ∷ (40 ∷ 1 ∷ 5 ∷ 0 ∷ 0 ∷ 0 ∷ 5 ∷ [])
    ∷ (41 ∷ 0 ∷ [])
    ∷ (41 ∷ 0 ∷ 0 ∷ 0 ∷ 1 ∷ [])
    ∷ (41 ∷ 0 ∷ 1 ∷ 0 ∷ 2 ∷ [])
    ∷ (41 ∷ 0 ∷ 2 ∷ [])
    ∷ (41 ∷ 0 ∷ 2 ∷ 0 ∷ 1 ∷ [])
    ∷ (41 ∷ 0 ∷ 3 ∷ 0 ∷ 2 ∷ [])
    ∷ (41 ∷ 0 ∷ 4 ∷ [])
    ∷ (41 ∷ 0 ∷ 4 ∷ 0 ∷ 1 ∷ [])
    ∷ (41 ∷ 0 ∷ 5 ∷ 0 ∷ 2 ∷ [])
    ∷ []

twin-records : twin_bytes mixed ≡ gather rec16 mixed_twin
unfolding Translation
twin-records = refl

-- ---- open edges, in tables that are no translations

-- one automaton, locations 0 and 1, two edges from 0 to 1, and one from 1 to 1; then literals and the rest
abbrev table : List (List ℕ) → List ℕ
table rest =
    gather rec16 ((33 ∷ []) ∷ (34 ∷ []) ∷ (34 ∷ []) ∷ (35 ∷ 0 ∷ 0 ∷ 0 ∷ 1 ∷ []) ∷ (35 ∷ 0 ∷ 0 ∷ 0 ∷ 1 ∷ []) ∷ (35 ∷ 0 ∷ 1 ∷ 0 ∷ 1 ∷ []) ∷ [])
    ++ gather rec16 rest

-- a literal of an edge: its sign, trigger, event, and node
abbrev literal : (sign edge trigger event node : ℕ) → List ℕ
literal sign e trigger event n = 36 ∷ sign ∷ e ∷ 0 ∷ trigger ∷ event ∷ 0 ∷ 0 ∷ n ∷ cond (eqb n 255) 255 0 ∷ []

abbrev none : ℕ
none = 255

-- two variables from 0 to 9, start 0; node 4 is 1 / v = 0, which faults by 16; node 7 is 2,147,483,647 + 1 = 0, which faults by 15
abbrev faulting : List (List ℕ)
faulting =
    (38 ∷ 0 ∷ 0 ∷ 0 ∷ 9 ∷ []) ∷ (38 ∷ 0 ∷ 0 ∷ 0 ∷ 9 ∷ [])
    ∷ (39 ∷ 1 ∷ 0 ∷ 0 ∷ 0 ∷ 0 ∷ 0 ∷ 0 ∷ 1 ∷ []) ∷ (39 ∷ 2 ∷ []) ∷ (39 ∷ 6 ∷ 0 ∷ 0 ∷ 1 ∷ []) ∷ (39 ∷ 1 ∷ []) ∷ (39 ∷ 16 ∷ 2 ∷ 0 ∷ 3 ∷ [])
    ∷ (39 ∷ 1 ∷ 0 ∷ 0 ∷ 0 ∷ 0 ∷ 0 ∷ 0 ∷ 255 ∷ 255 ∷ 255 ∷ 127 ∷ []) ∷ (39 ∷ 1 ∷ 0 ∷ 0 ∷ 0 ∷ 0 ∷ 0 ∷ 0 ∷ 1 ∷ []) ∷ (39 ∷ 3 ∷ 5 ∷ 0 ∷ 6 ∷ [])
    ∷ (39 ∷ 1 ∷ []) ∷ (39 ∷ 16 ∷ 7 ∷ 0 ∷ 8 ∷ []) ∷ []

abbrev first_turn : (given : ℕ) → List ℕ → ℤ
first_turn given t = numbered answer_code (turn_call automata_tables t given (start_call automata_tables t blank).lent).answer

abbrev turns : List (ℤ × ℤ)
turns =
    -- 19: both open; 18: none; one of two by its literal, which must hold or must not
    (first_turn 0 (table []), negsuc 18)
    ∷ (first_turn 0 (table (literal 1 0 1 5 none ∷ literal 1 1 1 6 none ∷ [])), negsuc 17)
    ∷ (first_turn 64 (table (literal 1 0 1 5 none ∷ literal 1 1 1 6 none ∷ [])), pos 1)
    ∷ (first_turn 32 (table (literal 1 0 1 5 none ∷ literal 2 1 1 5 none ∷ [])), pos 0)
    -- a must-not with neither trigger nor node fails
    ∷ (first_turn 0 (table (literal 2 0 0 0 none ∷ [])), pos 1)
    -- literals in file order, whatever the edges' order, up to the first that fails: the guard is not read
    ∷ (first_turn 0 (table (literal 1 1 1 5 none ∷ literal 1 0 0 0 none ∷ literal 1 1 0 0 4 ∷ faulting)), pos 0)
    -- the guard comes only after its trigger; a fault in any edge's reading, also where another edge is open
    ∷ (first_turn 0 (table (literal 1 1 1 5 4 ∷ faulting)), pos 0)
    ∷ (first_turn 32 (table (literal 1 1 1 5 4 ∷ faulting)), negsuc 15)
    -- the lowest edge's fault counts, also before 18 and 19
    ∷ (first_turn 0 (table (literal 1 1 0 0 4 ∷ literal 1 0 0 0 9 ∷ faulting)), negsuc 14)
    ∷ (first_turn 0 (table (literal 1 1 0 0 9 ∷ literal 1 0 0 0 4 ∷ faulting)), negsuc 15)
    ∷ []

open-edge-examples : Agree turns
unfolding Translation AutomataFile
open-edge-examples = (refl, (refl, (refl, (refl, (refl, (refl, (refl, (refl, (refl, (refl, tt))))))))))
