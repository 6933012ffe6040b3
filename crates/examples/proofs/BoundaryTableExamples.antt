-- Boundary rows of automata files and of the translation: what an error in one number, byte or clause of the definitions would change, and the other
-- examples would let pass. Assumes nothing.
use mathlib.Core.Path.{◌≡◌, refl}
use mathlib.Core.List.{List, [], ◌∷◌, ◌++◌}
use mathlib.Core.Bool.{Bool, true, false}
use Prim.Native.Nat.{ℕ, suc}
use lib.Dec.{eqb}
use lib.ListN.{set}
use Rattle.prelude.specs.Lists.{keep, gather, from}
use Rattle.model.specs.AutomataFile.{table_tests, AutomataFile}
use Rattle.model.specs.Translation.{twin_bytes, Translation}
use Rattle.records.proofs.Tables.{Agree}
use Rattle.expressions.proofs.ExampleNodes.{rec16}
use Rattle.examples.proofs.ExampleSets.{alternating}
use Rattle.examples.proofs.ExampleFiles.{bytes, edited_twin, edited_clocks, edited_pair}

-- ---- which clause of 11 applies first

-- 1 to 6, then 7 ticks, 8 another automaton, 9 an idle edge, 10 nodes; 0 where none does
abbrev first_of : ℕ → List Bool → ℕ
first_of k [] = 0
first_of k (true ∷ rest) = k
first_of k (false ∷ rest) = first_of (suc k) rest

abbrev clause : List ℕ → ℕ
clause t = first_of 1 (table_tests t)

-- the bytes of a record, 1 to 15, that must be zero
abbrev strays : List ℕ → List ℕ
strays body = keep (λ k. eqb (clause (rec16 (33 ∷ []) ++ set (rec16 body) k 1)) 4) (from 1 15)

abbrev literal_under : (trigger : ℕ) → List ℕ
literal_under trigger = strays (36 ∷ 1 ∷ 0 ∷ 0 ∷ trigger ∷ [])

abbrev zeros : List (List ℕ × List ℕ)
zeros =
    (strays (33 ∷ []), 1 ∷ bytes 4 15)
    ∷ (strays (34 ∷ []), bytes 2 15)
    ∷ (strays (35 ∷ []), bytes 7 15)
    -- a literal's triggers none, event, clock, and one that is none of them
    ∷ (literal_under 0, bytes 5 7 ++ bytes 10 15)
    ∷ (literal_under 1, bytes 6 7 ++ bytes 10 15)
    ∷ (literal_under 2, 5 ∷ bytes 10 15)
    ∷ (literal_under 3, bytes 10 15)
    ∷ (strays (37 ∷ 2 ∷ []), bytes 4 15)
    ∷ (strays (38 ∷ []), 1 ∷ bytes 8 15)
    -- nodes as in charts: a constant, a sum, a choice
    ∷ (strays (39 ∷ 1 ∷ []), bytes 2 7 ++ bytes 12 15)
    ∷ (strays (39 ∷ 3 ∷ []), bytes 6 15)
    ∷ (strays (39 ∷ 8 ∷ []), bytes 8 15)
    -- assign, raise, and neither
    ∷ (strays (40 ∷ 1 ∷ []), 5 ∷ bytes 10 15)
    ∷ (strays (40 ∷ 2 ∷ []), bytes 5 7 ++ bytes 10 15)
    ∷ (strays (40 ∷ 3 ∷ []), 5 ∷ bytes 10 15)
    ∷ (strays (41 ∷ []), 1 ∷ bytes 6 15)
    ∷ []

zero-rows : Agree zeros
unfolding AutomataFile
zero-rows = (refl, (refl, (refl, (refl, (refl, (refl, (refl, (refl, (refl, (refl, (refl, (refl, (refl, (refl, (refl, (refl, tt))))))))))))))))

abbrev tables : List (ℕ × ℕ)
tables =
    -- 5: event 31 of a literal and of an update, and 32
    (clause (edited_twin ((229, 31) ∷ [])), 0)
    ∷ (clause (edited_twin ((229, 32) ∷ [])), 5)
    ∷ (clause (edited_twin ((449, 2) ∷ (452, 31) ∷ (454, 0) ∷ [])), 0)
    ∷ (clause (edited_twin ((449, 2) ∷ (452, 32) ∷ (454, 0) ∷ [])), 5)
    -- start = highest, and one more
    ∷ (clause (edited_twin ((326, 100) ∷ [])), 0)
    ∷ (clause (edited_twin ((326, 101) ∷ [])), 5)
    -- 6: high bytes of initial location, source, target, a literal's edge and node and clock, variable, operands, an update's edge and node, a reset's edge and clock
    ∷ (clause (edited_twin ((3, 1) ∷ [])), 6)
    ∷ (clause (edited_twin ((67, 1) ∷ [])), 6)
    ∷ (clause (edited_twin ((69, 1) ∷ [])), 6)
    ∷ (clause (edited_twin ((179, 1) ∷ [])), 6)
    ∷ (clause (edited_twin ((201, 1) ∷ [])), 6)
    ∷ (clause (edited_clocks ((231, 1) ∷ [])), 6)
    ∷ (clause (edited_twin ((339, 1) ∷ [])), 6)
    ∷ (clause (edited_twin ((371, 1) ∷ [])), 6)
    ∷ (clause (edited_twin ((373, 1) ∷ [])), 6)
    ∷ (clause (edited_twin ((451, 1) ∷ [])), 6)
    ∷ (clause (edited_twin ((455, 1) ∷ [])), 6)
    ∷ (clause (edited_clocks ((307, 1) ∷ [])), 6)
    ∷ (clause (edited_clocks ((309, 1) ∷ [])), 6)
    -- ticks 0 and 1, 36,000 and 36,001
    ∷ (clause (edited_clocks ((290, 0) ∷ [])), 7)
    ∷ (clause (edited_clocks ((290, 1) ∷ [])), 0)
    ∷ (clause (edited_clocks ((290, 160) ∷ (291, 140) ∷ [])), 0)
    ∷ (clause (edited_clocks ((290, 161) ∷ (291, 140) ∷ [])), 7)
    -- the initial location of automaton 1 is of automaton 0; an end of an edge of automaton 1
    ∷ (clause (edited_pair ((18, 0) ∷ [])), 8)
    ∷ (clause (edited_pair ((180, 1) ∷ [])), 8)
    -- an idle edge that does not stay; the second operand not lower, and a truth
    ∷ (clause (edited_twin ((132, 1) ∷ [])), 9)
    ∷ (clause (edited_twin ((372, 2) ∷ [])), 10)
    ∷ (clause (edited_twin ((420, 2) ∷ [])), 10)
    ∷ []

table-rows : Agree tables
unfolding Translation AutomataFile
table-rows = (refl, (refl, (refl, (refl, (refl, (refl, (refl, (refl, (refl, (refl, (refl, (refl, (refl, (refl, (refl, (refl, (refl, (refl, (refl, (refl, (refl, (refl, (refl, (refl, (refl, (refl, (refl, (refl, tt))))))))))))))))))))))))))))

-- ---- the translation

-- the records of a twin, each without the zeros at its end
abbrev alternating_twin : List (List ℕ)
alternating_twin =
    (33 ∷ 0 ∷ 0 ∷ [])
    ∷ (33 ∷ 0 ∷ 1 ∷ [])
    ∷ (34 ∷ 0 ∷ [])
    ∷ (34 ∷ 1 ∷ [])
    ∷ (34 ∷ 0 ∷ [])
    ∷ (34 ∷ 1 ∷ [])
    ∷ (35 ∷ 0 ∷ 0 ∷ 0 ∷ 2 ∷ [])
    ∷ (35 ∷ 1 ∷ 1 ∷ 0 ∷ 3 ∷ [])
    ∷ (35 ∷ 1 ∷ 3 ∷ 0 ∷ 3 ∷ [])
    ∷ (35 ∷ 0 ∷ 2 ∷ 0 ∷ 2 ∷ [])
    ∷ (35 ∷ 0 ∷ 0 ∷ 0 ∷ 0 ∷ 0 ∷ 1 ∷ [])
    ∷ (35 ∷ 1 ∷ 1 ∷ 0 ∷ 1 ∷ 0 ∷ 1 ∷ [])
    ∷ (35 ∷ 0 ∷ 2 ∷ 0 ∷ 2 ∷ 0 ∷ 1 ∷ [])
    ∷ (35 ∷ 1 ∷ 3 ∷ 0 ∷ 3 ∷ 0 ∷ 1 ∷ [])
    ∷ (36 ∷ 1 ∷ 0 ∷ 0 ∷ 0 ∷ 0 ∷ 0 ∷ 0 ∷ 255 ∷ 255 ∷ [])
    ∷ (36 ∷ 1 ∷ 1 ∷ 0 ∷ 0 ∷ 0 ∷ 0 ∷ 0 ∷ 255 ∷ 255 ∷ [])
    ∷ (36 ∷ 1 ∷ 2 ∷ 0 ∷ 2 ∷ 0 ∷ 0 ∷ 0 ∷ 255 ∷ 255 ∷ [])
    ∷ (36 ∷ 1 ∷ 3 ∷ 0 ∷ 2 ∷ 0 ∷ 1 ∷ 0 ∷ 255 ∷ 255 ∷ [])
    ∷ (36 ∷ 2 ∷ 4 ∷ 0 ∷ 0 ∷ 0 ∷ 0 ∷ 0 ∷ 255 ∷ 255 ∷ [])
    ∷ (36 ∷ 2 ∷ 5 ∷ 0 ∷ 0 ∷ 0 ∷ 0 ∷ 0 ∷ 255 ∷ 255 ∷ [])
    ∷ (36 ∷ 2 ∷ 6 ∷ 0 ∷ 2 ∷ 0 ∷ 1 ∷ 0 ∷ 255 ∷ 255 ∷ [])
    ∷ (36 ∷ 2 ∷ 7 ∷ 0 ∷ 2 ∷ 0 ∷ 0 ∷ 0 ∷ 255 ∷ 255 ∷ [])
    ∷ (37 ∷ 2 ∷ 5 ∷ [])
    ∷ (37 ∷ 3 ∷ 160 ∷ 140 ∷ [])
    ∷ (38 ∷ 0 ∷ 0 ∷ 0 ∷ 9 ∷ 0 ∷ 1 ∷ [])
    ∷ (38 ∷ 0 ∷ 246 ∷ 255 ∷ 255 ∷ 255 ∷ 253 ∷ 255 ∷ [])
    ∷ (41 ∷ 0 ∷ 0 ∷ 0 ∷ 1 ∷ [])
    ∷ (41 ∷ 0 ∷ 1 ∷ 0 ∷ 0 ∷ [])
    ∷ (41 ∷ 0 ∷ 2 ∷ 0 ∷ 0 ∷ [])
    ∷ (41 ∷ 0 ∷ 3 ∷ 0 ∷ 1 ∷ [])
    ∷ []

twin-records : twin_bytes alternating ≡ gather rec16 alternating_twin
unfolding Translation
twin-records = refl
