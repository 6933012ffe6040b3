-- Examples of the refusals of files: 1 to 9 on the zero-watch set with bytes put in, and 11 on twins. Assumes nothing.
use mathlib.Core.Path.{refl}
use mathlib.Core.List.{List, [], ◌∷◌, ◌++◌}
use Prim.Native.Nat.{ℕ}
use lib.ListN.{replicate, take, drop}
use Rattle.prelude.specs.Lists.{gather}
use Rattle.model.specs.ChartFile.{ChartFile}
use Rattle.model.specs.AutomataFile.{AutomataFile}
use Rattle.model.specs.Translation.{Translation}
use Rattle.records.proofs.Tables.{Agree}
use Rattle.expressions.proofs.ExampleNodes.{constant, binary}
use Rattle.examples.proofs.ExampleSets.{chart, state, freely, action, zero_watch, waiting}
use Rattle.examples.proofs.ExampleFiles.{edited, refused, assigning_node, guarded_by, every_few, refused_table, zero_twin, clock_twin, edited_twin, edited_clocks, edited_pair}

-- ---- chart files

abbrev nine_charts : List ℕ
nine_charts = gather (λ i. chart i) (replicate 9 0)

-- so many actions of a place and an owner, each raising event 0
abbrev raises : (n place owner : ℕ) → List ℕ
raises n place owner = gather (λ e. action place owner 2 e 0) (replicate n 0)

-- a transition from the first chart to the second
abbrev across : List ℕ
across = chart 0 ++ chart 2 ++ state 0 ++ state 0 ++ state 1 ++ state 1 ++ freely 1 0 1 ++ freely 1 2 3 ++ freely 1 1 3

-- both charts name the second's initial state
abbrev elsewhere : List ℕ
elsewhere = chart 2 ++ chart 2 ++ state 0 ++ state 0 ++ state 1 ++ state 1 ++ freely 1 0 1 ++ freely 1 2 3

abbrev unused_node : List ℕ
unused_node = chart 0 ++ state 0 ++ state 0 ++ freely 1 0 1 ++ constant 1

abbrev files : List (ℕ × ℕ)
files =
    -- 1: length no multiple of 16
    (refused (take 287 zero_watch), 1)
    ∷ (refused (1 ∷ []), 1)
    -- 2: a kind unknown, or descending
    ∷ (refused (edited zero_watch ((0, 7) ∷ [])), 2)
    ∷ (refused (edited zero_watch ((0, 0) ∷ [])), 2)
    ∷ (refused (edited zero_watch ((272, 5) ∷ [])), 2)
    -- 3: no record, no chart, too many of a kind
    ∷ (refused [], 3)
    ∷ (refused (drop 16 zero_watch), 3)
    ∷ (refused nine_charts, 3)
    -- 4: an unnamed or unused byte, in each kind
    ∷ (refused (edited zero_watch ((1, 1) ∷ [])), 4)
    ∷ (refused (edited zero_watch ((15, 1) ∷ [])), 4)
    ∷ (refused (edited zero_watch ((18, 1) ∷ [])), 4)
    ∷ (refused (edited zero_watch ((71, 1) ∷ [])), 4)
    ∷ (refused (edited zero_watch ((72, 1) ∷ [])), 4)
    ∷ (refused (edited zero_watch ((78, 1) ∷ [])), 4)
    ∷ (refused (edited zero_watch ((104, 1) ∷ [])), 4)
    ∷ (refused (edited zero_watch ((129, 1) ∷ [])), 4)
    ∷ (refused (edited zero_watch ((136, 1) ∷ [])), 4)
    ∷ (refused (edited zero_watch ((148, 1) ∷ [])), 4)
    ∷ (refused (edited zero_watch ((162, 1) ∷ [])), 4)
    ∷ (refused (edited zero_watch ((182, 1) ∷ [])), 4)
    ∷ (refused (edited zero_watch ((188, 1) ∷ [])), 4)
    ∷ (refused (edited zero_watch ((266, 1) ∷ [])), 4)
    -- under an unknown code only an unnamed byte is 4; the deed decides on 6-7, the place on 12-15
    ∷ (refused (edited zero_watch ((70, 9) ∷ (71, 1) ∷ [])), 5)
    ∷ (refused (edited zero_watch ((70, 9) ∷ (78, 1) ∷ [])), 4)
    ∷ (refused (edited zero_watch ((177, 9) ∷ (182, 1) ∷ [])), 5)
    ∷ (refused (edited zero_watch ((177, 9) ∷ (188, 1) ∷ [])), 4)
    ∷ (refused (edited zero_watch ((260, 3) ∷ [])), 5)
    ∷ (refused (edited zero_watch ((260, 3) ∷ (266, 1) ∷ [])), 4)
    ∷ (refused (edited zero_watch ((260, 2) ∷ [])), 4)
    ∷ (refused (edited zero_watch ((257, 5) ∷ (266, 1) ∷ [])), 4)
    -- 5: priority 0 and 17, trigger, event, milliseconds, start outside its range, operators, place, deed, raised event
    ∷ (refused (edited zero_watch ((65, 0) ∷ [])), 5)
    ∷ (refused (edited zero_watch ((65, 17) ∷ [])), 5)
    ∷ (refused (edited zero_watch ((70, 4) ∷ [])), 5)
    ∷ (refused (edited zero_watch ((103, 32) ∷ [])), 5)
    ∷ (refused (waiting 0), 5)
    ∷ (refused (waiting 3_600_001), 5)
    ∷ (refused (edited zero_watch ((134, 101) ∷ [])), 5)
    ∷ (refused (edited zero_watch ((130, 2) ∷ (131, 0) ∷ [])), 5)
    ∷ (refused (edited zero_watch ((145, 0) ∷ [])), 5)
    ∷ (refused (edited zero_watch ((145, 9) ∷ [])), 5)
    ∷ (refused (edited zero_watch ((145, 15) ∷ [])), 5)
    ∷ (refused (edited zero_watch ((145, 22) ∷ [])), 5)
    ∷ (refused (edited zero_watch ((257, 0) ∷ [])), 5)
    ∷ (refused (edited zero_watch ((257, 5) ∷ [])), 5)
    ∷ (refused (edited zero_watch ((260, 0) ∷ [])), 5)
    ∷ (refused (edited zero_watch ((260, 2) ∷ (261, 32) ∷ (262, 0) ∷ [])), 5)
    -- 6: initial state, chart, source, target, guard, operand, variable, owners, assigned variable, assigned node
    ∷ (refused (edited zero_watch ((2, 3) ∷ [])), 6)
    ∷ (refused (edited zero_watch ((17, 1) ∷ [])), 6)
    ∷ (refused (edited zero_watch ((66, 3) ∷ [])), 6)
    ∷ (refused (edited zero_watch ((68, 3) ∷ [])), 6)
    ∷ (refused (edited zero_watch ((92, 7) ∷ [])), 6)
    ∷ (refused (edited zero_watch ((178, 7) ∷ [])), 6)
    ∷ (refused (edited zero_watch ((178, 255) ∷ (179, 255) ∷ [])), 6)
    ∷ (refused (edited zero_watch ((146, 1) ∷ [])), 6)
    ∷ (refused (edited zero_watch ((258, 4) ∷ [])), 6)
    ∷ (refused (edited zero_watch ((257, 1) ∷ (258, 3) ∷ [])), 6)
    ∷ (refused (edited zero_watch ((261, 1) ∷ [])), 6)
    ∷ (refused (edited zero_watch ((262, 7) ∷ [])), 6)
    ∷ (refused (edited zero_watch ((262, 255) ∷ (263, 255) ∷ [])), 6)
    -- 7: across charts; initial state of another chart; two leave it, none does, with trigger, with guard, entered, with an entry or exit action
    ∷ (refused across, 7)
    ∷ (refused elsewhere, 7)
    ∷ (refused (edited zero_watch ((114, 0) ∷ [])), 7)
    ∷ (refused (edited zero_watch ((66, 2) ∷ (65, 3) ∷ [])), 7)
    ∷ (refused (edited zero_watch ((70, 1) ∷ [])), 7)
    ∷ (refused (edited zero_watch ((76, 2) ∷ (77, 0) ∷ [])), 7)
    ∷ (refused (edited zero_watch ((116, 0) ∷ [])), 7)
    ∷ (refused (edited zero_watch ((257, 1) ∷ (258, 0) ∷ [])), 7)
    ∷ (refused (edited zero_watch ((257, 2) ∷ (258, 0) ∷ [])), 7)
    -- equal priorities; eight actions and a ninth, on a transition and on a state
    ∷ (refused (edited zero_watch ((97, 1) ∷ [])), 7)
    ∷ (refused (zero_watch ++ raises 7 3 2), 0)
    ∷ (refused (zero_watch ++ raises 8 3 2), 7)
    ∷ (refused (zero_watch ++ raises 4 1 1 ++ raises 4 2 1), 0)
    ∷ (refused (zero_watch ++ raises 4 1 1 ++ raises 5 2 1), 7)
    -- 8: an operand not lower, of the wrong sort; guard no truth; assigned node no number; a node used twice, or not at all
    ∷ (refused (edited zero_watch ((178, 2) ∷ [])), 8)
    ∷ (refused (edited zero_watch ((226, 2) ∷ [])), 8)
    ∷ (refused (edited zero_watch ((92, 1) ∷ [])), 8)
    ∷ (refused (edited zero_watch ((262, 2) ∷ [])), 8)
    ∷ (refused (edited zero_watch ((278, 5) ∷ [])), 8)
    ∷ (refused (edited zero_watch ((228, 3) ∷ [])), 8)
    ∷ (refused unused_node, 8)
    -- every node used once: an operand not lower, a truth for a number, a number as a guard, a truth assigned
    ∷ (refused (assigning_node 0 (binary 3 1 2 ++ constant 1 ++ constant 2)), 8)
    ∷ (refused (assigning_node 4 (constant 1 ++ constant 2 ++ binary 17 0 1 ++ constant 1 ++ binary 3 2 3)), 8)
    ∷ (refused (guarded_by 0 (constant 1)), 8)
    ∷ (refused (assigning_node 2 (constant 1 ++ constant 2 ++ binary 17 0 1)), 8)
    ∷ (refused (assigning_node 2 (constant 1 ++ constant 2 ++ binary 3 0 1)), 0)
    -- 9: timing triggers of 0 ticks, after and every; 50 ms are an exact half, 51 are one tick
    ∷ (refused (waiting 49), 9)
    ∷ (refused (every_few 49), 9)
    ∷ (refused (waiting 50), 9)
    ∷ (refused (every_few 50), 9)
    ∷ (refused (waiting 51), 0)
    ∷ (refused (every_few 51), 0)
    -- the lowest of two
    ∷ (refused (edited zero_watch ((1, 1) ∷ (65, 0) ∷ [])), 4)
    ∷ (refused (edited zero_watch ((65, 0) ∷ (2, 3) ∷ [])), 5)
    ∷ (refused (edited zero_watch ((2, 3) ∷ (97, 1) ∷ [])), 6)
    ∷ (refused (edited zero_watch ((97, 1) ∷ (178, 2) ∷ [])), 7)
    ∷ (refused (edited zero_watch ((0, 7) ∷ (1, 1) ∷ [])), 2)
    -- accepted
    ∷ (refused zero_watch, 0)
    ∷ []

file-examples : Agree files
unfolding ChartFile
file-examples =
    (refl, (refl, (refl, (refl, (refl, (refl, (refl, (refl, (refl, (refl, (refl, (refl, (refl, (refl, (refl, (refl, (refl, (refl, (refl, (refl, (refl, (refl, (refl, (refl, (refl, (refl, (refl, (refl, (refl, (refl, (refl, (refl, (refl, (refl, (refl, (refl, (refl, (refl, (refl, (refl, (refl, (refl, (refl, (refl, (refl, (refl, (refl, (refl, (refl, (refl, (refl, (refl, (refl, (refl, (refl, (refl, (refl, (refl, (refl, (refl, (refl, (refl, (refl, (refl, (refl, (refl, (refl, (refl, (refl, (refl, (refl, (refl, (refl, (refl, (refl, (refl, (refl, (refl, (refl, (refl, (refl, (refl, (refl, (refl, (refl, (refl, (refl, (refl, (refl, (refl, (refl, (refl, (refl, (refl, (refl, (refl, (refl, tt)))))))))))))))))))))))))))))))))))))))))))))))))))))))))))))))))))))))))))))))))))))))))))))))))

-- ---- automata files

abbrev tables : List (ℕ × ℕ)
tables =
    -- accepted; literals in another order, a node that two literals read, a clock that no edge resets
    (refused_table zero_twin, 0)
    ∷ (refused_table (edited_twin ((178, 6) ∷ [])), 0)
    ∷ (refused_table (edited_twin ((216, 2) ∷ (217, 0) ∷ [])), 0)
    ∷ (refused_table clock_twin, 0)
    ∷ (refused_table (take 304 clock_twin), 0)
    -- 1 to 3: length, kinds, no automaton, too many
    ∷ (refused_table (take 479 zero_twin), 11)
    ∷ (refused_table (edited_twin ((0, 32) ∷ [])), 11)
    ∷ (refused_table (edited_twin ((464, 39) ∷ [])), 11)
    ∷ (refused_table [], 11)
    ∷ (refused_table (drop 16 zero_twin), 11)
    -- 4, in each kind
    ∷ (refused_table (edited_twin ((1, 1) ∷ [])), 11)
    ∷ (refused_table (edited_twin ((18, 1) ∷ [])), 11)
    ∷ (refused_table (edited_twin ((71, 1) ∷ [])), 11)
    ∷ (refused_table (edited_twin ((181, 1) ∷ [])), 11)
    ∷ (refused_table (edited_twin ((183, 1) ∷ [])), 11)
    ∷ (refused_table (edited_twin ((186, 1) ∷ [])), 11)
    ∷ (refused_table (edited_twin ((321, 1) ∷ [])), 11)
    ∷ (refused_table (edited_twin ((347, 1) ∷ [])), 11)
    ∷ (refused_table (edited_twin ((453, 1) ∷ [])), 11)
    ∷ (refused_table (edited_twin ((458, 1) ∷ [])), 11)
    ∷ (refused_table (edited_clocks ((292, 1) ∷ [])), 11)
    ∷ (refused_table (edited_clocks ((305, 1) ∷ [])), 11)
    ∷ (refused_table (edited_clocks ((310, 1) ∷ [])), 11)
    -- 5: idle mark, sign, trigger, event, timing, range, operator, deed, raised event
    ∷ (refused_table (edited_twin ((70, 2) ∷ [])), 11)
    ∷ (refused_table (edited_twin ((177, 0) ∷ [])), 11)
    ∷ (refused_table (edited_twin ((177, 3) ∷ [])), 11)
    ∷ (refused_table (edited_twin ((180, 3) ∷ [])), 11)
    ∷ (refused_table (edited_twin ((180, 1) ∷ (181, 32) ∷ [])), 11)
    ∷ (refused_table (edited_clocks ((289, 1) ∷ [])), 11)
    ∷ (refused_table (edited_clocks ((289, 4) ∷ [])), 11)
    ∷ (refused_table (edited_twin ((326, 101) ∷ [])), 11)
    ∷ (refused_table (edited_twin ((337, 9) ∷ [])), 11)
    ∷ (refused_table (edited_twin ((449, 3) ∷ [])), 11)
    ∷ (refused_table (edited_twin ((449, 2) ∷ (452, 32) ∷ (454, 0) ∷ [])), 11)
    -- 6: initial location, automaton of a location and of an edge, ends, edge and node and clock of a literal, operand, variable, edge and variable and node of an update, edge and clock of a reset
    ∷ (refused_table (edited_twin ((2, 3) ∷ [])), 11)
    ∷ (refused_table (edited_twin ((17, 1) ∷ [])), 11)
    ∷ (refused_table (edited_twin ((65, 1) ∷ [])), 11)
    ∷ (refused_table (edited_twin ((66, 3) ∷ [])), 11)
    ∷ (refused_table (edited_twin ((68, 3) ∷ [])), 11)
    ∷ (refused_table (edited_twin ((178, 7) ∷ [])), 11)
    ∷ (refused_table (edited_twin ((200, 7) ∷ [])), 11)
    ∷ (refused_table (edited_twin ((370, 7) ∷ [])), 11)
    ∷ (refused_table (edited_twin ((338, 1) ∷ [])), 11)
    ∷ (refused_table (edited_twin ((450, 7) ∷ [])), 11)
    ∷ (refused_table (edited_twin ((452, 1) ∷ [])), 11)
    ∷ (refused_table (edited_twin ((454, 7) ∷ [])), 11)
    ∷ (refused_table (edited_clocks ((230, 1) ∷ [])), 11)
    ∷ (refused_table (edited_clocks ((306, 7) ∷ [])), 11)
    ∷ (refused_table (edited_clocks ((308, 1) ∷ [])), 11)
    -- ticks 0 and 36,001; 36,000 are accepted
    ∷ (refused_table (edited_clocks ((290, 0) ∷ [])), 11)
    ∷ (refused_table (edited_clocks ((290, 161) ∷ (291, 140) ∷ [])), 11)
    ∷ (refused_table (edited_clocks ((290, 160) ∷ (291, 140) ∷ [])), 0)
    -- an end, or the initial location, in another automaton; an idle edge that does not stay
    ∷ (refused_table (edited_pair ((148, 4) ∷ [])), 11)
    ∷ (refused_table (edited_pair ((146, 4) ∷ [])), 11)
    ∷ (refused_table (edited_pair ((2, 3) ∷ [])), 11)
    ∷ (refused_table (edited_pair ((145, 1) ∷ [])), 11)
    ∷ (refused_table (edited_twin ((132, 1) ∷ [])), 11)
    -- an operand not lower or of the wrong sort, a guard no truth, an assigned node no number, a node operand twice
    ∷ (refused_table (edited_twin ((370, 2) ∷ [])), 11)
    ∷ (refused_table (edited_twin ((418, 2) ∷ [])), 11)
    ∷ (refused_table (edited_twin ((200, 1) ∷ [])), 11)
    ∷ (refused_table (edited_twin ((454, 2) ∷ [])), 11)
    ∷ (refused_table (edited_twin ((420, 3) ∷ [])), 11)
    ∷ []

table-examples : Agree tables
unfolding Translation AutomataFile
table-examples = (refl, (refl, (refl, (refl, (refl, (refl, (refl, (refl, (refl, (refl, (refl, (refl, (refl, (refl, (refl, (refl, (refl, (refl, (refl, (refl, (refl, (refl, (refl, (refl, (refl, (refl, (refl, (refl, (refl, (refl, (refl, (refl, (refl, (refl, (refl, (refl, (refl, (refl, (refl, (refl, (refl, (refl, (refl, (refl, (refl, (refl, (refl, (refl, (refl, (refl, (refl, (refl, (refl, (refl, (refl, (refl, (refl, (refl, (refl, (refl, (refl, (refl, tt))))))))))))))))))))))))))))))))))))))))))))))))))))))))))))))
