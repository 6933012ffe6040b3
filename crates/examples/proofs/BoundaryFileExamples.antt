-- Boundary rows of chart files: what an error in one number, byte or clause of the definitions would change, and the other examples would let pass.
-- Assumes nothing.
use mathlib.Core.Path.{refl}
use mathlib.Core.List.{List, [], ◌∷◌, ◌++◌}
use Prim.Native.Nat.{ℕ, ◌+◌}
use lib.Dec.{eqb}
use lib.ListN.{set}
use Rattle.prelude.specs.Lists.{keep, from}
use Rattle.model.specs.ChartFile.{ChartFile}
use Rattle.records.proofs.Tables.{Agree}
use Rattle.expressions.proofs.ExampleNodes.{node, constant, binary}
use Rattle.examples.proofs.ExampleSets.{chart, state, transition, freely, variable, action, zero_watch, waiting, raising}
use Rattle.examples.proofs.ExampleFiles.{bytes, edited, refused, assigning_node, guarded_by, every_few}

-- ---- 4: the bytes that must be zero, by kind and code

-- the bytes of a record, 1 to 15, that are refused by 4 where they are 1
abbrev strays : List ℕ → List ℕ
strays r = keep (λ k. eqb (refused (chart 0 ++ set r k 1)) 4) (from 1 15)

abbrev under_trigger : ℕ → List ℕ
under_trigger trigger = strays (transition 1 0 0 trigger 0 0 0)

abbrev under_operator : ℕ → List ℕ
under_operator operator = strays (node operator 0 0 0 0)

abbrev under_deed : ℕ → List ℕ
under_deed deed = strays (action 1 0 deed 0 0)

abbrev under_place : ℕ → List ℕ
under_place place = strays (action place 0 1 0 0)

abbrev zeros : List (List ℕ × List ℕ)
zeros =
    (strays (chart 0), 1 ∷ bytes 4 15)
    ∷ (strays (state 0), bytes 2 15)
    -- triggers none, event, after, every, and one that is none of them
    ∷ (under_trigger 0, bytes 7 11 ++ bytes 14 15)
    ∷ (under_trigger 1, bytes 8 11 ++ bytes 14 15)
    ∷ (under_trigger 2, 7 ∷ bytes 14 15)
    ∷ (under_trigger 3, 7 ∷ bytes 14 15)
    ∷ (under_trigger 4, bytes 14 15)
    ∷ (strays (variable 0 0 0), 1 ∷ bytes 8 15)
    -- numbers, truths, and what is neither
    ∷ (under_operator 1, bytes 2 7 ++ bytes 12 15)
    ∷ (under_operator 2, bytes 4 15)
    ∷ (under_operator 3, bytes 6 15)
    ∷ (under_operator 4, bytes 6 15)
    ∷ (under_operator 5, bytes 6 15)
    ∷ (under_operator 6, bytes 6 15)
    ∷ (under_operator 7, bytes 6 15)
    ∷ (under_operator 8, bytes 8 15)
    ∷ (under_operator 16, bytes 6 15)
    ∷ (under_operator 17, bytes 6 15)
    ∷ (under_operator 18, bytes 6 15)
    ∷ (under_operator 19, bytes 4 15)
    ∷ (under_operator 20, bytes 6 15)
    ∷ (under_operator 21, bytes 6 15)
    ∷ (under_operator 9, bytes 12 15)
    -- assign, raise, and neither
    ∷ (under_deed 1, bytes 10 15)
    ∷ (under_deed 2, bytes 6 7 ++ bytes 10 15)
    ∷ (under_deed 3, bytes 10 15)
    -- exit, transition, waiting, and none of them
    ∷ (under_place 2, bytes 10 15)
    ∷ (under_place 3, bytes 10 15)
    ∷ (under_place 4, bytes 10 11)
    ∷ (under_place 5, bytes 10 11)
    ∷ []

zero-rows : Agree zeros
unfolding ChartFile
zero-rows = (refl, (refl, (refl, (refl, (refl, (refl, (refl, (refl, (refl, (refl, (refl, (refl, (refl, (refl, (refl, (refl, (refl, (refl, (refl, (refl, (refl, (refl, (refl, (refl, (refl, (refl, (refl, (refl, (refl, (refl, tt))))))))))))))))))))))))))))))

-- ---- 5 to 9

-- a variable that no node reads
abbrev holding : (lowest highest start : ℕ) → List ℕ
holding lo hi z = chart 0 ++ state 0 ++ state 0 ++ freely 1 0 1 ++ variable lo hi z

-- three transitions that leave state 1, by their priorities
abbrev leaving : (p q r : ℕ) → List ℕ
leaving p q r = chart 0 ++ state 0 ++ state 0 ++ freely 1 0 1 ++ freely p 1 1 ++ freely q 1 1 ++ freely r 1 1

-- two guards, nodes g and h
abbrev guarded_twice : (g h : ℕ) → List ℕ → List ℕ
guarded_twice g h nodes = chart 0 ++ state 0 ++ state 0 ++ freely 1 0 1 ++ transition 1 1 1 0 0 0 g ++ transition 2 1 1 0 0 0 h ++ nodes

-- nodes n to n + 2: a truth, which is the last
abbrev truth_from : (n : ℕ) → List ℕ
truth_from n = constant 1 ++ constant 2 ++ binary 17 n (n + 1)

-- nodes 0 to 6: two truths, 2 and 5, and a number, 6; then one more, 7, of these operands
abbrev last : (operator a b c : ℕ) → List ℕ
last operator a b c = truth_from 0 ++ truth_from 3 ++ constant 3 ++ node operator a b c 0

-- truths 2 and 5 alone, then one more, 6
abbrev of_truths : (operator : ℕ) → List ℕ
of_truths operator = truth_from 0 ++ truth_from 3 ++ binary operator 2 5

-- number 0 and truth 3, then one more, 4, of these operands
abbrev of_both : (operator a b : ℕ) → List ℕ
of_both operator a b = constant 1 ++ truth_from 1 ++ binary operator a b

-- a choice, node 5, of truth 2 and numbers 3 and 4; the high byte of its last operand
abbrev choosing : (high : ℕ) → List ℕ
choosing high = truth_from 0 ++ constant 3 ++ constant 4 ++ node 8 2 3 (4 + high) 0

abbrev files : List (ℕ × ℕ)
files =
    -- 5: ends of ranges that are accepted, and one past them
    (refused (edited zero_watch ((103, 31) ∷ [])), 0)
    ∷ (refused (zero_watch ++ action 3 2 2 31 0), 0)
    ∷ (refused (zero_watch ++ action 3 2 2 32 0), 5)
    ∷ (refused (edited zero_watch ((97, 16) ∷ [])), 0)
    ∷ (refused (edited zero_watch ((97, 17) ∷ [])), 5)
    ∷ (refused (waiting 3_600_000), 0)
    ∷ (refused (every_few 3_600_000), 0)
    ∷ (refused (every_few 3_600_001), 5)
    ∷ (refused (every_few 0), 5)
    -- start = highest, start = lowest; negative ones, and each past the other
    ∷ (refused (edited zero_watch ((134, 100) ∷ [])), 0)
    ∷ (refused (edited zero_watch ((134, 156) ∷ (135, 255) ∷ [])), 0)
    ∷ (refused (holding 65526 65535 65533), 0)
    ∷ (refused (holding 65526 65532 65533), 5)
    ∷ (refused (holding 65534 65535 65533), 5)
    ∷ (refused (holding 65526 65535 0), 5)
    ∷ (refused (holding 0 9 65535), 5)
    -- 6: high bytes of initial state, source, target, guard, variable, operands, owner, node
    ∷ (refused (edited zero_watch ((3, 1) ∷ [])), 6)
    ∷ (refused (edited zero_watch ((67, 1) ∷ [])), 6)
    ∷ (refused (edited zero_watch ((69, 1) ∷ [])), 6)
    ∷ (refused (edited zero_watch ((93, 1) ∷ [])), 6)
    ∷ (refused (edited zero_watch ((147, 1) ∷ [])), 6)
    ∷ (refused (edited zero_watch ((179, 1) ∷ [])), 6)
    ∷ (refused (edited zero_watch ((181, 1) ∷ [])), 6)
    ∷ (refused (assigning_node 5 (choosing 256)), 6)
    ∷ (refused (edited zero_watch ((259, 1) ∷ [])), 6)
    ∷ (refused (edited zero_watch ((263, 1) ∷ [])), 6)
    -- owner of an exit action, second and third operand
    ∷ (refused (edited zero_watch ((257, 2) ∷ (258, 3) ∷ [])), 6)
    ∷ (refused (edited zero_watch ((180, 7) ∷ [])), 6)
    ∷ (refused (assigning_node 5 (choosing 2)), 6)
    -- 7: the second chart's initial state is the first's, or leaves by a trigger; an initial state that enters itself
    ∷ (refused (edited raising ((18, 0) ∷ [])), 7)
    ∷ (refused (edited raising ((182, 1) ∷ [])), 7)
    ∷ (refused (edited zero_watch ((68, 0) ∷ [])), 7)
    -- equal priorities past the first two, and apart
    ∷ (refused (leaving 1 2 3), 0)
    ∷ (refused (leaving 1 2 2), 7)
    ∷ (refused (leaving 1 2 1), 7)
    -- 8: what choice, not, and, or take
    ∷ (refused (assigning_node 5 (choosing 0)), 0)
    ∷ (refused (assigning_node 3 (constant 1 ++ constant 2 ++ constant 3 ++ node 8 0 1 2 0)), 8)
    ∷ (refused (assigning_node 7 (last 8 2 5 6)), 8)
    ∷ (refused (assigning_node 7 (last 8 2 6 5)), 8)
    ∷ (refused (guarded_by 3 (truth_from 0 ++ binary 19 2 0)), 0)
    ∷ (refused (guarded_by 1 (constant 1 ++ binary 19 0 0)), 8)
    ∷ (refused (guarded_by 6 (of_truths 20)), 0)
    ∷ (refused (guarded_by 4 (of_both 20 0 3)), 8)
    ∷ (refused (guarded_by 4 (of_both 20 3 0)), 8)
    ∷ (refused (guarded_by 6 (of_truths 21)), 0)
    ∷ (refused (guarded_by 4 (of_both 21 0 3)), 8)
    ∷ (refused (guarded_by 4 (of_both 21 3 0)), 8)
    -- sort of a second operand, of numbers and of relations; a first one of a relation
    ∷ (refused (assigning_node 4 (of_both 3 0 3)), 8)
    ∷ (refused (guarded_by 4 (of_both 16 0 3)), 8)
    ∷ (refused (guarded_by 4 (of_both 16 3 0)), 8)
    -- order of a second operand; a node its own first operand, and its own second
    ∷ (refused (assigning_node 1 (constant 1 ++ binary 3 0 2 ++ constant 2)), 8)
    ∷ (refused (chart 0 ++ state 0 ++ state 0 ++ freely 1 0 1 ++ constant 1 ++ binary 3 1 0), 8)
    ∷ (refused (chart 0 ++ state 0 ++ state 0 ++ freely 1 0 1 ++ constant 1 ++ binary 3 0 1), 8)
    -- used as guard and as operand, as assigned node and as operand, as two guards
    ∷ (refused (guarded_twice 2 3 (truth_from 0 ++ binary 19 2 0)), 8)
    ∷ (refused (assigning_node 2 (constant 1 ++ constant 2 ++ binary 3 0 1) ++ action 3 0 1 0 1), 8)
    ∷ (refused (guarded_twice 2 2 (truth_from 0)), 8)
    ∷ (refused (guarded_twice 2 5 (truth_from 0 ++ truth_from 3)), 0)
    -- 9: 1 ms
    ∷ (refused (waiting 1), 9)
    ∷ (refused (every_few 1), 9)
    ∷ []

file-rows : Agree files
unfolding ChartFile
file-rows = (refl, (refl, (refl, (refl, (refl, (refl, (refl, (refl, (refl, (refl, (refl, (refl, (refl, (refl, (refl, (refl, (refl, (refl, (refl, (refl, (refl, (refl, (refl, (refl, (refl, (refl, (refl, (refl, (refl, (refl, (refl, (refl, (refl, (refl, (refl, (refl, (refl, (refl, (refl, (refl, (refl, (refl, (refl, (refl, (refl, (refl, (refl, (refl, (refl, (refl, (refl, (refl, (refl, (refl, (refl, (refl, (refl, (refl, (refl, tt)))))))))))))))))))))))))))))))))))))))))))))))))))))))))))
