-- Examples of what nodes come to, from their bytes. Assumes nothing.
use mathlib.Core.Path.{refl}
use mathlib.Core.Bool.{Bool, true, false}
use mathlib.Core.List.{List, [], ◌∷◌, ◌++◌}
use Prim.Native.Nat.{ℕ}
use lib.IntN.{ℤ, pos, negsuc}
use Rattle.records.proofs.Tables.{Agree}
use Rattle.records.specs.Refusal.{Out, val, fault, out_of_range, zero_divisor}
use Rattle.expressions.specs.Nodes.{node_at, Nodes}
use Rattle.expressions.specs.Values.{number, truth, Values}
use Rattle.expressions.proofs.ExampleNodes.{node, constant, read, binary}

-- an operator on two constants, as node 2
abbrev on : (operator a b : ℕ) → List ℕ
on o a b = constant a ++ constant b ++ binary o 0 1

abbrev number_on : (operator a b : ℕ) → Out ℤ
number_on o a b = number (node_at (on o a b)) [] 2

abbrev truth_on : (operator a b : ℕ) → Out Bool
truth_on o a b = truth (node_at (on o a b)) [] 2

-- −2,147,483,648 and 2,147,483,647
abbrev least : ℕ
least = 0x8000_0000

abbrev most : ℕ
most = 0x7fff_ffff

abbrev numbers : List (Out ℤ × Out ℤ)
numbers =
    -- sum, difference, product, at their ends and past them
    (number_on 3 most 0, val (pos 2147483647))
    ∷ (number_on 3 most 1, fault out_of_range)
    ∷ (number_on 3 least 0xffff_ffff, fault out_of_range)
    ∷ (number_on 4 least 0, val (negsuc 2147483647))
    ∷ (number_on 4 least 1, fault out_of_range)
    ∷ (number_on 4 0 least, fault out_of_range)
    ∷ (number_on 5 0x10000 0x8000, fault out_of_range)
    ∷ (number_on 5 0x10000 0xffff_8000, val (negsuc 2147483647))
    -- quotient toward zero, remainder with the dividend's sign
    ∷ (number_on 6 7 0xffff_fffe, val (negsuc 2))
    ∷ (number_on 6 0xffff_fff9 2, val (negsuc 2))
    ∷ (number_on 7 7 0xffff_fffe, val (pos 1))
    ∷ (number_on 7 0xffff_fff9 2, val (negsuc 0))
    -- −2,147,483,648 by −1, and zero divisors
    ∷ (number_on 6 least 0xffff_ffff, fault out_of_range)
    ∷ (number_on 7 least 0xffff_ffff, val (pos 0))
    ∷ (number_on 6 1 0, fault zero_divisor)
    ∷ (number_on 7 1 0, fault zero_divisor)
    -- a variable, one past the last, a node of the other sort, an operand that is not lower
    ∷ (number (node_at (read 1)) (pos 5 ∷ negsuc 2 ∷ []) 0, val (negsuc 2))
    ∷ (number (node_at (read 2)) (pos 5 ∷ negsuc 2 ∷ []) 0, val (pos 0))
    ∷ (number_on 17 1 2, val (pos 0))
    ∷ (number (node_at (constant 3 ++ binary 3 0 1)) [] 1, val (pos 3))
    ∷ []

number-examples : Agree numbers
unfolding Values Nodes
number-examples =
    (refl, (refl, (refl, (refl, (refl, (refl, (refl, (refl, (refl, (refl, (refl, (refl, (refl, (refl, (refl, (refl, (refl, (refl, (refl, (refl, tt))))))))))))))))))))

-- nodes 0 to 2: 1 / 0, which faults by 16; node 3: 1 = 1 / 0; nodes 4 to 6: 1 < 2; nodes 7 to 9: 2 < 1; then one more
abbrev besides : (last : List ℕ) → List ℕ
besides last = on 6 1 0 ++ binary 16 0 2 ++ constant 1 ++ constant 2 ++ binary 17 4 5 ++ constant 2 ++ constant 1 ++ binary 17 7 8 ++ last

abbrev truth_of : (operator a b : ℕ) → Out Bool
truth_of o a b = truth (node_at (besides (binary o a b))) [] 10

abbrev choice_of : (t a b : ℕ) → Out ℤ
choice_of t a b = number (node_at (besides (node 8 t a b 0))) [] 10

abbrev truths : List (Out Bool × Out Bool)
truths =
    -- equal, less, at most
    (truth_on 16 2 2, val true)
    ∷ (truth_on 16 1 2, val false)
    ∷ (truth_on 16 2 1, val false)
    ∷ (truth_on 17 1 2, val true)
    ∷ (truth_on 17 2 2, val false)
    ∷ (truth_on 17 0xffff_ffff 0, val true)
    ∷ (truth_on 18 2 2, val true)
    ∷ (truth_on 18 2 1, val false)
    -- not; and, or: the first operand that decides ends it, the other faults
    ∷ (truth_of 19 6 0, val false)
    ∷ (truth_of 19 3 0, fault zero_divisor)
    ∷ (truth_of 20 9 3, val false)
    ∷ (truth_of 20 6 3, fault zero_divisor)
    ∷ (truth_of 20 3 9, fault zero_divisor)
    ∷ (truth_of 21 6 3, val true)
    ∷ (truth_of 21 9 3, fault zero_divisor)
    ∷ (truth_of 21 3 6, fault zero_divisor)
    ∷ (truth_of 20 6 6, val true)
    ∷ (truth_of 21 9 9, val false)
    ∷ []

truth-examples : Agree truths
unfolding Values Nodes
truth-examples = (refl, (refl, (refl, (refl, (refl, (refl, (refl, (refl, (refl, (refl, (refl, (refl, (refl, (refl, (refl, (refl, (refl, (refl, tt))))))))))))))))))

-- of a choice only the truth and the number picked; left to right, the first fault
abbrev choices : List (Out ℤ × Out ℤ)
choices =
    (choice_of 6 4 2, val (pos 1))
    ∷ (choice_of 9 2 5, val (pos 2))
    ∷ (choice_of 6 2 4, fault zero_divisor)
    ∷ (choice_of 3 4 5, fault zero_divisor)
    -- (1 / 0) + (2,147,483,647 + 1) is 16, the other way round 15
    ∷ (number (node_at (on 6 1 0 ++ constant most ++ constant 1 ++ binary 3 3 4 ++ binary 3 2 5)) [] 6, fault zero_divisor)
    ∷ (number (node_at (on 6 1 0 ++ constant most ++ constant 1 ++ binary 3 3 4 ++ binary 3 5 2)) [] 6, fault out_of_range)
    ∷ []

choice-examples : Agree choices
unfolding Values Nodes
choice-examples = (refl, (refl, (refl, (refl, (refl, (refl, tt))))))
