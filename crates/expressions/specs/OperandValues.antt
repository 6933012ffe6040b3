-- Of the code: what a function that works out one operator is told of its operands. Assumes nothing: these are definitions.
use Rattle.std.specs.Prelude.{Bool, true, false, cond, List, ℕ, ltb, ℤ, pos}
use Rattle.records.specs.Refusal.{Out, val, ◌>>=◌, choose}
use Rattle.expressions.specs.Nodes.{Node}
use Rattle.arithmetic.specs.Operators.{Arithmetic, Comparison}
use Rattle.expressions.specs.Values.{number, truth}
use Rattle.arithmetic.specs.Arithmetic.{compute, compare}

-- And, or: the first that is the truth that decides, false or true, else the second.
abbrev pub decide : Bool → Out Bool → Out Bool → Out Bool
decide true x y = choose x (val true) y
decide false x y = choose x y (val false)

module _ (node : ℕ → Node) (vars : List ℤ) where
  -- operand a of node n, as a number, and as a truth
  abbrev pub operand_number : ℕ → ℕ → Out ℤ
  operand_number n a = cond (ltb a n) (number node vars a) (val (pos 0))

  abbrev pub operand_truth : ℕ → ℕ → Out Bool
  operand_truth n a = cond (ltb a n) (truth node vars a) (val false)

  -- operands a and b of node n, left to right, under an operator, and under a relation
  abbrev pub compute_operands : Arithmetic → ℕ → ℕ → ℕ → Out ℤ
  compute_operands o n a b = do
    x ← operand_number n a
    y ← operand_number n b
    compute o x y

  abbrev pub compare_operands : Comparison → ℕ → ℕ → ℕ → Out Bool
  compare_operands o n a b = do
    x ← operand_number n a
    y ← operand_number n b
    val (compare o x y)
