-- "Values": what a node comes to, as a number and as a truth. Assumes nothing: these are definitions.
use Rattle.std.specs.Prelude.{Bool, true, false, cond, List, ℕ, zero, suc, ltb, get_or, ℤ, pos}
use Rattle.records.specs.Refusal.{Out, val, ◌>>=◌, choose}
use Rattle.arithmetic.specs.Arithmetic.{compute, compare}
use Rattle.expressions.specs.Nodes.{Node, constant, variable, arithmetic, choice, comparison, negation, both, either, unknown}

-- What a node comes to, given what its operands come to. "Operands go left to right; the first fault ends it." "The truth of a choice's first
-- operand picks the number worked out; the other is not touched. And, or stop at the first operand that decides." A node of the other sort comes to
-- 0, or false, which no accepted file meets.
module _ (number : ℕ → Out ℤ) (truth : ℕ → Out Bool) (vars : List ℤ) where
  abbrev pub number_by : Node → Out ℤ
  number_by (constant z) = val z
  number_by (variable v) = val (get_or vars v (pos 0))
  number_by (arithmetic o a b) = do
    x ← number a
    y ← number b
    compute o x y
  number_by (choice t a b) = choose (truth t) (number a) (number b)
  number_by (comparison o a b) = val (pos 0)
  number_by (negation a) = val (pos 0)
  number_by (both a b) = val (pos 0)
  number_by (either a b) = val (pos 0)
  number_by unknown = val (pos 0)

  abbrev pub truth_by : Node → Out Bool
  truth_by (constant z) = val false
  truth_by (variable v) = val false
  truth_by (arithmetic o a b) = val false
  truth_by (choice t a b) = val false
  truth_by (comparison o a b) = do
    x ← number a
    y ← number b
    val (compare o x y)
  truth_by (negation a) = choose (truth a) (val false) (val true)
  truth_by (both a b) = choose (truth a) (truth b) (val false)
  truth_by (either a b) = choose (truth a) (val true) (truth b)
  truth_by unknown = val false

-- Operands are lower than their node; one that is not comes to 0, or false, which no accepted file meets. So a depth above the node's number is
-- enough, whatever it is.
module _ (node : ℕ → Node) (vars : List ℤ) where
  unfoldable mutual
    pub number_at : ℕ → ℕ → Out ℤ
    number_at zero n = val (pos 0)
    number_at (suc d) n = number_by (λ a. cond (ltb a n) (number_at d a) (val (pos 0))) (λ a. cond (ltb a n) (truth_at d a) (val false)) vars (node n)

    pub truth_at : ℕ → ℕ → Out Bool
    truth_at zero n = val false
    truth_at (suc d) n = truth_by (λ a. cond (ltb a n) (number_at d a) (val (pos 0))) (λ a. cond (ltb a n) (truth_at d a) (val false)) vars (node n)

  -- node n as a number, and as a truth
  abbrev pub number : ℕ → Out ℤ
  number n = number_at (suc n) n

  abbrev pub truth : ℕ → Out Bool
  truth n = truth_at (suc n) n

unfoldable pub Values : Type 0
unfolding number_at
Values = Unit
