-- The grammar of a guard's line, read from left to right. A byte past the end counts as 0, which is in no line. Assumes nothing: these are definitions.
use Rattle.std.specs.Prelude.{Bool, not, cond, ◌&&◌, ◌||◌, List, [], ◌∷◌, ℕ, zero, suc, ◌+◌, ◌-◌, ◌*◌, ◌^◌, ltb, leb, eqb, length, drop, pos, neg_ℤ}
use Rattle.std.proofs.Math.Option.{Option, some, none}
use Prim.Native.Char.{code}
use Rattle.prelude.specs.Lists.{case_of, Lists}
use Rattle.records.specs.Bytes.{byte}
use Rattle.records.specs.Refusal.{broken_line, Out, val, fault, ◌>>=◌, ◌>>◌, fault_if}
use Rattle.arithmetic.specs.Operators.{sum, difference, product, quotient, remainder, equal, less, at_most}
use Rattle.guards.specs.Trees.{Binary, arithmetic, comparison, both, either, Tree, constant, variable, negation, binary, choice, binary_level}

-- what was read from the front of the bytes, and the bytes behind it
pub record Read (A : Type 0) : Type 0 where
  pub got : A
  pub rest : List ℕ

abbrev pub read : {A : Type 0} → A → List ℕ → Out (Read A)
read a s = val (record { got = a; rest = s })

-- "A line outside the grammar .. is 22."
abbrev pub outside : {A : Type 0} → Out A
outside = fault broken_line

-- ---- spaces: "A space is the byte 32 alone"; they may stand before a name, an operator, a constant and its minus

unfoldable pub unspaced : List ℕ → List ℕ
unspaced [] = []
unspaced (b ∷ s) = cond (eqb b (code " ")) (unspaced s) (b ∷ s)

-- ---- numbers

abbrev pub is_digit : ℕ → Bool
is_digit b = leb (code "0") b && leb b (code "9")

-- the number that the digits at the front go on to, of one whose digits before them came to n
unfoldable pub digits_after : ℕ → List ℕ → Read ℕ
digits_after n [] = record { got = n; rest = [] }
digits_after n (b ∷ s) = cond (is_digit b) (digits_after (10 * n + (b - code "0")) s) (record { got = n; rest = b ∷ s })

-- at most so much
abbrev pub up_to : ℕ → Read ℕ → Out (Read ℕ)
up_to most n = fault_if (ltb most n.got) broken_line >> val n

-- "decimal"; "numbers have no leading zeros"
abbrev pub numeral : ℕ → List ℕ → Out (Read ℕ)
numeral most s = do
  fault_if (not (is_digit (byte s 0))) broken_line
  fault_if (eqb (byte s 0) (code "0") && is_digit (byte s 1)) broken_line
  up_to most (digits_after 0 s)

-- ---- operators

-- the operator between two operands that bytes a and b begin with, and how many bytes it has
abbrev pub operator_by : ℕ → ℕ → Option (Binary × ℕ)
operator_by a b =
    case_of a
    ((code "*", some (arithmetic product, 1))
    ∷ (code "/", some (arithmetic quotient, 1))
    ∷ (code "%", some (arithmetic remainder, 1))
    ∷ (code "+", some (arithmetic sum, 1))
    ∷ (code "-", some (arithmetic difference, 1))
    ∷ (code "<", cond (eqb b (code "=")) (some (comparison at_most, 2)) (some (comparison less, 1)))
    ∷ (code "=", cond (eqb b (code "=")) (some (comparison equal, 2)) none)
    ∷ (code "&", cond (eqb b (code "&")) (some (both, 2)) none)
    ∷ (code "|", cond (eqb b (code "|")) (some (either, 2)) none)
    ∷ [])
    none

abbrev pub operator_at : List ℕ → Option (Binary × ℕ)
operator_at s = operator_by (byte s 0) (byte s 1)

-- the one where there is no operator, or one that binds looser than level k, else the other
abbrev pub by_operator : {A : Type 0} → Option (Binary × ℕ) → ℕ → A → (Binary → ℕ → A) → A
by_operator none k ends goes_on = ends
by_operator (some x) k ends goes_on = cond (leb (binary_level x.0) k) (goes_on x.0 x.1) ends

-- a mark that must come next
abbrev pub past : ℕ → List ℕ → Out (List ℕ)
past mark s = let r = unspaced s in cond (eqb (byte r 0) mark) (val (drop 1 r)) outside

-- ---- operands that have no operand themselves

-- "Variables are v0 to v63"
abbrev pub read_variable : List ℕ → Out (Read Tree)
read_variable s = numeral 63 s >>= λ n. read (variable n.got) n.rest

-- "constants are decimal with an optional minus", of 32 bits
abbrev pub read_positive : List ℕ → Out (Read Tree)
read_positive s = numeral (2 ^ 31 - 1) s >>= λ n. read (constant (pos n.got)) n.rest

abbrev pub read_negative : List ℕ → Out (Read Tree)
read_negative s = numeral (2 ^ 31) s >>= λ n. read (constant (neg_ℤ (pos n.got))) n.rest

-- ---- the rules, of any depth: each byte of a line lets three of them nest at most

unfoldable mutual
  -- "A choice is a disjunction, or a disjunction, `?`, a choice, `:`, a choice": "to the right and bare between `?` and `:`".
  pub choice_at : ℕ → List ℕ → Out (Read Tree)
  choice_at zero s = outside
  choice_at (suc d) s = do
    t ← binary_at d 6 s
    let r = unspaced t.rest
    cond (eqb (byte r 0) (code "?"))
        (do
          a ← choice_at d (drop 1 r)
          s ← past (code ":") a.rest
          b ← choice_at d s
          read (choice t.got a.got b.got) b.rest)
        (val t)

  -- operators of levels up to k with their operands
  pub binary_at : ℕ → ℕ → List ℕ → Out (Read Tree)
  binary_at zero k s = outside
  binary_at (suc d) k s = do
    t ← operand_at d s
    go_on d k t.got t.rest

  -- "Equal levels group to the left": the tree so far is the next operator's left operand, and its right operand binds tighter.
  pub go_on : ℕ → ℕ → Tree → List ℕ → Out (Read Tree)
  go_on zero k t s = outside
  go_on (suc d) k t s =
      let r = unspaced s in
      by_operator (operator_at r) k (read t s) (λ o n. do
        u ← binary_at d (binary_level o - 1) (drop n r)
        go_on d k (binary o t u.got) u.rest)

  -- "parentheses override"; a minus where an operand is to come is a constant's, "where no operand stands before it"
  pub operand_at : ℕ → List ℕ → Out (Read Tree)
  operand_at zero s = outside
  operand_at (suc d) s =
      let r = unspaced s in
      case_of (byte r 0)
      ((code "(", choice_at d (drop 1 r) >>= λ t. past (code ")") t.rest >>= λ s. read t.got s)
      ∷ (code "!", operand_at d (drop 1 r) >>= λ t. read (negation t.got) t.rest)
      ∷ (code "v", read_variable (drop 1 r))
      ∷ (code "-", read_negative (drop 1 r))
      ∷ [])
      (read_positive r)

-- "a line has 1 to 256 ASCII bytes"; nothing but spaces may stand behind the tree
abbrev pub line_tree : List ℕ → Out Tree
line_tree s = do
  fault_if (eqb (length s) 0 || ltb 256 (length s)) broken_line
  t ← choice_at (3 * length s + 3) s
  fault_if (ltb 0 (length (unspaced t.rest))) broken_line
  val t.got

-- what a proof that computes with these opens
unfoldable pub Grammar : Type 0
unfolding unspaced digits_after choice_at Lists
Grammar = Unit
