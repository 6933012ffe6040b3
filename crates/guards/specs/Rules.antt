-- The grammar of a guard's line as rules: which bytes are which tree. Nothing here is computed: proofs/ shows that the reader's definition finds exactly the
-- trees of these rules. Assumes nothing: these are definitions.
use Rattle.std.specs.Prelude.{List, [], ◌∷◌, ◌++◌, ℕ, ◌-◌, ◌^◌, ◌≤◌, eqb, length, pos, neg_ℤ}
use Prim.Native.Char.{code}
use Rattle.prelude.specs.Lists.{count}
use Rattle.model.specs.Replay.{decimal}
use Rattle.guards.specs.Trees.{Binary, Tree, constant, variable, negation, binary, choice, binary_level}
use Rattle.guards.specs.Texts.{sign}

-- the bytes are the tree, and its operators outside parentheses have levels up to the number
pub data Derives : ℕ → Tree → List ℕ → Type 0 where
  -- "Variables are v0 to v63"
  named : {v : ℕ} → v ≤ 63 → Derives 0 (variable v) (code "v" ∷ decimal v)
  -- "constants are decimal with an optional minus", of 32 bits
  positive : {n : ℕ} → n ≤ 2 ^ 31 - 1 → Derives 0 (constant (pos n)) (decimal n)
  negative : {n : ℕ} → n ≤ 2 ^ 31 → Derives 0 (constant (neg_ℤ (pos n))) (code "-" ∷ decimal n)
  -- "parentheses override"
  enclosed : {t : Tree} {s : List ℕ} → Derives 7 t s → Derives 0 t (code "(" ∷ s ++ (code ")" ∷ []))
  negated : {t : Tree} {s : List ℕ} → Derives 1 t s → Derives 1 (negation t) (code "!" ∷ s)
  -- "Equal levels group to the left"
  joined :
      {o : Binary} {a b : Tree} {s u : List ℕ}
      → Derives (binary_level o) a s
      → Derives (binary_level o - 1) b u
      → Derives (binary_level o) (binary o a b) (s ++ sign o ++ u)
  -- "the choice to the right and bare between `?` and `:`"
  chosen :
      {t a b : Tree} {s u w : List ℕ}
      → Derives 6 t s
      → Derives 7 a u
      → Derives 7 b w
      → Derives 7 (choice t a b) (s ++ (code "?" ∷ u) ++ (code ":" ∷ w))
  -- what binds tighter stands wherever looser operators may
  tighter : {j k : ℕ} {t : Tree} {s : List ℕ} → j ≤ k → Derives j t s → Derives k t s
  -- "Spaces may stand anywhere but inside a name, operator or constant with its minus"
  before : {k : ℕ} {t : Tree} {s : List ℕ} → Derives k t s → Derives k t (code " " ∷ s)
  behind : {k : ℕ} {t : Tree} {s : List ℕ} → Derives k t s → Derives k t (s ++ (code " " ∷ []))

-- "a line has 1 to 256 ASCII bytes"
pub record Line (t : Tree) (s : List ℕ) : Type 0 where
  pub tree : Derives 7 t s
  pub filled : 1 ≤ length s
  pub short : length s ≤ 256

-- how many parentheses are opened
abbrev pub opens : List ℕ → ℕ
opens s = count (λ b. eqb b (code "(")) s
