-- Chains in tables: of each key its first thing, of each thing the next of its key; 65,535 stands for none. Assumes nothing: these are definitions.
use Rattle.std.specs.Prelude.{◌≡◌, Bool, cond, List, [], ◌∷◌, ℕ, ◌+◌, ◌-◌, ◌<◌, eqb, get_or}
use Rattle.prelude.specs.Lists.{keep, from}

abbrev pub head_or : ℕ → List ℕ → ℕ
head_or d [] = d
head_or d (x ∷ xs) = x

-- the first of n numbers from k on that passes the test
abbrev pub earliest : (ℕ → Bool) → ℕ → ℕ → ℕ
earliest p k n = head_or 65535 (keep p (from k n))

-- what a place of a table names
abbrev pub named : ℕ → List ℕ
named t = cond (eqb t 65535) [] (t ∷ [])

-- a number that a table names, and those behind it, of the numbers below e
abbrev pub remaining : (ℕ → Bool) → ℕ → ℕ → List ℕ
remaining p e a = cond (eqb a 65535) [] (a ∷ keep p (from (a + 1) (e - (a + 1))))

-- the things of a key
abbrev pub with_key : (ℕ → ℕ) → ℕ → ℕ → Bool
with_key key k a = eqb (key a) k

-- of so many keys and things; a thing whose key is not one of them is in no chain
pub record Chained (key : ℕ → ℕ) (keys size : ℕ) (first next : List ℕ) : Type 0 where
  pub first_of : (k : ℕ) → k < keys → get_or first k 0 ≡ earliest (with_key key k) 0 size
  pub next_of : (a : ℕ) → a < size → key a < keys → get_or next a 0 ≡ earliest (with_key key (key a)) (a + 1) (size - (a + 1))
