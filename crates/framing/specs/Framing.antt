-- Refusals 1 to 3, over the table of a format's kinds and limits: charts have kinds 1 to 6, automata 33 to 41. Assumes nothing: these are definitions.
use Rattle.std.specs.Prelude.{Bool, not, ◌&&◌, ◌||◌, List, [], ◌∷◌, map, ℕ, ◌+◌, ◌%◌, leb, ltb, eqb, length, take}
use Rattle.std.proofs.Math.Option.{Option}
use Rattle.prelude.specs.Lists.{all, any, count, map_from, upto, ascending}
use Rattle.records.specs.Refusal.{Refusal, odd_length, unordered_kinds, wrong_amounts, lowest}
use Rattle.records.specs.Bytes.{records, kind, Bytes}

-- A format: its first kind, which a file must have, and the most of it and of each kind that follows; nine kinds at most.
module _ (first : ℕ) (most : List ℕ) where
  abbrev pub limits : List ℕ
  limits = take 9 most

  abbrev pub known : ℕ → Bool
  known k = leb first k && ltb k (first + length limits)

-- how many records of a kind, and how many stand before that kind's first
abbrev pub how_many : ℕ → List ℕ → ℕ
how_many k s = count (λ r. eqb (kind r) k) (records s)

abbrev pub first_of : ℕ → List ℕ → ℕ
first_of k s = count (λ r. ltb (kind r) k) (records s)

module _ (first : ℕ) (most : List ℕ) (s : List ℕ) where
  abbrev pub kinds : List ℕ
  kinds = map kind (records s)

  -- 1 "length no multiple of 16"
  abbrev pub has_odd_length : Bool
  has_odd_length = not (eqb (length s % 16) 0)

  -- 2 "kind unknown or descending"
  abbrev pub has_unordered_kinds : Bool
  has_unordered_kinds = not (all (known first most) kinds) || not (ascending kinds)

  -- 3 "no chart, or too many of a kind"
  abbrev pub has_wrong_amounts : Bool
  has_wrong_amounts = eqb (how_many first s) 0 || any (λ over. over) (map_from first (λ k m. ltb m (how_many k s)) (limits first most))

  abbrev pub framing_tests : List (Refusal × Bool)
  framing_tests = (odd_length, has_odd_length) ∷ (unordered_kinds, has_unordered_kinds) ∷ (wrong_amounts, has_wrong_amounts) ∷ []

  abbrev pub framing : Option Refusal
  framing = lowest framing_tests

  -- of the nine kinds from the first on: how many records, and the number of the first record
  abbrev pub counts : List ℕ
  counts = map (λ j. how_many (first + j) s) (upto 9)

  abbrev pub firsts : List ℕ
  firsts = map (λ j. first_of (first + j) s) (upto 9)

unfoldable pub Framing : Type 0
unfolding lowest Bytes
Framing = Unit
