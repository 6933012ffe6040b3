-- Tallies: counts in places, none of which is to come above a limit. Assumes nothing: these are definitions.
use Rattle.std.specs.Prelude.{Bool, true, cond, ◌&&◌, List, [], ◌∷◌, ℕ, ◌+◌, ltb, get_or, set}

-- one more at place k; a place past the end is none
abbrev pub add_one : List ℕ → ℕ → List ℕ
add_one c k = set c k (get_or c k 0 + 1)

-- of places counted one after the other, none comes above `most`
unfoldable pub none_above : ℕ → List ℕ → List ℕ → Bool
none_above most c [] = true
none_above most c (k ∷ ks) = ltb (get_or c k 0) most && none_above most (add_one c k) ks

-- what they come to, up to the first that would come above
unfoldable pub tally : ℕ → List ℕ → List ℕ → List ℕ
tally most c [] = c
tally most c (k ∷ ks) = cond (ltb (get_or c k 0) most) (tally most (add_one c k) ks) c
