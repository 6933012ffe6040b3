-- Chart files that are longer than any set, which are read in parts. Assumes nothing: these are definitions.
use Rattle.std.specs.Prelude.{Option, Some, None, option_and_then, cond, ◌||◌, List, [], ◌∷◌, map, ℕ, ◌%◌, ltb, eqb}
use Rattle.records.specs.Refusal.{Refusal, odd_length, unordered_kinds, wrong_amounts}
use Rattle.records.specs.Bytes.{records, kind}

-- the last of kinds after one that came before them; none where one is unknown or descends
unfoldable pub last_kind : ℕ → List ℕ → Option ℕ
last_kind before [] = Some before
last_kind before (k ∷ ks) = cond (ltb k before || ltb 6 k) None (last_kind k ks)

-- of the whole records of a part, after the parts before it
abbrev pub last_kind_in : List ℕ → Option ℕ → Option ℕ
last_kind_in s before = option_and_then (λ k. last_kind k (map kind (records s))) before

-- by the length of the last part and the last kind of all; the parts before are full of whole records, more than a set may have
abbrev pub long_refusal : ℕ → Option ℕ → Refusal
long_refusal size None = cond (eqb (size % 16) 0) unordered_kinds odd_length
long_refusal size (Some last) = cond (eqb (size % 16) 0) wrong_amounts odd_length
