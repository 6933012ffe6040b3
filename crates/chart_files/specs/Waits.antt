-- Refusal 25, one waiting action at a time: its state and its milliseconds. Assumes nothing: these are definitions.
use Rattle.std.specs.Prelude.{Bool, true, cond, ◌&&◌, ◌||◌, List, [], ◌∷◌, ℕ, eqb, get_or, set}

-- where each state has the milliseconds of its first waiting action so far, 0 for none
module _ (first : List ℕ) (x : ℕ × ℕ) where
  abbrev pub fits_wait : Bool
  fits_wait = eqb (get_or first x.0 0) 0 || eqb (get_or first x.0 0) x.1

  abbrev pub note_wait : List ℕ
  note_wait = cond (eqb (get_or first x.0 0) 0) (set first x.0 x.1) first

-- each, one after the other, fits its state's first
unfoldable pub fit_waits : List ℕ → List (ℕ × ℕ) → Bool
fit_waits first [] = true
fit_waits first (x ∷ xs) = fits_wait first x && fit_waits (note_wait first x) xs
