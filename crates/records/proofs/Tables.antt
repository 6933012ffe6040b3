-- Tables of examples. Assumes nothing.
use mathlib.Core.Path.{◌≡◌}
use mathlib.Core.List.{List, [], ◌∷◌}

-- each row is what the definitions give and what is right: every row agrees
abbrev pub Agree : {A : Type 0} → List (A × A) → Type 0
Agree [] = Unit
Agree (row ∷ rows) = (row.0 ≡ row.1) × Agree rows
