-- A path step by step: whether all its steps fit, where it leads, and the rows of its steps. The model's `led_back` says the same at one go. Assumes nothing:
-- these are definitions.
use Rattle.std.specs.Prelude.{Bool, true, ◌&&◌, List, [], ◌∷◌, ◌++◌, ℕ}
use Rattle.model.specs.ChartSet.{ChartSet}
use Rattle.model.specs.PathBack.{Walk, Row, step_fits, walked, step_rows}

module _ (cs : ChartSet) where
  unfoldable pub all_fit : List ℕ → Walk → Bool
  all_fit [] w = true
  all_fit (e ∷ es) w = step_fits cs e w && all_fit es (walked cs e w)

  unfoldable pub walk_along : List ℕ → Walk → Walk
  walk_along [] w = w
  walk_along (e ∷ es) w = walk_along es (walked cs e w)

  unfoldable pub rows_along : List ℕ → Walk → List Row
  rows_along [] w = []
  rows_along (e ∷ es) w = step_rows cs e w ++ rows_along es (walked cs e w)
