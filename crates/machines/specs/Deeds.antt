-- What can be done: deeds of an accepted file. Assumes nothing: these are definitions.
use Rattle.std.specs.Prelude.{ℕ, ◌<◌}
use Rattle.model.specs.Runs.{Deed, assign, raise}

-- one of so many variables, or an event
abbrev pub Doable : ℕ → Deed → Type 0
Doable variables (assign v n) = v < variables
Doable variables (raise e) = e < 32
