-- What an accepted file's literals and updates keep to: the numbers in them name things of the file, and events are below 32. Assumes nothing: these are definitions.
use Rattle.std.specs.Prelude.{ℕ, ◌<◌}
use Rattle.model.specs.Runs.{Deed, assign, raise}
use Rattle.model.specs.AutomataTable.{LiteralTrigger, always, event, clock}

-- of so many clocks
abbrev pub LiteralTriggerKnown : ℕ → LiteralTrigger → Type 0
LiteralTriggerKnown clocks always = Unit
LiteralTriggerKnown clocks (event e) = e < 32
LiteralTriggerKnown clocks (clock k) = k < clocks

-- of so many variables and nodes
abbrev pub DeedKnown : ℕ → ℕ → Deed → Type 0
DeedKnown variables nodes (assign v n) = (v < variables) × (n < nodes)
DeedKnown variables nodes (raise e) = e < 32
