-- What can be tested: triggers of an accepted file. Assumes nothing: these are definitions.
use Rattle.std.specs.Prelude.{◌<◌}
use Rattle.model.specs.Charts.{ticks}
use Rattle.model.specs.ChartSet as C

-- what a trigger must be that can be tested: 32 events, and a tick at least
abbrev pub Holdable : C.Trigger → Type 0
Holdable C.always = Unit
Holdable (C.event e) = e < 32
Holdable (C.after ms) = 0 < ticks ms
Holdable (C.every ms) = 0 < ticks ms
