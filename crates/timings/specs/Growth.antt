-- A clock's growth by two limits: where it turns, and where it stops; 65,535 is nowhere. Assumes nothing: these are definitions.
use Rattle.std.specs.Prelude.{Bool, cond, ℕ, ◌+◌, min, eqb}
use Rattle.model.specs.Limits.{most_ticks}
use Rattle.model.specs.AutomataTable.{Timing, after, every}
use Rattle.model.specs.Automata.{top}

-- the timing that the code has as a truth
abbrev pub timing_if : Bool → Timing
timing_if b = cond b after every

-- no clock's top is above this
abbrev pub most_top : ℕ
most_top = most_ticks

abbrev pub turn_for : Timing → ℕ → ℕ
turn_for after d = 65535
turn_for every d = top every d

abbrev pub cap_for : Timing → ℕ → ℕ
cap_for after d = top after d
cap_for every d = 65535

abbrev pub grown_to : ℕ → ℕ → ℕ → ℕ
grown_to turn cap x = cond (eqb x turn) 1 (min (x + 1) cap)
