-- The chart of a state. Assumes nothing: these are definitions.
use Rattle.std.specs.Prelude.{List, ℕ, get_or}

-- the chart that a state is in, and the automaton that a location is in, by the list of all
abbrev pub home : List ℕ → ℕ → ℕ
home homes s = get_or homes s 0
