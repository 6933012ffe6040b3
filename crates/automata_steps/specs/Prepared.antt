-- A table whose turns are taken. Assumes nothing: these are definitions.
use Rattle.std.specs.Prelude.{List, ℕ}
use Rattle.automata_records.specs.declared.Shape.{Shape}
use Rattle.automata_records.specs.Accepted.{Accepted}
use Rattle.automata_steps.specs.Index.{HasIndex}

-- What is known of a table whose turns are taken: it is accepted, and its index is its own.
pub record Prepared (s : List ℕ) (sh : Shape) (first next : List ℕ) : Type 0 where
  pub accepted : Accepted s sh
  pub has_index : HasIndex s sh first next
