-- What a turn may take for granted of a file: it is accepted, and its shape is known. Assumes nothing: these are definitions.
use Rattle.std.specs.Prelude.{◌≡◌, List, ℕ, ◌+◌, ◌*◌, ◌≤◌, length}
use Rattle.std.proofs.Math.Option.{none}
use Rattle.model.specs.Limits.{table_records}
use Rattle.model.specs.AutomataFile.{automata_refusal}
use Rattle.automata_records.specs.declared.Shape.{Shape}
use Rattle.automata_records.specs.Shape.{IsShape}
use Rattle.automata_records.specs.Places.{first_reset}

pub record Accepted (s : List ℕ) (sh : Shape) : Type 0 where
  pub shape : IsShape s sh
  pub unrefused : automata_refusal s ≡ none

-- record n lies in the file
abbrev pub InFile : List ℕ → ℕ → Type 0
InFile s n = 16 * n + 16 ≤ length s

-- no more records than the longest table has
abbrev pub FewRecords : Shape → Type 0
FewRecords sh = first_reset sh + sh.resets ≤ table_records
