-- What the reader answers, in the words of the refusal table and of framing. Assumes nothing: these are definitions.
use Rattle.std.specs.Prelude.{◌≡◌, List, ℕ, Result, Ok}
use Rattle.std.proofs.Math.Option.{Option, some, none}
use Rattle.records.specs.Refusal as R
use Rattle.records.specs.declared.refusals.Refusal.{Refusal}
use Rattle.records.specs.RefusalOf as Table
use Rattle.framing.specs.Framing.{framing}
use Rattle.model.specs.AutomataFile.{automata_limits, automata_refusal}
use Rattle.automata_records.specs.declared.Shape.{Shape}
use Rattle.automata_records.specs.Shape.{IsShape}

-- "1 to 6 read for kinds 33 to 41" are all refusal 11
abbrev pub as_table : Option R.Refusal → Option R.Refusal
as_table none = none
as_table (some w) = some R.bad_table

abbrev pub refusal_of : Result Shape Refusal → Option R.Refusal
refusal_of r = Table.error_of Table.refusal_of r

-- Refused where framing refuses, and what is accepted has the shape that is answered.
pub record IsShaped (s : List ℕ) (r : Result Shape Refusal) : Type 0 where
  pub answer : refusal_of r ≡ as_table (framing 33 automata_limits s)
  pub shape : (sh : Shape) → r ≡ Ok sh → IsShape s sh

-- Refused as the model refuses, and what is accepted has the shape that is answered.
pub record IsChecked (s : List ℕ) (r : Result Shape Refusal) : Type 0 where
  pub answer : refusal_of r ≡ automata_refusal s
  pub shape : (sh : Shape) → r ≡ Ok sh → IsShape s sh
