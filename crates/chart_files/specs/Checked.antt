-- What the reader answers, in the words of the refusal table and of framing. Assumes nothing: these are definitions.
use Rattle.std.specs.Prelude.{◌≡◌, List, ℕ, Result, Ok}
use Rattle.std.proofs.Math.Option.{Option}
use Rattle.records.specs.Refusal as R
use Rattle.records.specs.declared.refusals.Refusal.{Refusal}
use Rattle.records.specs.RefusalOf as Table
use Rattle.framing.specs.Framing.{framing}
use Rattle.model.specs.ChartFile.{chart_limits, charts_refusal}
use Rattle.chart_records.specs.declared.Shape.{Shape}
use Rattle.chart_records.specs.Shape.{IsShape}

abbrev pub refusal_of : Result Shape Refusal → Option R.Refusal
refusal_of r = Table.error_of Table.refusal_of r

-- Refused as framing refuses, and what is accepted has the shape that is answered.
pub record IsShaped (s : List ℕ) (r : Result Shape Refusal) : Type 0 where
  pub answer : refusal_of r ≡ framing 1 chart_limits s
  pub shape : (sh : Shape) → r ≡ Ok sh → IsShape s sh

-- Refused as the model refuses, and what is accepted has the shape that is answered.
pub record IsChecked (s : List ℕ) (r : Result Shape Refusal) : Type 0 where
  pub answer : refusal_of r ≡ charts_refusal s
  pub shape : (sh : Shape) → r ≡ Ok sh → IsShape s sh
