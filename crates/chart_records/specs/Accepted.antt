-- What a turn may take for granted of a file: it is accepted, and its shape is known. Assumes nothing: these are definitions.
use Rattle.std.specs.Prelude.{◌≡◌, List, ℕ}
use Rattle.std.proofs.Math.Option.{none}
use Rattle.model.specs.ChartFile.{charts_refusal}
use Rattle.chart_records.specs.declared.Shape.{Shape}
use Rattle.chart_records.specs.Shape.{IsShape}

pub record Accepted (s : List ℕ) (sh : Shape) : Type 0 where
  pub shape : IsShape s sh
  pub unrefused : charts_refusal s ≡ none
