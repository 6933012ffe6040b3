-- A framed chart file by its counts. Assumes nothing: these are definitions.
use Rattle.std.specs.Prelude.{◌≡◌, List, ℕ}
use Rattle.std.proofs.Math.Option.{none}
use Rattle.framing.specs.Framing.{how_many, framing}
use Rattle.model.specs.ChartFile.{chart_limits}
use Rattle.chart_records.specs.declared.Shape.{Shape}

-- the file is framed, and each count is the file's
pub record IsShape (s : List ℕ) (sh : Shape) : Type 0 where
  pub framed : framing 1 chart_limits s ≡ none
  pub charts : sh.charts ≡ how_many 1 s
  pub states : sh.states ≡ how_many 2 s
  pub transitions : sh.transitions ≡ how_many 3 s
  pub variables : sh.variables ≡ how_many 4 s
  pub nodes : sh.nodes ≡ how_many 5 s
  pub actions : sh.actions ≡ how_many 6 s
