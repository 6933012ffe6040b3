use Rattle.chart_files.proofs.ShapeFramed.{shaped}
use Rattle.chart_files.proofs.shape_of.Goals as goal

pub returns : goal.returns
returns c = shaped _ _ c.frame_of.ensures _ c.in_ok-counts.was
