use Rattle.chart_records.specs.Places.{wait_at}
use Rattle.chart_files.proofs.WaitsAlike.{Fitted}
use Rattle.chart_files.proofs.WaitsFramed.{waiting_at}
use Rattle.chart_files.proofs.waiting.waits_alike.Given as goal

abbrev pub invariant-loop-i : goal.invariant-loop-i
invariant-loop-i l = Fitted (wait_at l.s l.shape) (waiting_at l.s l.shape) l.shape.actions l.first l.i
