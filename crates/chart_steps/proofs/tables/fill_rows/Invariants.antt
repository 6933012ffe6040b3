use Rattle.chart_steps.proofs.TablesFilled.{Rows, Ended}
use Rattle.chart_steps.proofs.TablesRow.{source_at, priority_at}
use Rattle.chart_steps.proofs.tables.fill_rows.Given as goal

abbrev pub invariant-loop-t : goal.invariant-loop-t
invariant-loop-t l = Rows (source_at l.s l.shape) (priority_at l.s l.shape) l.shape.transitions 128 l.rows l.t × Ended (source_at l.s l.shape) (priority_at l.s l.shape) l.shape.transitions l.rows l.ends l.t
