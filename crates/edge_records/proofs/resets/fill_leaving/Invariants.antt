use mathlib.Core.Path.{◌≡◌}
use lib.ListN.{drop}
use Rattle.machines.proofs.Chains.{Chains}
use Rattle.chart_steps.proofs.TablesRow.{source_at}
use Rattle.edge_records.proofs.resets.fill_leaving.Given as goal

abbrev pub invariant-loop-t : goal.invariant-loop-t
invariant-loop-t l = Chains (source_at l.s l.shape) 128 256 l.shape.transitions l.first l.next l.t × (drop l.shape.transitions l.next ≡ drop l.shape.transitions l.initial.next)
