use mathlib.Core.Path.{◌≡◌}
use lib.ListN.{drop}
use Rattle.model.specs.Limits.{most_actions}
use Rattle.machines.proofs.Chains.{Chains}
use Rattle.chart_steps.specs.Tables.{key_at, action_keys}
use Rattle.chart_steps.proofs.tables.fill_actions.Given as goal

abbrev pub invariant-loop-a : goal.invariant-loop-a
invariant-loop-a l = Chains (key_at l.s l.shape) action_keys most_actions l.shape.actions l.first l.next l.a × (drop l.shape.actions l.next ≡ drop l.shape.actions l.initial.next)
