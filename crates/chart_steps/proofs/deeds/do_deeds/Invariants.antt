use Prim.Native.Nat.{◌+◌, ◌-◌, ◌*◌, ◌≤◌}
use Rattle.machines.specs.Chains.{with_key, remaining}
use Rattle.machines.proofs.Chains.{At}
use Rattle.chart_steps.specs.Tables.{key_at}
use Rattle.chart_steps.proofs.TablesDeeds.{key_after, Left}
use Rattle.chart_steps.proofs.deeds.do_deeds.Given as goal

abbrev pub invariant-loop-a : goal.invariant-loop-a
invariant-loop-a l = (l.present ≤ 4_294_967_295) × (l.k ≤ 2)
    × At (with_key (key_at l.s l.shape) (key_after l.s l.shape l.leaving l.crossing l.entering l.k)) l.shape.actions l.a
    × Left l.s l.shape l.leaving l.crossing l.entering l.initial.vars l.events l.k (remaining (with_key (key_at l.s l.shape) (key_after l.s l.shape l.leaving l.crossing l.entering l.k)) l.shape.actions l.a) l.vars l.present

abbrev pub decreases-loop-a : goal.decreases-loop-a
decreases-loop-a l = (2 - l.k) * 65537 + (65536 - l.a)
