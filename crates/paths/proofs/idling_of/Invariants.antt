use Prim.Native.Nat.{◌-◌}
use Rattle.paths.proofs.LedOfIdling.{Idles}
use Rattle.paths.proofs.idling_of.Given as goal

abbrev pub invariant-loop-state : goal.invariant-loop-state
invariant-loop-state l = Idles l.s l.shape l.state l.count l.states
