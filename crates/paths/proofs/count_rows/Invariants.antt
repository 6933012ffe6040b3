use Prim.Native.Nat.{◌-◌}
use lib.ListN.{length}
use Rattle.model.specs.ChartSet.{read_charts}
use Rattle.paths.specs.LedOf.{walk_in}
use Rattle.paths.proofs.AlongFollowed.{Followed}
use Rattle.paths.proofs.count_rows.Given as goal

abbrev pub invariant-loop-e : goal.invariant-loop-e
invariant-loop-e l = Followed (read_charts l.s) l.path l.e-index (walk_in l.shape.charts l.locations l.walk) l.rows
