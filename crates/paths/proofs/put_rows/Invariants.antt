use mathlib.Core.Path.{◌≡◌}
use Prim.Native.Nat.{◌-◌}
use lib.ListN.{length, take}
use Rattle.model.specs.ChartSet.{read_charts}
use Rattle.model.specs.PathBack.{walk_start}
use Rattle.paths.specs.Along.{walk_along}
use Rattle.paths.proofs.AlongFollowed.{Followed, written}
use Rattle.paths.proofs.put_rows.Given as goal

abbrev pub invariant-loop-e : goal.invariant-loop-e
invariant-loop-e l =
    Followed (read_charts l.fn.s) l.path l.e-index (walk_along (read_charts l.fn.s) (take l.e-index l.path) (walk_start (read_charts l.fn.s))) l.k
    × (l.position ≡ (walk_along (read_charts l.fn.s) (take l.e-index l.path) (walk_start (read_charts l.fn.s))).position)
    × (l.cycles ≡ (walk_along (read_charts l.fn.s) (take l.e-index l.path) (walk_start (read_charts l.fn.s))).cycles)
    × (l.rows ≡ written (read_charts l.fn.s) l.path l.initial.rows l.e-index)
