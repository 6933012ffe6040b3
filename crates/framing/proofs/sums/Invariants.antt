use mathlib.Core.Path.{◌≡◌}
use Prim.Native.Nat.{ℕ, ◌<◌}
use lib.ListN.{length, get_or}
use Rattle.framing.specs.Frame.{sum_to}
use Rattle.framing.proofs.sums.Given as goal

abbrev pub invariant-loop-k : goal.invariant-loop-k
invariant-loop-k l = (length l.firsts ≡ 9) × (l.sum ≡ sum_to l.k l.counts) × ((j : ℕ) → j < l.k → get_or l.firsts j 0 ≡ sum_to j l.counts)
