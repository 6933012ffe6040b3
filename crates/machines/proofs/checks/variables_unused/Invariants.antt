use mathlib.Core.Path.{◌≡◌}
use lib.IntN.{pos}
use Rattle.arithmetic.specs.Arithmetic.{is_zero}
use lib.ListN.{length}
use Rattle.prelude.proofs.Behind.{BehindBy}
use Rattle.machines.proofs.checks.variables_unused.Given as goal

abbrev pub invariant-loop-k : goal.invariant-loop-k
invariant-loop-k l = (length l.variables ≡ 64) × BehindBy is_zero (pos 0) l.count l.variables l.unused l.k
