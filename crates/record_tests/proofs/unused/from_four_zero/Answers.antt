use native.Mathlib.Omega.{arith}
use Rattle.record_tests.proofs.UnusedWords.{joined}
use Rattle.record_tests.proofs.unused.from_four_zero.Goals as goal

pub returns : goal.returns
returns c =
    joined c.args.r.now 4 7 15 (omega arith) (omega arith) c.four_zero.ensures c.from_eight_zero.ensures
