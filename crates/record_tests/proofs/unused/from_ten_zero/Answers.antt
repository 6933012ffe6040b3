use native.Mathlib.Omega.{arith}
use Rattle.record_tests.proofs.UnusedWords.{joined}
use Rattle.record_tests.proofs.unused.from_ten_zero.Goals as goal

pub returns : goal.returns
returns c =
    joined c.args.r.now 10 11 15 (omega arith) (omega arith) c.two_zero.ensures c.four_zero.ensures
