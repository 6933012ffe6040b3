use native.Mathlib.Omega.{arith}
use Rattle.lines.proofs.Digits.{length-decimal}
use Rattle.guard_writer.proofs.measures.digits.Goals as goal

pub returns-then-n-lt10 : goal.returns-then-n-lt10
returns-then-n-lt10 c =
    (omega arith, length-decimal 0 c.args.n (omega arith) (omega arith))

pub returns-then-n-lt100 : goal.returns-then-n-lt100
returns-then-n-lt100 c =
    (omega arith, length-decimal 1 c.args.n (omega arith) (omega arith))

pub returns-then-n-lt1000 : goal.returns-then-n-lt1000
returns-then-n-lt1000 c =
    (omega arith, length-decimal 2 c.args.n (omega arith) (omega arith))

pub returns-then-n-lt10000 : goal.returns-then-n-lt10000
returns-then-n-lt10000 c =
    (omega arith, length-decimal 3 c.args.n (omega arith) (omega arith))

pub returns-then-n-lt100000 : goal.returns-then-n-lt100000
returns-then-n-lt100000 c =
    (omega arith, length-decimal 4 c.args.n (omega arith) (omega arith))

pub returns-then-n-lt1000000 : goal.returns-then-n-lt1000000
returns-then-n-lt1000000 c =
    (omega arith, length-decimal 5 c.args.n (omega arith) (omega arith))

pub returns-then-n-lt10000000 : goal.returns-then-n-lt10000000
returns-then-n-lt10000000 c =
    (omega arith, length-decimal 6 c.args.n (omega arith) (omega arith))

pub returns-then-n-lt100000000 : goal.returns-then-n-lt100000000
returns-then-n-lt100000000 c =
    (omega arith, length-decimal 7 c.args.n (omega arith) (omega arith))

pub returns-then-n-lt1000000000 : goal.returns-then-n-lt1000000000
returns-then-n-lt1000000000 c =
    (omega arith, length-decimal 8 c.args.n (omega arith) (omega arith))

pub returns : goal.returns
returns c =
    (omega arith, length-decimal 9 c.args.n (omega arith) (omega arith))
