-- By the `requires`, the count is small.
use Rattle.std.proofs.Common.{◌<◌, ◌^◌, ap, arith, rules}
use Rattle.answers.specs.Answers.{cycles_of}
use Rattle.answers.proofs.count_code.Goals as goal

pub overflow_cast-result : goal.overflow_cast-result
overflow_cast-result c =
    let few = c.requires c.in-Ok.n (ap cycles_of c.in-Ok.is) in
    let small : c.in-Ok.n < 2 ^ 31 = omega (arith, few) in
    search (rules, small)
