use borrow.Author.Rules.{rules}
use Rattle.std.proofs.Common.{tests}
use Rattle.machines.proofs.Rests.{all_behind}
use Rattle.machines.proofs.checks.unused.Goals as goal

pub returns : goal.returns
returns g c = all_behind (λ x. g.T.PartialEq.eq x c.args.empty) c.args.used c.args.places.now _ _ _ c.all.ensures.ran (search rules) (search rules) (λ x b q k. search (rules, tests))
