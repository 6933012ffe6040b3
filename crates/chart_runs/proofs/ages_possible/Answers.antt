use mathlib.Core.Path.{refl}
use borrow.Author.Rules.{rules}
use lib.Dec.{leb}
use lib.ListN.{get_or}
use Rattle.std.proofs.Common.{tests}
use Rattle.prelude.proofs.Ranges.{all_upto}
use Rattle.chart_runs.proofs.ages_possible.Goals as goal

pub returns : goal.returns
returns c = all_upto (λ k. leb (get_or c.args.ages k 0) c.args.cycles) _ _ _ _ c.all.ensures.ran refl (λ x b q k. search (rules, tests))
