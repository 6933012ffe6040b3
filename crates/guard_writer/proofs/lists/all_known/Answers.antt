use mathlib.Core.Path.{refl}
use Rattle.std.proofs.Common.{rules, tests}
use Rattle.prelude.proofs.Ranges.{all_upto}
use Rattle.expressions.specs.Nodes.{node_at}
use Rattle.guards.specs.Lists.{is_known}
use Rattle.guard_writer.proofs.lists.all_known.Goals as goal

pub returns : goal.returns
returns c =
    let a = c.args in
    all_upto (is_known (node_at a.nodes.now) a.size) a.size _ _ _ c.all.ensures.ran refl (λ x b q k. search (rules, tests))
