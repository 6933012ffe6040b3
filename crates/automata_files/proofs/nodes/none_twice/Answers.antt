use Rattle.std.proofs.Common.{rules, tests, refl}
use lib.Dec.{leb}
use lib.ListN.{get_or}
use Rattle.prelude.proofs.Ranges.{all_upto}
use Rattle.automata_files.proofs.nodes.none_twice.Goals as goal

pub returns : goal.returns
returns c =
    let a = c.args in
    all_upto (λ k. leb (get_or a.uses.now k 0) 1) a.size _ _ _ c.all.ensures.ran refl (λ x b q k. search (rules, tests))
