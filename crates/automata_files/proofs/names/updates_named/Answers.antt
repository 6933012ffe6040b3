use Rattle.std.proofs.Common.{rules, tests, refl}
use Rattle.prelude.proofs.Ranges.{all_upto}
use Rattle.automata_records.specs.Names.{update_named}
use Rattle.automata_files.proofs.names.updates_named.Goals as goal

pub returns : goal.returns
returns c =
    let a = c.args in
    all_upto (update_named a.s.now a.shape) a.shape.updates _ _ _ c.all.ensures.ran refl (λ x b q k. search (rules, tests))
