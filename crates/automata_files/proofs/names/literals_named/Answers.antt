use Rattle.std.proofs.Common.{rules, tests, refl}
use Rattle.prelude.proofs.Ranges.{all_upto}
use Rattle.automata_records.specs.Names.{literal_named}
use Rattle.automata_files.proofs.names.literals_named.Goals as goal

pub returns : goal.returns
returns c =
    let a = c.args in
    all_upto (literal_named a.s.now a.shape) a.shape.literals _ _ _ c.all.ensures.ran refl (λ x b q k. search (rules, tests))
