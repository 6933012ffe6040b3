use Rattle.std.proofs.Common.{rules, tests, refl}
use Rattle.prelude.proofs.Ranges.{all_upto}
use Rattle.automata_records.specs.Structure.{initial_inside}
use Rattle.automata_files.proofs.structure.initials_inside.Goals as goal

pub returns : goal.returns
returns c =
    let a = c.args in
    all_upto (initial_inside a.s.now a.shape) a.shape.automata _ _ _ c.all.ensures.ran refl (λ x b q k. search (rules, tests))
