use Rattle.std.proofs.Common.{rules, tests, refl}
use Rattle.prelude.proofs.Ranges.{all_upto}
use Rattle.automata_records.specs.Structure.{edge_inside}
use Rattle.automata_files.proofs.structure.edges_inside.Goals as goal

pub returns : goal.returns
returns c =
    let a = c.args in
    all_upto (edge_inside a.s.now a.shape) a.shape.edges _ _ _ c.all.ensures.ran refl (λ x b q k. search (rules, tests))
