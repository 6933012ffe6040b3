use Rattle.std.proofs.Common.{rules, tests, refl}
use mathlib.Core.Path.{sym, ◌∙◌}
use Rattle.prelude.proofs.Ranges.{all_upto}
use Rattle.automata_records.specs.Structure.{idle_stays}
use Rattle.automata_files.proofs.StructureTests.{idle-is}
use Rattle.automata_files.proofs.structure.idle_edges_stay.Goals as goal

pub returns : goal.returns
returns c =
    let a = c.args in
    all_upto (idle_stays a.s.now a.shape) a.shape.edges _ _ _ c.all.ensures.ran refl (λ x b q k. search (rules, tests)) ∙ sym (idle-is a.s.now a.shape c.requires)
