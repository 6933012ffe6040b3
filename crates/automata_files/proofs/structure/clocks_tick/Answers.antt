use Rattle.std.proofs.Common.{rules, tests, refl}
use mathlib.Core.Path.{sym, ◌∙◌}
use Rattle.prelude.proofs.Ranges.{all_upto}
use Rattle.automata_records.specs.Structure.{clock_ticks}
use Rattle.automata_records.proofs.NamedTests.{clocks-is}
use Rattle.automata_files.proofs.structure.clocks_tick.Goals as goal

pub returns : goal.returns
returns c =
    let a = c.args in
    all_upto (clock_ticks a.s.now a.shape) a.shape.clocks _ _ _ c.all.ensures.ran refl (λ x b q k. search (rules, tests)) ∙ sym (clocks-is a.s.now a.shape c.requires)
