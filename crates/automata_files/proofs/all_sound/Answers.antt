use Rattle.std.proofs.Common.{◌&&◌, rules, tests, ap, ◌∙◌}
use Rattle.model.specs.ChartFile.{unused_are_zero}
use Rattle.model.specs.AutomataFile.{unused_in_table, table_in_code}
use Rattle.prelude.specs.Lists.{all}
use Rattle.records.specs.Bytes.{records}
use Rattle.record_tests.proofs.Chunks.{all_records}
use Rattle.automata_files.proofs.all_sound.Goals as goal

pub returns : goal.returns
returns c =
    all_records (λ r. unused_are_zero (unused_in_table r) r && table_in_code r) _ _ _ c.all.ensures.ran c.chunks_exact.ensures.size (λ x b q k. search (rules, tests))
    ∙ ap (λ s. all (λ r. unused_are_zero (unused_in_table r) r && table_in_code r) (records s)) c.chunks_exact.ensures.rest
