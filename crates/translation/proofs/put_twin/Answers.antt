use mathlib.Core.Path.{refl}
use Prim.Native.Nat.{◌^◌}
use native.Mathlib.Omega.{arith}
use Rattle.model.specs.ChartSet.{read_charts}
use Rattle.model.specs.Translation.{twin}
use Rattle.twin_records.proofs.TextsWritten.{puts-as, puts_then}
use Rattle.translation.proofs.TextsFile.{file-text}
use Rattle.translation.proofs.put_twin.Goals as goal

pub fill_clocks-count-requires : goal.fill_clocks-count-requires
fill_clocks-count-requires c =
    (c.requires.shape, refl)

pub fill_waiting-requires : goal.fill_waiting-requires
fill_waiting-requires c =
    (c.requires, c.fill_tables.ensures.has_actions.first_of, c.fill_clocks-count.ensures.0, refl)

pub put_places-tests_at-requires : goal.put_places-tests_at-requires
put_places-tests_at-requires c =
    (c.requires, c.fill_waiting.ensures, omega arith)

pub put_tests-effects_at-requires : goal.put_tests-effects_at-requires
put_tests-effects_at-requires c =
    (c.fill_tables.ensures, c.fill_clocks-count.ensures.1, c.fill_waiting.ensures, omega (arith, c.put_places-tests_at.ensures.near))

pub put_effects-requires : goal.put_effects-requires
put_effects-requires c =
    (c.fill_tables.ensures, c.fill_clocks-count.ensures.1, c.fill_waiting.ensures, omega (arith, c.put_places-tests_at.ensures.near, c.put_tests-effects_at.ensures.near))

pub returns : goal.returns
returns c =
    puts-as _ (file-text (twin (read_charts c.args.s.now)))
    (puts_then (2 ^ 50) (omega arith) (puts_then (2 ^ 44) (omega arith) c.put_places-tests_at.ensures c.put_tests-effects_at.ensures) c.put_effects.ensures)
