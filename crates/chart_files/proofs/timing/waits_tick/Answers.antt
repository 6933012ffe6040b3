use Rattle.std.proofs.Common.{rules, tests, refl}
use mathlib.Core.Path.{sym, ◌∙◌}
use mathlib.Core.Bool.{Bool, not, ◌||◌}
use mathlib.Core.List.{List}
use Prim.Native.Nat.{ℕ}
use lib.Dec.{ltb, eqb}
use Rattle.prelude.proofs.Ranges.{all_upto}
use Rattle.model.specs.Charts.{ticks}
use Rattle.chart_records.specs.declared.Shape.{Shape}
use Rattle.chart_records.specs.Places.{place_at, wait_at}
use Rattle.chart_files.proofs.WaitsFramed.{all-waits}
use Rattle.chart_files.proofs.timing.waits_tick.Goals as goal

abbrev test : List ℕ → Shape → ℕ → Bool
test s sh i = not (eqb (place_at s sh i) 4) || ltb 0 (ticks (wait_at s sh i).1)

pub returns : goal.returns
returns c =
    let a = c.args in
    all_upto (test a.s.now a.shape) a.shape.actions _ _ _ c.all.ensures.ran refl (λ x b q k. search (rules, tests)) ∙ sym (all-waits a.s.now a.shape c.requires (λ x. ltb 0 (ticks x.1)))
