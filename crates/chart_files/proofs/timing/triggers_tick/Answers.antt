use Rattle.std.proofs.Common.{rules, tests, refl}
use mathlib.Core.Path.{◌≡◌, sym, ap, ◌∙◌}
use mathlib.Core.Bool.{Bool}
use mathlib.Core.List.{List}
use Prim.Native.Nat.{ℕ}
use Rattle.prelude.specs.Lists.{all, upto}
use Rattle.prelude.proofs.Ranges.{all_upto}
use Rattle.model.specs.ChartSet.{read_charts}
use Rattle.model.specs.ChartFile as F
use Rattle.chart_records.specs.declared.Shape.{Shape}
use Rattle.chart_records.specs.Shape.{IsShape}
use Rattle.chart_records.specs.Places.{transition_at}
use Rattle.prelude.proofs.Maps.{all_map}
use Rattle.chart_records.proofs.PlacesRead.{transitions-are}
use Rattle.chart_files.proofs.timing.triggers_tick.Goals as goal

abbrev test : List ℕ → Shape → ℕ → Bool
test s sh t = F.ticking (transition_at s sh t).trigger

by_number : (s : List ℕ) (sh : Shape) → IsShape s sh → all (λ t. F.ticking t.trigger) (read_charts s).transitions ≡ all (test s sh) (upto sh.transitions)
by_number s sh is = ap (all (λ t. F.ticking t.trigger)) (transitions-are s sh is) ∙ all_map (transition_at s sh) (λ t. F.ticking t.trigger) (upto sh.transitions)

pub returns : goal.returns
returns c =
    let a = c.args in
    all_upto (test a.s.now a.shape) a.shape.transitions _ _ _ c.all.ensures.ran refl (λ x b q k. search (rules, tests)) ∙ sym (by_number a.s.now a.shape c.requires)
