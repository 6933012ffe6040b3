use mathlib.Core.Path.{ap, ◌∙◌}
use mathlib.Core.List.{[], ◌∷◌}
use Prim.Native.Nat.{◌+◌, ◌*◌}
use Rattle.expressions.specs.Uses.{add_use, add_uses}
use Rattle.prelude.specs.Lists.{upto}
use Rattle.records.specs.Bytes.{two}
use Rattle.prelude.proofs.Maps.{gather-singles}
use Rattle.chart_checks.proofs.Used.{gathered-more, gathered-all}
use Rattle.chart_files.proofs.structure.count_initials.Goals as goal

pub loop-c-preserved : goal.loop-c-preserved
unfolding add_uses
loop-c-preserved c =
    let a = c.args in
    let l = c.loop-c in
    gathered-more (λ c. two a.s.now (16 * c + 2) ∷ []) a.shape.charts a.initial.now l.initial' _ l.c l.invariant c.loop-c-test.true
    (c.add_use.ensures ∙ ap (add_use l.initial') c.initial_of.ensures)

pub returns : goal.returns
returns c =
    let a = c.args in
    let l = c.loop-c in
    gathered-all (λ c. two a.s.now (16 * c + 2) ∷ []) a.shape.charts a.initial.now l.initial' l.c l.invariant c.loop-c-test.false
    ∙ ap (add_uses a.initial.now) (gather-singles (λ c. two a.s.now (16 * c + 2)) (upto a.shape.charts))
