use mathlib.Core.Path.{ap, ◌∙◌}
use mathlib.Core.List.{[], ◌∷◌}
use Rattle.expressions.specs.Uses.{add_use, add_uses}
use Rattle.prelude.specs.Lists.{upto}
use Rattle.chart_files.specs.Structure.{source_at}
use Rattle.prelude.proofs.Maps.{gather-singles}
use Rattle.chart_checks.proofs.Used.{gathered-more, gathered-all}
use Rattle.chart_files.proofs.structure.count_sources.Goals as goal

pub loop-t-preserved : goal.loop-t-preserved
unfolding add_uses
loop-t-preserved c =
    let a = c.args in
    let l = c.loop-t in
    gathered-more (λ t. source_at a.s.now a.shape t ∷ []) a.shape.transitions a.left.now l.left _ l.t l.invariant c.loop-t-test.true
    (c.add_use.ensures ∙ ap (add_use l.left) c.source_of.ensures)

pub returns : goal.returns
returns c =
    let a = c.args in
    let l = c.loop-t in
    gathered-all (λ t. source_at a.s.now a.shape t ∷ []) a.shape.transitions a.left.now l.left l.t l.invariant c.loop-t-test.false
    ∙ ap (add_uses a.left.now) (gather-singles (λ t. source_at a.s.now a.shape t) (upto a.shape.transitions))
