use mathlib.Core.Path.{sym, ap, ◌∙◌}
use mathlib.Core.Bool.{cond}
use Rattle.twins.specs.Compared.{called_both, played_both}
use Rattle.twins.proofs.table_compared.Goals as goal

pub plays_compared-requires : goal.plays_compared-requires
plays_compared-requires c =
    c.requires

pub calls_compared-requires : goal.calls_compared-requires
calls_compared-requires c =
    c.requires

pub returns-then-plays : goal.returns-then-plays
returns-then-plays c =
    let a = c.args in
    c.plays_compared.ensures
    ∙ sym (ap (λ b. cond b (played_both a.s.now a.t.now a.masks.now) (called_both a.s.now a.t.now a.masks.now a.kinds.now)) c.if-plays.true)

pub returns-else-plays : goal.returns-else-plays
returns-else-plays c =
    let a = c.args in
    c.calls_compared.ensures
    ∙ sym (ap (λ b. cond b (played_both a.s.now a.t.now a.masks.now) (called_both a.s.now a.t.now a.masks.now a.kinds.now)) c.if-plays.false)
