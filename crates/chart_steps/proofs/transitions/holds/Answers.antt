use mathlib.Core.Path.{refl, sym, ap, ◌∙◌, subst}
use Prim.Native.Nat.{◌+◌, ◌*◌}
use native.Mathlib.Omega.{arith}
use Rattle.records.specs.Bytes.{two}
use Rattle.model.specs.Runs.{guard_holds}
use Rattle.model.specs.ChartSet.{read_guard}
use Rattle.model.specs.Charts.{triggered}
use Rattle.chart_records.specs.Places.{transition_at, trigger_in}
use Rattle.chart_records.proofs.PlacesRead.{inside}
use Rattle.chart_steps.specs.Replies.{Holdable}
use Rattle.chart_steps.proofs.Accepted.{trigger-holdable}
use Rattle.chart_steps.proofs.ValuesRead.{has-values, nodes-in}
use Rattle.chart_steps.proofs.Replies.{holds_not, holds-guard}
use Rattle.chart_steps.proofs.transitions.holds.Goals as goal

pub triggered-requires : goal.triggered-requires
triggered-requires c =
    let x = c.args in
    let e = c.first_transition.ensures in
    (omega (arith, e, c.requires.1, inside x.s.now x.shape c.requires.0.shape), subst (λ n. Holdable (trigger_in x.s.now (n + x.t))) (sym e) (trigger-holdable x.s.now x.shape c.requires.0 x.t c.requires.1))

pub u16_within-requires : goal.u16_within-requires
u16_within-requires c =
    let x = c.args in
    omega (arith, c.first_transition.ensures, c.requires.1, inside x.s.now x.shape c.requires.0.shape)

pub guard_holds-requires : goal.guard_holds-requires
guard_holds-requires c =
    has-values c.args.s.now c.args.shape c.requires.0.shape c.values_of.result c.values_of.ensures

pub returns-then-triggered : goal.returns-then-triggered
returns-then-triggered c =
    let x = c.args in
    let v = c.values_of in
    let g = c.u16_within in
    let e = c.first_transition.ensures in
    c.guard_holds.ensures
    ∙ ap (λ nodes. guard_holds nodes x.vars.now (read_guard g.result)) (nodes-in x.s.now x.shape c.requires.0.shape v.result v.ensures)
    ∙ holds-guard x.s.now x.shape c.requires.0.shape x.t c.requires.1 x.vars.now x.events x.age (transition_at x.s.now x.shape x.t).trigger refl
    (ap (λ n. triggered (trigger_in x.s.now (n + x.t)) x.age x.events) (sym e) ∙ sym c.triggered.ensures ∙ c.if-triggered.true) g.result
    (g.ensures ∙ ap (λ n. two x.s.now (16 * (n + x.t) + 12)) e)

pub returns-else-triggered : goal.returns-else-triggered
returns-else-triggered c =
    let x = c.args in
    let e = c.first_transition.ensures in
    holds_not x.s.now x.shape c.requires.0.shape x.t c.requires.1 x.vars.now x.events x.age (transition_at x.s.now x.shape x.t).trigger refl
    (ap (λ n. triggered (trigger_in x.s.now (n + x.t)) x.age x.events) (sym e) ∙ sym c.triggered.ensures ∙ c.if-triggered.false)
