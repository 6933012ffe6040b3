use mathlib.Core.Path.{◌≡◌, refl, sym, ◌∙◌, subst}
use Prim.Native.Nat.{ℕ, ◌+◌, ◌-◌, ◌<◌}
use native.Mathlib.Omega.{arith}
use lib.ListN.{replicate}
use lib.Seq.{drop-set-lt}
use Rattle.model.specs.Limits.{most_actions}
use Rattle.chart_records.proofs.PlacesRead.{most-actions}
use Rattle.machines.proofs.Chains.{Chains, chains-none, chains-more, chains-made}
use Rattle.chart_steps.specs.Tables.{key_at, action_keys}
use Rattle.chart_steps.proofs.TablesActions.{key-within}
use Rattle.chart_steps.proofs.tables.fill_actions.Goals as goal

pub loop-a-init : goal.loop-a-init
loop-a-init c =
    let x = c.args in (
      subst (λ first. Chains (key_at x.s.now x.shape) action_keys most_actions x.shape.actions first x.next.now x.shape.actions) (sym c.requires.1)
          (subst (λ next. Chains (key_at x.s.now x.shape) action_keys most_actions x.shape.actions (replicate {A = ℕ} action_keys 65535) next x.shape.actions) (sym c.requires.2) (chains-none (key_at x.s.now x.shape) action_keys most_actions x.shape.actions)),
      refl,
    )

pub bounds-next-i : goal.bounds-next-i
bounds-next-i c =
    let in-file : c.loop-a.a - 1 < 512 = omega (arith, c.loop-a.invariant.0.bound, most-actions c.args.s.now c.args.shape c.requires.0.shape, c.loop-a-test.true) in
    in-file

pub loop-a-preserved : goal.loop-a-preserved
loop-a-preserved c =
    let x = c.args in
    let l = c.loop-a in
    let more = c.loop-a-test.true in
    let e : l.a ≡ l.a - 1 + 1 = omega (arith, more) in (
      chains-more (key_at x.s.now x.shape) action_keys most_actions x.shape.actions l.first l.next (l.a - 1) c.key_of-key.result
          (subst (Chains (key_at x.s.now x.shape) action_keys most_actions x.shape.actions l.first l.next) e l.invariant.0)
          (most-actions x.s.now x.shape c.requires.0.shape) (sym c.key_of-key.ensures.0) c.key_of-key.ensures.1,
      drop-set-lt x.shape.actions l.next (l.a - 1) _ (omega (arith, l.invariant.0.bound, more)) ∙ l.invariant.1,
    )

pub returns : goal.returns
returns c =
    let x = c.args in
    let l = c.loop-a in
    let e : l.a ≡ 0 = omega (arith, c.loop-a-test.false) in
    let made = chains-made (key_at x.s.now x.shape) action_keys most_actions x.shape.actions l.first l.next (subst (Chains (key_at x.s.now x.shape) action_keys most_actions x.shape.actions l.first l.next) e l.invariant.0) in
    (record { first_of = made.first_of; next_of = λ b h. made.next_of b h (omega (arith, key-within x.s.now x.shape c.requires.0 b h)) }, l.invariant.1)
