use mathlib.Core.Path.{◌≡◌, sym, ◌∙◌, subst}
use Prim.Native.Nat.{◌+◌, ◌*◌}
use native.Mathlib.Omega.{arith}
use Rattle.records.specs.Bytes.{byte, two}
use Rattle.model.specs.Runs.{action}
use Rattle.model.specs.ChartSet.{read_deed, action_by}
use Rattle.chart_records.specs.Places.{action_at}
use Rattle.chart_records.proofs.PlacesRead.{inside}
use Rattle.machines.specs.Deeds.{Doable}
use Rattle.machines.specs.Worlds.{world_in}
use Rattle.chart_steps.proofs.Accepted.{deed-doable}
use Rattle.chart_steps.proofs.ValuesRead.{has-values, variables-in, nodes-in}
use Rattle.chart_steps.proofs.deeds.do_action.Goals as goal
use Rattle.chart_steps.proofs.deeds.do_action.Goals.{After-values_of}

pub bounds-s-at : goal.bounds-s-at
bounds-s-at c = omega (arith, c.first_action.ensures, c.requires.1, inside c.args.s.now c.args.shape c.requires.0.shape)

pub bounds-s-at-2 : goal.bounds-s-at-2
bounds-s-at-2 c = omega (arith, c.first_action.ensures, c.requires.1, inside c.args.s.now c.args.shape c.requires.0.shape)

pub u16_within-n-requires : goal.u16_within-n-requires
u16_within-n-requires c = omega (arith, c.first_action.ensures, c.requires.1, inside c.args.s.now c.args.shape c.requires.0.shape)

-- the action, by the fields that were read
fields : (c : After-values_of) →
    (action_at c.args.s.now c.args.shape c.args.a).1 ≡ action_by c.condition_of-guard.result (byte c.args.s.now (16 * (c.first_action.result + c.args.a) + 4)) (byte c.args.s.now (16 * (c.first_action.result + c.args.a) + 5)) c.u16_within-n.result
fields c =
    let x = c.args in
    let s = x.s.now in
    let guard = (action_at s x.shape x.a).1.guard in
    (λ i. record { guard = guard; deed = read_deed (byte s (16 * (sym c.first_action.ensures i + x.a) + 4)) (byte s (16 * (sym c.first_action.ensures i + x.a) + 5)) (two s (16 * (sym c.first_action.ensures i + x.a) + 6)) })
    ∙ (λ i. record { guard = sym c.condition_of-guard.ensures i; deed = read_deed (byte s (16 * (c.first_action.result + x.a) + 4)) (byte s (16 * (c.first_action.result + x.a) + 5)) (sym c.u16_within-n.ensures i) })

pub do_guarded-requires : goal.do_guarded-requires
do_guarded-requires c =
    let v = c.values_of in
    let x = c.args in
    (has-values x.s.now x.shape c.requires.0.shape v.result v.ensures, rw v.ensures (subst (λ y. Doable x.shape.variables y.deed) (fields (goal.at.do_guarded-requires c).After-values_of) (deed-doable x.s.now x.shape c.requires.0 x.a c.requires.1)))

pub returns : goal.returns
returns c = (
  λ m.
      let v = c.values_of in
      let x = c.args in
      let s = x.s.now in
      c.do_guarded.ensures.0 m
      ∙ (λ i. action (nodes-in s x.shape c.requires.0.shape v.result v.ensures i) (variables-in s x.shape c.requires.0.shape v.result v.ensures i) (sym (fields (goal.at.returns c).After-values_of) i) (world_in x.vars.now x.events m)),
  c.do_guarded.ensures.1,
)
