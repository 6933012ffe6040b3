use mathlib.Core.Path.{sym, ◌∙◌}
use Prim.Native.Nat.{◌<◌}
use native.Mathlib.Omega.{arith}
use Rattle.chart_records.proofs.PlacesRead.{most-states, most-transitions}
use Rattle.machines.specs.Worlds.{world_in}
use Rattle.chart_steps.proofs.Accepted.{source_known, target-known}
use Rattle.chart_steps.proofs.StepOf.{acted-by-keys}
use Rattle.chart_steps.proofs.steps.do_actions.Goals as goal

pub overflow_add-leaving : goal.overflow_add-leaving
overflow_add-leaving c =
    let source-small : c.source_of-leaving.result < 128 = omega (arith, c.source_of-leaving.ensures, source_known c.args.s.now c.args.shape c.requires.0.accepted c.args.t c.requires.1, most-states c.args.s.now c.args.shape c.requires.0.accepted.shape) in
    omega (arith, source-small)

pub overflow_add-crossing : goal.overflow_add-crossing
overflow_add-crossing c =
    let few-transitions : c.args.t < 256 = omega (arith, c.requires.1, most-transitions c.args.s.now c.args.shape c.requires.0.accepted.shape) in
    omega (arith, few-transitions)

pub do_deeds-requires : goal.do_deeds-requires
do_deeds-requires c =
    let source-small : c.source_of-leaving.result < 128 = omega (arith, c.source_of-leaving.ensures, source_known c.args.s.now c.args.shape c.requires.0.accepted c.args.t c.requires.1, most-states c.args.s.now c.args.shape c.requires.0.accepted.shape) in
    let few-transitions : c.args.t < 256 = omega (arith, c.requires.1, most-transitions c.args.s.now c.args.shape c.requires.0.accepted.shape) in
    let target_small : c.target_of-entering.result < 128 = omega (arith, c.target_of-entering.ensures, target-known c.args.s.now c.args.shape c.requires.0.accepted c.args.t c.requires.1, most-states c.args.s.now c.args.shape c.requires.0.accepted.shape) in
    (c.requires.0.accepted, c.requires.0.has_actions, omega (arith, source-small), omega (arith, few-transitions), omega (arith, target_small))

pub returns : goal.returns
returns c = (
  λ m.
      let x = c.args in
      c.do_deeds.ensures.0 m
      ∙ sym (acted-by-keys x.s.now x.shape c.requires.0.accepted x.t c.source_of-leaving.result c.target_of-entering.result c.requires.1 c.source_of-leaving.ensures c.target_of-entering.ensures (world_in x.vars.now x.events m)),
  c.do_deeds.ensures.1,
)
