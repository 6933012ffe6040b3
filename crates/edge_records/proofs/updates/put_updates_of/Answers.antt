use Prim.Native.Nat.{ℕ, ◌<◌, ◌^◌}
use native.Mathlib.Omega.{arith}
use Rattle.chart_records.proofs.PlacesRead.{most-states, most-transitions}
use Rattle.chart_steps.proofs.Accepted.{source_known, target-known}
use Rattle.twin_records.proofs.TextsWritten.{puts-as, puts_then}
use Rattle.edge_records.proofs.TextsEdges.{updates-text}
use Rattle.edge_records.proofs.updates.put_updates_of.Goals as goal

abbrev Small : ℕ → Type 0
Small n = n < 128

pub overflow_add-leaving : goal.overflow_add-leaving
overflow_add-leaving c =
    let source-small : Small c.source_of-leaving.result = let x = c.args in
    omega (arith, c.source_of-leaving.ensures, source_known x.s.now x.shape c.requires.0 x.t c.requires.2, most-states x.s.now x.shape c.requires.0.shape) in
    omega (arith, source-small)

pub overflow_add-crossing : goal.overflow_add-crossing
overflow_add-crossing c =
    let x = c.args in
    omega (arith, c.requires.2, most-transitions x.s.now x.shape c.requires.0.shape)

pub put_actions-crossing_at-requires : goal.put_actions-crossing_at-requires
put_actions-crossing_at-requires c =
    let few : c.args.t < 256 = omega (arith, c.requires.2, most-transitions c.args.s.now c.args.shape c.requires.0.shape) in
    let source-small : Small c.source_of-leaving.result = let x = c.args in
    omega (arith, c.source_of-leaving.ensures, source_known x.s.now x.shape c.requires.0 x.t c.requires.2, most-states x.s.now x.shape c.requires.0.shape) in
    let target_small : Small c.target_of-entering.result = let x = c.args in
    omega (arith, c.target_of-entering.ensures, target-known x.s.now x.shape c.requires.0 x.t c.requires.2, most-states x.s.now x.shape c.requires.0.shape) in
    (c.requires.0, c.requires.1, omega (arith, few, source-small, target_small), omega (arith, c.requires.3))

pub put_actions-entering_at-requires : goal.put_actions-entering_at-requires
put_actions-entering_at-requires c =
    let few : c.args.t < 256 = omega (arith, c.requires.2, most-transitions c.args.s.now c.args.shape c.requires.0.shape) in
    let source-small : Small c.source_of-leaving.result = let x = c.args in
    omega (arith, c.source_of-leaving.ensures, source_known x.s.now x.shape c.requires.0 x.t c.requires.2, most-states x.s.now x.shape c.requires.0.shape) in
    let target_small : Small c.target_of-entering.result = let x = c.args in
    omega (arith, c.target_of-entering.ensures, target-known x.s.now x.shape c.requires.0 x.t c.requires.2, most-states x.s.now x.shape c.requires.0.shape) in (
      c.requires.0,
      c.requires.1,
      omega (arith, few, source-small, target_small),
      omega (arith, c.requires.3, c.put_actions-crossing_at.ensures.near),
    )

pub put_actions-requires : goal.put_actions-requires
put_actions-requires c =
    let few : c.args.t < 256 = omega (arith, c.requires.2, most-transitions c.args.s.now c.args.shape c.requires.0.shape) in
    let source-small : Small c.source_of-leaving.result = let x = c.args in
    omega (arith, c.source_of-leaving.ensures, source_known x.s.now x.shape c.requires.0 x.t c.requires.2, most-states x.s.now x.shape c.requires.0.shape) in
    let target_small : Small c.target_of-entering.result = let x = c.args in
    omega (arith, c.target_of-entering.ensures, target-known x.s.now x.shape c.requires.0 x.t c.requires.2, most-states x.s.now x.shape c.requires.0.shape) in (
      c.requires.0,
      c.requires.1,
      omega (arith, few, source-small, target_small),
      omega (arith, c.requires.3, c.put_actions-crossing_at.ensures.near, c.put_actions-entering_at.ensures.near),
    )

pub returns : goal.returns
returns c =
    let x = c.args in
    puts-as _ (updates-text x.s.now x.shape c.requires.0 x.t c.source_of-leaving.result c.target_of-entering.result c.requires.2 c.source_of-leaving.ensures c.target_of-entering.ensures)
    (puts_then (2 ^ 22) (omega arith) (puts_then (2 ^ 21) (omega arith) c.put_actions-crossing_at.ensures c.put_actions-entering_at.ensures) c.put_actions.ensures)
