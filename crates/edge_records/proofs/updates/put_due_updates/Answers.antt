use mathlib.Core.Path.{◌≡◌, sym, ap, ◌∙◌}
use Prim.Native.Nat.{◌<◌, ◌^◌}
use native.Mathlib.Omega.{arith}
use lib.ListN.{length}
use Rattle.prelude.specs.Lists.{gather, upto}
use Rattle.model.specs.ChartSet.{read_charts, waits}
use Rattle.model.specs.Translation.{idle_origins}
use Rattle.chart_records.proofs.PlacesRead.{length-transitions, length-homes, most-states, most-transitions}
use Rattle.twin_records.specs.Texts.{updates_text}
use Rattle.twin_records.proofs.TablesWaiting.{idle-none, idle-more, idle-most, waiting-count}
use Rattle.twin_records.proofs.TextsWritten.{texts-start, texts-step, texts-end}
use Rattle.edge_records.proofs.updates.put_due_updates.Goals as goal

pub loop-state-init : goal.loop-state-init
loop-state-init c =
    let x = c.args in
    (texts-start, sym (idle-none (read_charts x.s.now) ∙ length-transitions x.s.now x.shape c.requires.0.shape))

pub put_due_updates_of-place-requires : goal.put_due_updates_of-place-requires
put_due_updates_of-place-requires c =
    let x = c.args in
    (c.requires.0, c.requires.1, c.requires.2, c.loop-state-test.true, c.loop-state.invariant.1, omega (arith, c.loop-state.invariant.0.near, c.loop-state-test.true, c.requires.3, most-states x.s.now x.shape c.requires.0.shape))

pub bounds-waiting-state : goal.bounds-waiting-state
bounds-waiting-state c =
    let known-state : c.loop-state.state < 128 = let x = c.args in
    omega (arith, c.loop-state-test.true, most-states x.s.now x.shape c.requires.0.shape) in
    known-state

pub overflow_add-edge : goal.overflow_add-edge
overflow_add-edge c =
    omega (arith, c.count_of.ensures.1)

pub overflow_add-edge-in-loop-state : goal.overflow_add-edge-in-loop-state
overflow_add-edge-in-loop-state c =
    let edges-here : c.count_of.result ≡ length (waits (read_charts c.args.s.now) c.loop-state.state) = let x = c.args in
    c.count_of.ensures.0 ∙ waiting-count x.s.now x.shape c.requires.0 x.waiting.now c.requires.1 c.loop-state.state c.loop-state-test.true in
    let x = c.args in
    let is = c.requires.0.shape in
    let l = c.loop-state in
    omega (
      arith,
      l.invariant.1,
      edges-here,
      idle-most (read_charts x.s.now) l.state (omega (arith, c.loop-state-test.true, length-homes x.s.now x.shape is)),
      length-homes x.s.now x.shape is,
      length-transitions x.s.now x.shape is,
      most-states x.s.now x.shape is,
      most-transitions x.s.now x.shape is,
    )

pub loop-state-preserved : goal.loop-state-preserved
loop-state-preserved c =
    let edges-here : c.count_of.result ≡ length (waits (read_charts c.args.s.now) c.loop-state.state) = let x = c.args in
    c.count_of.ensures.0 ∙ waiting-count x.s.now x.shape c.requires.0 x.waiting.now c.requires.1 c.loop-state.state c.loop-state-test.true in
    let x = c.args in
    let l = c.loop-state in
    (texts-step l.invariant.0 c.put_due_updates_of-place.auto.out c.put_due_updates_of-place.ensures, omega (arith, l.invariant.1, edges-here, idle-more (read_charts x.s.now) l.state))

pub returns : goal.returns
returns c =
    let x = c.args in
    let cs = read_charts x.s.now in
    texts-end _ (ap (λ n. gather (λ i. gather (updates_text cs) (idle_origins cs i)) (upto n)) (sym (length-homes x.s.now x.shape c.requires.0.shape))) (2 ^ 40) (omega (arith, most-states x.s.now x.shape c.requires.0.shape)) c.loop-state.invariant.0 (omega arith)
