use mathlib.Core.Path.{sym, ap}
use Prim.Native.Nat.{◌^◌}
use native.Mathlib.Omega.{arith}
use Rattle.prelude.specs.Lists.{gather, upto}
use Rattle.model.specs.ChartSet.{read_charts}
use Rattle.twin_records.proofs.TextsWritten.{texts-start, texts-step, texts-end}
use Rattle.model.specs.Translation.{from_transition, updates_of}
use Rattle.chart_records.proofs.PlacesRead.{length-transitions, most-states, most-transitions}
use Rattle.twin_records.specs.Texts.{update_texts}
use Rattle.edge_records.proofs.updates.put_updates.Goals as goal

pub loop-t-init : goal.loop-t-init
loop-t-init c =
    texts-start

pub put_updates_of-place-requires : goal.put_updates_of-place-requires
put_updates_of-place-requires c =
    let x = c.args in
    (c.requires.0, c.requires.1, c.loop-t-test.true, omega (arith, c.loop-t.invariant.near, c.loop-t-test.true, c.requires.2, most-transitions x.s.now x.shape c.requires.0.shape, most-states x.s.now x.shape c.requires.0.shape))

pub loop-t-preserved : goal.loop-t-preserved
loop-t-preserved c =
    let x = c.args in
    let l = c.loop-t in
    texts-step l.invariant c.put_updates_of-place.auto.out c.put_updates_of-place.ensures

pub returns : goal.returns
returns c =
    let x = c.args in
    let cs = read_charts x.s.now in
    texts-end _ (ap (λ n. gather (λ i. update_texts i (updates_of cs (from_transition i))) (upto n)) (sym (length-transitions x.s.now x.shape c.requires.0.shape))) (2 ^ 40) (omega (arith, most-transitions x.s.now x.shape c.requires.0.shape)) c.loop-t.invariant (omega arith)
