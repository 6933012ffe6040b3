use mathlib.Core.Path.{sym, ap}
use Prim.Native.Nat.{◌^◌}
use native.Mathlib.Omega.{arith}
use Rattle.prelude.specs.Lists.{gather, upto}
use Rattle.model.specs.ChartSet.{read_charts}
use Rattle.model.specs.Translation.{from_transition}
use Rattle.chart_records.proofs.PlacesRead.{length-transitions, most-transitions}
use Rattle.twin_records.specs.Texts.{resets_text}
use Rattle.twin_records.proofs.TextsWritten.{texts-start, texts-step, texts-end}
use Rattle.edge_records.proofs.resets.put_resets.Goals as goal

pub loop-t-init : goal.loop-t-init
loop-t-init c =
    texts-start

pub put_resets_of-place-requires : goal.put_resets_of-place-requires
put_resets_of-place-requires c =
    let x = c.args in
    (c.requires.0, c.requires.1, c.requires.2, c.requires.3, c.loop-t-test.true, omega (arith, c.loop-t.invariant.near, c.loop-t-test.true, c.requires.4, most-transitions x.s.now x.shape c.requires.0.shape))

pub loop-t-preserved : goal.loop-t-preserved
loop-t-preserved c =
    texts-step c.loop-t.invariant c.put_resets_of-place.auto.out c.put_resets_of-place.ensures

pub returns : goal.returns
returns c =
    let x = c.args in
    let cs = read_charts x.s.now in
    texts-end _ (ap (λ n. gather (λ i. resets_text cs (from_transition i)) (upto n)) (sym (length-transitions x.s.now x.shape c.requires.0.shape))) (2 ^ 40) (omega (arith, most-transitions x.s.now x.shape c.requires.0.shape)) c.loop-t.invariant (omega arith)
