use mathlib.Core.Path.{sym, ap}
use Prim.Native.Nat.{◌^◌}
use native.Mathlib.Omega.{arith}
use Rattle.prelude.specs.Lists.{gather, upto}
use Rattle.model.specs.ChartSet.{read_charts}
use Rattle.model.specs.Translation.{from_transition}
use Rattle.chart_records.proofs.PlacesRead.{length-transitions, most-transitions}
use Rattle.twin_records.specs.Texts.{edge_text}
use Rattle.twin_records.proofs.TextsWritten.{texts-start, texts-step, texts-end, puts-as}
use Rattle.twin_records.proofs.edges.put_transition_edges.Goals as goal

pub loop-t-init : goal.loop-t-init
loop-t-init c =
    texts-start

pub loop-t-preserved : goal.loop-t-preserved
loop-t-preserved c =
    texts-step c.loop-t.invariant c.put_record-next.auto.out (puts-as _ c.transition_record-bytes.ensures c.put_record-next.ensures)

pub returns : goal.returns
returns c =
    let x = c.args in
    let cs = read_charts x.s.now in
    texts-end _ (ap (λ n. gather (λ i. edge_text cs (from_transition i)) (upto n)) (sym (length-transitions x.s.now x.shape c.requires.0.shape))) (2 ^ 20) (omega (arith, most-transitions x.s.now x.shape c.requires.0.shape)) c.loop-t.invariant (omega arith)
