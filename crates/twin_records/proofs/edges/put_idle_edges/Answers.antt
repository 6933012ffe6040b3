use mathlib.Core.Path.{sym, ap}
use Prim.Native.Nat.{◌^◌}
use native.Mathlib.Omega.{arith}
use Rattle.prelude.specs.Lists.{gather, upto}
use Rattle.model.specs.ChartSet.{read_charts}
use Rattle.model.specs.Translation.{idle_origins}
use Rattle.chart_records.proofs.PlacesRead.{length-homes, most-states}
use Rattle.twin_records.specs.Texts.{edge_text}
use Rattle.twin_records.proofs.TextsWritten.{texts-start, texts-step, texts-end}
use Rattle.twin_records.proofs.edges.put_idle_edges.Goals as goal

pub loop-state-init : goal.loop-state-init
loop-state-init c =
    texts-start

pub loop-state-preserved : goal.loop-state-preserved
loop-state-preserved c =
    texts-step c.loop-state.invariant c.put_idle_edges_of-next.auto.out c.put_idle_edges_of-next.ensures

pub returns : goal.returns
returns c =
    let x = c.args in
    let cs = read_charts x.s.now in
    texts-end _ (ap (λ n. gather (λ i. gather (edge_text cs) (idle_origins cs i)) (upto n)) (sym (length-homes x.s.now x.shape c.requires.0.shape))) (2 ^ 20) (omega (arith, most-states x.s.now x.shape c.requires.0.shape)) c.loop-state.invariant (omega arith)
