use Prim.Native.Nat.{◌^◌}
use native.Mathlib.Omega.{arith}
use Rattle.model.specs.ChartSet.{read_charts}
use Rattle.twin_records.proofs.TextsWritten.{texts-start, texts-step, texts-end, puts-as}
use Rattle.twin_records.proofs.TextsSections.{placed-text}
use Rattle.expressions.specs.Nodes.{node_at, write_node}
use Rattle.chart_records.specs.Places.{node_part}
use Rattle.chart_records.proofs.PlacesRead.{nodes-are, most-nodes}
use Rattle.twin_records.proofs.sections.put_nodes.Goals as goal

pub loop-n-init : goal.loop-n-init
loop-n-init c =
    texts-start

pub loop-n-preserved : goal.loop-n-preserved
loop-n-preserved c =
    let l = c.loop-n in
    texts-step l.invariant c.put_record-next.auto.out (puts-as _ c.node_record-bytes.ensures c.put_record-next.ensures)

pub returns : goal.returns
returns c =
    let x = c.args in
    let is = c.requires.0.shape in
    texts-end _ (placed-text 39 write_node (node_at (node_part x.s.now x.shape)) (read_charts x.s.now).nodes x.shape.nodes (nodes-are x.s.now x.shape is)) (2 ^ 40) (omega (arith, most-nodes x.s.now x.shape is)) c.loop-n.invariant (omega arith)
