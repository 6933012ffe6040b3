use Prim.Native.Nat.{◌^◌}
use native.Mathlib.Omega.{arith}
use Rattle.model.specs.ChartSet.{read_charts}
use Rattle.twin_records.proofs.TextsWritten.{texts-start, texts-step, texts-end, puts-as}
use Rattle.twin_records.proofs.TextsSections.{placed-text}
use Rattle.model.specs.AutomataTable.{write_variable}
use Rattle.chart_records.specs.Places.{variable_at}
use Rattle.chart_records.proofs.PlacesRead.{variables-are, most-variables}
use Rattle.twin_records.proofs.sections.put_variables.Goals as goal

pub loop-v-init : goal.loop-v-init
loop-v-init c =
    texts-start

pub loop-v-preserved : goal.loop-v-preserved
loop-v-preserved c =
    let l = c.loop-v in
    texts-step l.invariant c.put_record-next.auto.out (puts-as _ c.variable_bytes-bytes.ensures c.put_record-next.ensures)

pub returns : goal.returns
returns c =
    let x = c.args in
    let is = c.requires.0 in
    texts-end _ (placed-text 38 write_variable (variable_at x.s.now x.shape) (read_charts x.s.now).variables x.shape.variables (variables-are x.s.now x.shape is)) (2 ^ 40) (omega (arith, most-variables x.s.now x.shape is)) c.loop-v.invariant (omega arith)
