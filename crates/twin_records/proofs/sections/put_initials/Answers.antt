use mathlib.Core.Path.{ap, ◌∙◌}
use mathlib.Core.List.{◌∷◌}
use Prim.Native.Nat.{◌^◌}
use native.Mathlib.Omega.{arith}
use Rattle.records.specs.Bytes.{bytes2}
use Rattle.model.specs.ChartSet.{read_charts}
use Rattle.twin_records.specs.Texts.{record_text}
use Rattle.twin_records.proofs.TextsWritten.{texts-start, texts-step, texts-end, puts-as}
use Rattle.twin_records.proofs.TextsSections.{placed-text}
use Rattle.chart_records.specs.Places.{initial_at}
use Rattle.chart_records.proofs.PlacesRead.{initial-are, most-charts}
use Rattle.twin_records.proofs.sections.put_initials.Goals as goal

pub loop-c-init : goal.loop-c-init
loop-c-init c =
    texts-start

pub loop-c-preserved : goal.loop-c-preserved
loop-c-preserved c =
    let l = c.loop-c in
    texts-step l.invariant c.put_record-next.auto.out (puts-as _ (c.initial_bytes-bytes.ensures ∙ ap (λ i. record_text 33 (0 ∷ bytes2 i)) c.initial_of.ensures) c.put_record-next.ensures)

pub returns : goal.returns
returns c =
    let x = c.args in
    let is = c.requires.0 in
    texts-end _ (placed-text 33 (λ i. 0 ∷ bytes2 i) (initial_at x.s.now x.shape) (read_charts x.s.now).initial x.shape.charts (initial-are x.s.now x.shape is)) (2 ^ 40) (omega (arith, most-charts x.s.now x.shape is)) c.loop-c.invariant (omega arith)
