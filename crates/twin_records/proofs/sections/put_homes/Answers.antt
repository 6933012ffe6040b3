use mathlib.Core.Path.{ap, ◌∙◌}
use mathlib.Core.List.{[], ◌∷◌}
use Prim.Native.Nat.{◌^◌}
use native.Mathlib.Omega.{arith}
use Rattle.model.specs.ChartSet.{read_charts}
use Rattle.twin_records.specs.Texts.{record_text}
use Rattle.twin_records.proofs.TextsWritten.{texts-start, texts-step, texts-end, puts-as}
use Rattle.twin_records.proofs.TextsSections.{placed-text}
use Rattle.chart_records.specs.Places.{home_at}
use Rattle.chart_records.proofs.PlacesRead.{homes-are, most-states}
use Rattle.twin_records.proofs.sections.put_homes.Goals as goal

pub loop-state-init : goal.loop-state-init
loop-state-init c =
    texts-start

pub loop-state-preserved : goal.loop-state-preserved
loop-state-preserved c =
    let l = c.loop-state in
    texts-step l.invariant c.put_record-next.auto.out (puts-as _ (c.home_bytes-bytes.ensures ∙ ap (λ h. record_text 34 (h ∷ [])) c.home_of.ensures) c.put_record-next.ensures)

pub returns : goal.returns
returns c =
    let x = c.args in
    let is = c.requires.0 in
    texts-end _ (placed-text 34 (λ h. h ∷ []) (home_at x.s.now x.shape) (read_charts x.s.now).homes x.shape.states (homes-are x.s.now x.shape is)) (2 ^ 40) (omega (arith, most-states x.s.now x.shape is)) c.loop-state.invariant (omega arith)
