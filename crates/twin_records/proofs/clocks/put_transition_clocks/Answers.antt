use mathlib.Core.Path.{sym, ap, ◌∙◌}
use mathlib.Core.List.{List, map}
use Prim.Native.Nat.{ℕ, ◌^◌}
use native.Mathlib.Omega.{arith}
use Rattle.prelude.specs.Lists.{gather}
use Rattle.model.specs.ChartSet.{Transition, read_charts}
use Rattle.model.specs.AutomataTable.{write_clock}
use Rattle.model.specs.Translation.{clocks_of}
use Rattle.chart_records.specs.Places.{transition_at}
use Rattle.prelude.proofs.Maps.{gather-map}
use Rattle.chart_records.proofs.PlacesRead.{transitions-are, most-transitions}
use Rattle.twin_records.specs.Texts.{section}
use Rattle.twin_records.proofs.TextsWritten.{texts-start, texts-step, texts-end, puts-as}
use Rattle.twin_records.proofs.TextsSections.{gathered-text}
use Rattle.twin_records.proofs.clocks.put_transition_clocks.Goals as goal

pub loop-t-init : goal.loop-t-init
loop-t-init c =
    texts-start

pub loop-t-preserved : goal.loop-t-preserved
loop-t-preserved c =
    let l = c.loop-t in
    texts-step l.invariant c.put_clock-next.auto.out (puts-as _ (ap (λ x. section 37 (map write_clock (clocks_of x))) c.trigger_of.ensures) c.put_clock-next.ensures)

pub returns : goal.returns
returns c =
    let x = c.args in
    let text : Transition → List ℕ = λ y. section 37 (map write_clock (clocks_of y.trigger)) in
    texts-end _
    (sym
    (gathered-text 37 write_clock (λ y. clocks_of y.trigger) (read_charts x.s.now).transitions
    ∙ ap (gather text) (transitions-are x.s.now x.shape c.requires.0)
    ∙ gather-map (transition_at x.s.now x.shape) text _))
    (2 ^ 20) (omega (arith, most-transitions x.s.now x.shape c.requires.0)) c.loop-t.invariant (omega arith)
