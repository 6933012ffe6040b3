use mathlib.Core.Path.{sym, ◌∙◌}
use mathlib.Core.List.{List}
use Prim.Native.Nat.{ℕ, ◌<◌}
use native.Mathlib.Omega.{arith}
use Rattle.prelude.specs.Lists.{keep, upto}
use Rattle.model.specs.Runs.{Action}
use Rattle.model.specs.AutomataTable.{write_update}
use Rattle.chart_records.specs.Places.{action_at}
use Rattle.prelude.proofs.Maps.{gather-map}
use Rattle.chart_records.proofs.PlacesRead.{most-actions}
use Rattle.chart_records.specs.declared.Shape.{Shape}
use Rattle.chart_records.specs.Accepted.{Accepted}
use Rattle.chart_steps.specs.Tables.{keyed}
use Rattle.chart_steps.proofs.TablesActions.{chained}
use Rattle.twin_records.specs.Texts.{record_text}
use Rattle.twin_records.proofs.TextsWritten.{along-start, along-rises, along-more, along-end, puts-as}
use Rattle.edge_records.proofs.updates.put_actions.Goals as goal

few : (s : List ℕ) (sh : Shape) → Accepted s sh → sh.actions < 65536
few s sh ok = omega (arith, most-actions s sh ok.shape)

pub bounds-first-key : goal.bounds-first-key
bounds-first-key c =
    c.requires.2

pub loop-a-init : goal.loop-a-init
loop-a-init c =
    let x = c.args in
    along-start _ _ _ x.first.now x.next.now (chained x.s.now x.shape c.requires.0 _ _ c.requires.1) (few x.s.now x.shape c.requires.0) x.key c.requires.2 _ _ _

pub condition_of-requires : goal.condition_of-requires
condition_of-requires c =
    (c.requires.0, (c.loop-a.invariant.at_hand.known c.loop-a-test.true).0)

pub deed_of-requires : goal.deed_of-requires
deed_of-requires c =
    (c.requires.0.shape, (c.loop-a.invariant.at_hand.known c.loop-a-test.true).0)

pub put_record-place-requires : goal.put_record-place-requires
put_record-place-requires c =
    let inside : c.loop-a.a < 512 = let x = c.args in
    omega (arith, (c.loop-a.invariant.at_hand.known c.loop-a-test.true).0, most-actions x.s.now x.shape c.requires.0.shape) in
    omega (arith, c.loop-a.invariant.near, inside, c.requires.3)

pub bounds-next-a : goal.bounds-next-a
bounds-next-a c =
    let inside : c.loop-a.a < 512 = let x = c.args in
    omega (arith, (c.loop-a.invariant.at_hand.known c.loop-a-test.true).0, most-actions x.s.now x.shape c.requires.0.shape) in
    inside

pub loop-a-smaller : goal.loop-a-smaller
loop-a-smaller c =
    let inside : c.loop-a.a < 512 = let x = c.args in
    omega (arith, (c.loop-a.invariant.at_hand.known c.loop-a-test.true).0, most-actions x.s.now x.shape c.requires.0.shape) in
    let x = c.args in
    omega (arith, inside, along-rises _ _ _ x.first.now x.next.now (chained x.s.now x.shape c.requires.0 _ _ c.requires.1) (few x.s.now x.shape c.requires.0) x.key c.requires.2 _ _ _ c.loop-a.invariant c.loop-a-test.true)

pub loop-a-preserved : goal.loop-a-preserved
loop-a-preserved c =
    let x = c.args in
    along-more _ _ _ x.first.now x.next.now (chained x.s.now x.shape c.requires.0 _ _ c.requires.1) (few x.s.now x.shape c.requires.0) x.key c.requires.2 _ _ _ c.loop-a.invariant c.loop-a-test.true
    c.put_record-place.auto.out
    (puts-as _ (c.update_record-bytes.ensures ∙ (λ i. record_text 40 (write_update (x.edge, record { guard = c.condition_of.ensures i; deed = c.deed_of.ensures i })))) c.put_record-place.ensures)

pub returns : goal.returns
returns c =
    let x = c.args in
    let action : ℕ → Action = λ a. (action_at x.s.now x.shape a).1 in
    along-end _ _ _ _ _ c.loop-a.invariant c.loop-a-test.false _
    (sym (gather-map action (λ a. record_text 40 (write_update (x.edge, a))) (keep (keyed x.s.now x.shape x.key) (upto x.shape.actions))))
