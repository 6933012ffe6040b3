use mathlib.Core.Path.{sym, ap, ◌∙◌}
use mathlib.Core.Bool.{cond}
use mathlib.Core.List.{[], ◌∷◌, map}
use native.Mathlib.Omega.{arith}
use borrow.Author.Tests.{eq-eqb, ne_eqb}
use lib.ListN.{get_or}
use Prim.Native.Nat.{◌+◌}
use Rattle.records.specs.Bytes.{bytes2}
use Rattle.prelude.proofs.Gathered.{gather_none, gather-one}
use Rattle.model.specs.AutomataTable.{every, write_clock}
use Rattle.model.specs.Charts.{ticks}
use Rattle.chart_records.specs.Places.{wait_at}
use Rattle.chart_records.proofs.PlacesRead.{most-states}
use Rattle.chart_steps.specs.Tables.{waiting_keys}
use Rattle.twin_records.specs.Texts.{record_text, section}
use Rattle.twin_records.proofs.TextsWritten.{puts-as, puts-nothing}
use Rattle.twin_records.proofs.TablesWaiting.{waits-by, action-known}
use Rattle.twin_records.proofs.clocks.put_waiting_clock.Goals as goal

pub overflow_add-action : goal.overflow_add-action
overflow_add-action c =
    let x = c.args in
    omega (arith, c.requires.2, most-states x.s.now x.shape c.requires.0.shape)

pub bounds-first-state : goal.bounds-first-state
bounds-first-state c =
    let x = c.args in
    omega (arith, c.requires.2, most-states x.s.now x.shape c.requires.0.shape)

pub returns-then-action : goal.returns-then-action
returns-then-action c =
    let x = c.args in
    let a = get_or x.first.now (waiting_keys + x.state) 0 in
    let none = waits-by x.s.now x.shape c.requires.0 x.first.now c.requires.1 x.state c.requires.2 ∙ ap (λ b. cond b [] ((wait_at x.s.now x.shape a).1 ∷ [])) (eq-eqb a 65535 c.if-action.true) in
    puts-as _ (sym (gather_none (record_text 37)) ∙ ap (λ l. section 37 (map write_clock (map (λ ms. record { timing = every; ticks = ticks ms }) l))) (sym none)) (puts-nothing x.out.now x.at 16)

pub wait_of-requires : goal.wait_of-requires
wait_of-requires c =
    let x = c.args in
    (c.requires.0, action-known x.s.now x.shape c.requires.0 x.first.now c.requires.1 x.state c.requires.2 c.if-action.false)

pub returns : goal.returns
returns c =
    let x = c.args in
    let a = get_or x.first.now (waiting_keys + x.state) 0 in
    let ms = (wait_at x.s.now x.shape a).1 in
    let one = waits-by x.s.now x.shape c.requires.0 x.first.now c.requires.1 x.state c.requires.2 ∙ ap (λ b. cond b [] (ms ∷ [])) (ne_eqb a 65535 c.if-action.false) in
    puts-as _
    (c.clock_bytes.ensures
    ∙ ap (λ n. record_text 37 (3 ∷ bytes2 n)) (c.ticks.ensures ∙ ap ticks c.wait_of.ensures)
    ∙ sym (gather-one (record_text 37) (3 ∷ bytes2 (ticks ms)))
    ∙ ap (λ l. section 37 (map write_clock (map (λ ms. record { timing = every; ticks = ticks ms }) l))) (sym one))
    c.put_record.ensures
