use mathlib.Core.Path.{◌≡◌, sym, ap, ◌∙◌}
use mathlib.Core.List.{◌++◌, map}
use Prim.Native.Nat.{ℕ, ◌<◌, ◌^◌}
use native.Mathlib.Omega.{arith}
use Rattle.prelude.proofs.Lists.{gather_append}
use Rattle.model.specs.ChartSet.{read_charts, waits, transition}
use Rattle.model.specs.AutomataTable.{write_reset}
use Rattle.model.specs.Translation.{waiting_clock, clocks_leaving, clocks_of_state}
use Rattle.chart_records.proofs.PlacesRead.{transition-is, most-states}
use Rattle.chart_steps.proofs.Accepted.{target-known}
use Rattle.twin_records.specs.Texts.{record_text, reset_texts}
use Rattle.twin_records.proofs.TablesWaiting.{waiting-named}
use Rattle.twin_records.proofs.TextsWritten.{puts-as, puts_then}
use Rattle.edge_records.proofs.resets.put_resets_of.Goals as goal

pub put_leaving-last-requires : goal.put_leaving-last-requires
put_leaving-last-requires c =
    let known_target : c.target_of-target.result < c.args.shape.states = let x = c.args in
    omega (arith, c.target_of-target.ensures, target-known x.s.now x.shape c.requires.0 x.t c.requires.4) in
    (c.requires.0, c.requires.1, c.requires.3, known_target, c.requires.5)

pub bounds-clocks-target : goal.bounds-clocks-target
bounds-clocks-target c =
    let known_target : c.target_of-target.result < c.args.shape.states = let x = c.args in
    omega (arith, c.target_of-target.ensures, target-known x.s.now x.shape c.requires.0 x.t c.requires.4) in
    let small-target : c.target_of-target.result < 128 = let x = c.args in
    omega (arith, known_target, most-states x.s.now x.shape c.requires.0.shape) in
    small-target

pub put_waiting_reset-requires : goal.put_waiting_reset-requires
put_waiting_reset-requires c =
    omega (arith, c.requires.5, c.put_leaving-last.ensures.near)

pub returns : goal.returns
returns c =
    let known_target : c.target_of-target.result < c.args.shape.states = let x = c.args in
    omega (arith, c.target_of-target.ensures, target-known x.s.now x.shape c.requires.0 x.t c.requires.4) in
    let x = c.args in
    let cs = read_charts x.s.now in
    let target : c.target_of-target.result ≡ (transition cs x.t).target = c.target_of-target.ensures ∙ ap (λ y. y.target) (sym (transition-is x.s.now x.shape c.requires.0.shape x.t c.requires.4)) in
    puts-as _
    (ap (λ l. reset_texts x.t (clocks_leaving cs c.target_of-target.result) ++ reset_texts x.t l) (waiting-named x.s.now x.shape c.requires.0 x.clocks.now.waiting c.requires.2 c.target_of-target.result known_target)
    ∙ sym (gather_append (λ (k : ℕ). record_text 41 (write_reset (x.t, k))) (clocks_leaving cs c.target_of-target.result) (map (λ _. waiting_clock cs c.target_of-target.result) (waits cs c.target_of-target.result)))
    ∙ ap (λ s. reset_texts x.t (clocks_of_state cs s)) target)
    (puts_then (2 ^ 21) (omega arith) c.put_leaving-last.ensures c.put_waiting_reset.ensures)
