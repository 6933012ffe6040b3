use mathlib.Core.Path.{ap, ◌∙◌}
use Prim.Native.Nat.{◌+◌, ◌<◌}
use native.Mathlib.Omega.{arith}
use Rattle.model.specs.ChartSet.{read_charts}
use Rattle.chart_records.proofs.PlacesRead.{most-states}
use Rattle.twin_records.specs.Texts.{update_texts}
use Rattle.twin_records.proofs.TablesWaiting.{not-waiting, is-waiting}
use Rattle.twin_records.proofs.TextsWritten.{puts-as, puts-nothing}
use Rattle.edge_records.proofs.TextsEdges.{actions_of}
use Rattle.edge_records.proofs.TextsIdle.{no-due-text, due-text}
use Rattle.edge_records.proofs.updates.put_due_updates_of.Goals as goal

pub bounds-waiting-state : goal.bounds-waiting-state
bounds-waiting-state c =
    let known-state : c.args.state < 128 = let x = c.args in
    omega (arith, c.requires.3, most-states x.s.now x.shape c.requires.0.shape) in
    known-state

pub returns-then-waiting-state : goal.returns-then-waiting-state
returns-then-waiting-state c =
    let x = c.args in
    puts-as _
    (no-due-text (read_charts x.s.now) x.state (not-waiting x.s.now x.shape c.requires.0 x.waiting.now c.requires.1 x.state c.requires.3 c.if-waiting-state.true))
    (puts-nothing x.out.now x.at _)

pub overflow_add-state : goal.overflow_add-state
overflow_add-state c =
    let known-state : c.args.state < 128 = let x = c.args in
    omega (arith, c.requires.3, most-states x.s.now x.shape c.requires.0.shape) in
    omega (arith, known-state)

pub put_actions-requires : goal.put_actions-requires
put_actions-requires c =
    let known-state : c.args.state < 128 = let x = c.args in
    omega (arith, c.requires.3, most-states x.s.now x.shape c.requires.0.shape) in
    (c.requires.0, c.requires.2, omega (arith, known-state), c.requires.5)

pub returns : goal.returns
returns c =
    let known-state : c.args.state < 128 = let x = c.args in
    omega (arith, c.requires.3, most-states x.s.now x.shape c.requires.0.shape) in
    let x = c.args in
    let one = is-waiting x.s.now x.shape c.requires.0 x.waiting.now c.requires.1 x.state c.requires.3 c.if-waiting-state.false in
    puts-as _
    (ap (λ e. update_texts e (actions_of x.s.now x.shape c.requires.0 (512 + x.state))) c.requires.4
    ∙ due-text x.s.now x.shape c.requires.0 x.state known-state one.1.0 one.1.1)
    c.put_actions.ensures
