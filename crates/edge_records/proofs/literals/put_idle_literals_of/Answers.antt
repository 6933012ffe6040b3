use mathlib.Core.Path.{ap, ◌∙◌}
use mathlib.Core.List.{◌∷◌, ◌++◌}
use mathlib.Core.Option.{none}
use Prim.Native.Nat.{◌+◌, ◌≤◌, ◌<◌, ◌^◌}
use native.Mathlib.Omega.{arith}
use Rattle.records.specs.Bytes.{bytes2}
use Rattle.model.specs.ChartSet.{read_charts}
use Rattle.model.specs.AutomataTable.{clock, write_literal_trigger, write_guard}
use Rattle.model.specs.Translation.{must_nots}
use Rattle.chart_records.proofs.PlacesRead.{length-transitions, length-homes, most-states, most-transitions}
use Rattle.twin_records.specs.Texts.{record_text, literal_texts}
use Rattle.twin_records.proofs.TablesWaiting.{not-waiting, is-waiting, idle-most}
use Rattle.twin_records.proofs.TextsWritten.{puts-as, puts_then, puts-far}
use Rattle.edge_records.proofs.TextsIdle.{not-waiting-text, waiting-text}
use Rattle.edge_records.proofs.literals.put_idle_literals_of.Goals as goal

pub bounds-clocks-state : goal.bounds-clocks-state
bounds-clocks-state c =
    let known-state : c.args.state < 128 = omega (arith, c.requires.5, most-states c.args.s.now c.args.shape c.requires.0.shape) in
    known-state

pub put_must_nots-own-requires : goal.put_must_nots-own-requires
put_must_nots-own-requires c =
    (c.requires.0, c.requires.1, c.requires.3, c.requires.4, c.requires.5, omega (arith, c.requires.7))

pub returns-then-number : goal.returns-then-number
returns-then-number c =
    let x = c.args in
    let cs = read_charts x.s.now in
    puts-as _
    (ap (λ e. literal_texts e (must_nots cs x.state)) c.requires.6 ∙ not-waiting-text cs x.state (not-waiting x.s.now x.shape c.requires.0 x.clocks.now.waiting c.requires.2 x.state c.requires.5 c.if-number.true))
    (puts-far (2 ^ 22) (omega arith) c.put_must_nots-own.ensures)

pub put_clock_literal-idle-requires : goal.put_clock_literal-idle-requires
put_clock_literal-idle-requires c =
    omega (arith, c.requires.7, c.put_must_nots-own.ensures.near)

pub overflow_add-edge : goal.overflow_add-edge
overflow_add-edge c =
    let known-edge : c.args.edge ≤ 512 = let x = c.args in
    let is = c.requires.0.shape in
    omega (
      arith,
      c.requires.6,
      idle-most (read_charts x.s.now) x.state (omega (arith, c.requires.5, length-homes x.s.now x.shape is)),
      length-homes x.s.now x.shape is,
      length-transitions x.s.now x.shape is,
      most-states x.s.now x.shape is,
      most-transitions x.s.now x.shape is,
    ) in
    omega (arith, known-edge)

pub put_must_nots-last-requires : goal.put_must_nots-last-requires
put_must_nots-last-requires c =
    (c.requires.0, c.requires.1, c.requires.3, c.requires.4, c.requires.5, omega (arith, c.requires.7, c.put_must_nots-own.ensures.near, c.put_clock_literal-idle.ensures.near))

pub overflow_add-edge-2 : goal.overflow_add-edge-2
overflow_add-edge-2 c =
    let known-edge : c.args.edge ≤ 512 = let x = c.args in
    let is = c.requires.0.shape in
    omega (
      arith,
      c.requires.6,
      idle-most (read_charts x.s.now) x.state (omega (arith, c.requires.5, length-homes x.s.now x.shape is)),
      length-homes x.s.now x.shape is,
      length-transitions x.s.now x.shape is,
      most-states x.s.now x.shape is,
      most-transitions x.s.now x.shape is,
    ) in
    omega (arith, known-edge)

pub put_clock_literal-requires : goal.put_clock_literal-requires
put_clock_literal-requires c =
    omega (arith, c.requires.7, c.put_must_nots-own.ensures.near, c.put_clock_literal-idle.ensures.near, c.put_must_nots-last.ensures.near)

pub returns : goal.returns
returns c =
    let x = c.args in
    let cs = read_charts x.s.now in
    let one = is-waiting x.s.now x.shape c.requires.0 x.clocks.now.waiting c.requires.2 x.state c.requires.5 c.if-number.false in
    puts-as _
    ((λ i. (literal_texts (c.requires.6 i) (must_nots cs x.state) ++ record_text 36 (1 ∷ bytes2 (c.requires.6 i) ++ write_literal_trigger (clock (one.0 i)) ++ write_guard none))
    ++ (literal_texts (c.requires.6 i + 1) (must_nots cs x.state) ++ record_text 36 (2 ∷ bytes2 (c.requires.6 i + 1) ++ write_literal_trigger (clock (one.0 i)) ++ write_guard none)))
    ∙ waiting-text cs x.state one.1.0 one.1.1)
    (puts_then (2 ^ 22) (omega arith) (puts_then (2 ^ 21) (omega arith) c.put_must_nots-own.ensures c.put_clock_literal-idle.ensures) (puts_then (2 ^ 21) (omega arith) c.put_must_nots-last.ensures c.put_clock_literal.ensures))
