use mathlib.Core.Path.{◌≡◌, sym, ap, ◌∙◌, subst}
use Prim.Native.Nat.{◌+◌, ◌*◌, ◌<◌}
use native.Mathlib.Omega.{arith}
use borrow.Author.Tests.{ne_eqb}
use lib.Dec.{eqb}
use lib.ListN.{get_or}
use Rattle.prelude.specs.Lists.{case_of}
use Rattle.records.specs.Bytes.{byte, two}
use Rattle.model.specs.Runs.{present}
use Rattle.model.specs.AutomataTable.{read_automata, always, event, clock}
use Rattle.model.specs.Automata.{literal_trigger_holds}
use Rattle.automata_records.specs.Places.{literal_in, literal_trigger_by}
use Rattle.automata_records.specs.Known.{LiteralTriggerKnown}
use Rattle.automata_records.proofs.PlacesRead.{most-clocks, clock-is}
use Rattle.automata_records.specs.Accepted.{InFile}
use Rattle.automata_steps.specs.StepOf.{bare_run}
use Rattle.automata_steps.proofs.IndexRecords.{in-file, literal-trigger-in, literal-at}
use Rattle.automata_steps.proofs.literals.trigger_holds.Goals as goal

pub byte_of-code-requires : goal.byte_of-code-requires
byte_of-code-requires c =
    let file : InFile c.args.s.now c.args.n = in-file c.args.s.now c.args.shape c.requires.0.shape c.args.n (omega (arith, c.requires.2)) in
    (file, omega arith)

pub byte_of-requires : goal.byte_of-requires
byte_of-requires c =
    let file : InFile c.args.s.now c.args.n = in-file c.args.s.now c.args.shape c.requires.0.shape c.args.n (omega (arith, c.requires.2)) in
    (file, omega arith)

pub present-requires : goal.present-requires
unfolding case_of
present-requires c =
    let is-event : let x = c.args in (literal_in x.s.now x.n).1.trigger ≡ event (byte x.s.now (16 * x.n + 5)) = let x = c.args in
    ap (λ k. literal_trigger_by k (byte x.s.now (16 * x.n + 5)) (two x.s.now (16 * x.n + 6))) (sym c.byte_of-code.ensures ∙ c.if-code-eq1.true) in
    let known : LiteralTriggerKnown c.args.shape.clocks (literal_in c.args.s.now c.args.n).1.trigger = let x = c.args in
    subst (λ l. LiteralTriggerKnown x.shape.clocks l.1.trigger) (literal-at x.s.now x.shape c.requires.0 x.n c.requires.1 c.requires.2) (literal-trigger-in x.s.now x.shape c.requires.0 x.n c.requires.1 c.requires.2) in
    let x = c.args in
    let k : byte x.s.now (16 * x.n + 5) < 32 = subst (LiteralTriggerKnown x.shape.clocks) is-event known in
    omega (arith, k, c.byte_of.ensures)

pub returns-then-code-eq1 : goal.returns-then-code-eq1
unfolding case_of
returns-then-code-eq1 c =
    let is-event : let x = c.args in (literal_in x.s.now x.n).1.trigger ≡ event (byte x.s.now (16 * x.n + 5)) = let x = c.args in
    ap (λ k. literal_trigger_by k (byte x.s.now (16 * x.n + 5)) (two x.s.now (16 * x.n + 6))) (sym c.byte_of-code.ensures ∙ c.if-code-eq1.true) in
    let x = c.args in
    λ vars.
    c.present.ensures
    ∙ ap (λ j. present j x.events) c.byte_of.ensures
    ∙ ap (literal_trigger_holds (read_automata x.s.now) (bare_run x.clocks.now vars x.events)) (sym is-event)

pub two_of-k-requires : goal.two_of-k-requires
two_of-k-requires c =
    let file : InFile c.args.s.now c.args.n = in-file c.args.s.now c.args.shape c.requires.0.shape c.args.n (omega (arith, c.requires.2)) in
    (file, omega arith)

pub bounds-clocks-i : goal.bounds-clocks-i
unfolding case_of
bounds-clocks-i c =
    let is-clock : let x = c.args in (literal_in x.s.now x.n).1.trigger ≡ clock (two x.s.now (16 * x.n + 6)) = let x = c.args in
    ap (λ k. literal_trigger_by k (byte x.s.now (16 * x.n + 5)) (two x.s.now (16 * x.n + 6))) (sym c.byte_of-code.ensures ∙ c.if-code-eq2.true) in
    let known : LiteralTriggerKnown c.args.shape.clocks (literal_in c.args.s.now c.args.n).1.trigger = let x = c.args in
    subst (λ l. LiteralTriggerKnown x.shape.clocks l.1.trigger) (literal-at x.s.now x.shape c.requires.0 x.n c.requires.1 c.requires.2) (literal-trigger-in x.s.now x.shape c.requires.0 x.n c.requires.1 c.requires.2) in
    let known-clock : c.two_of-k.result < c.args.shape.clocks = let x = c.args in
    let k : two x.s.now (16 * x.n + 6) < x.shape.clocks = subst (LiteralTriggerKnown x.shape.clocks) is-clock known in
    omega (arith, k, c.two_of-k.ensures) in
    omega (arith, known-clock, most-clocks c.args.s.now c.args.shape c.requires.0.shape)

pub ticks_of-requires : goal.ticks_of-requires
unfolding case_of
ticks_of-requires c =
    let is-clock : let x = c.args in (literal_in x.s.now x.n).1.trigger ≡ clock (two x.s.now (16 * x.n + 6)) = let x = c.args in
    ap (λ k. literal_trigger_by k (byte x.s.now (16 * x.n + 5)) (two x.s.now (16 * x.n + 6))) (sym c.byte_of-code.ensures ∙ c.if-code-eq2.true) in
    let known : LiteralTriggerKnown c.args.shape.clocks (literal_in c.args.s.now c.args.n).1.trigger = let x = c.args in
    subst (λ l. LiteralTriggerKnown x.shape.clocks l.1.trigger) (literal-at x.s.now x.shape c.requires.0 x.n c.requires.1 c.requires.2) (literal-trigger-in x.s.now x.shape c.requires.0 x.n c.requires.1 c.requires.2) in
    let known-clock : c.two_of-k.result < c.args.shape.clocks = let x = c.args in
    let k : two x.s.now (16 * x.n + 6) < x.shape.clocks = subst (LiteralTriggerKnown x.shape.clocks) is-clock known in
    omega (arith, k, c.two_of-k.ensures) in
    (c.requires.0.shape, known-clock)

pub returns-then-code-eq2 : goal.returns-then-code-eq2
unfolding case_of
returns-then-code-eq2 c =
    let is-clock : let x = c.args in (literal_in x.s.now x.n).1.trigger ≡ clock (two x.s.now (16 * x.n + 6)) = let x = c.args in
    ap (λ k. literal_trigger_by k (byte x.s.now (16 * x.n + 5)) (two x.s.now (16 * x.n + 6))) (sym c.byte_of-code.ensures ∙ c.if-code-eq2.true) in
    let known : LiteralTriggerKnown c.args.shape.clocks (literal_in c.args.s.now c.args.n).1.trigger = let x = c.args in
    subst (λ l. LiteralTriggerKnown x.shape.clocks l.1.trigger) (literal-at x.s.now x.shape c.requires.0 x.n c.requires.1 c.requires.2) (literal-trigger-in x.s.now x.shape c.requires.0 x.n c.requires.1 c.requires.2) in
    let known-clock : c.two_of-k.result < c.args.shape.clocks = let x = c.args in
    let k : two x.s.now (16 * x.n + 6) < x.shape.clocks = subst (LiteralTriggerKnown x.shape.clocks) is-clock known in
    omega (arith, k, c.two_of-k.ensures) in
    let x = c.args in
    λ vars.
    let r = bare_run x.clocks.now vars x.events in
    ap (eqb (get_or x.clocks.now c.two_of-k.result 0)) (c.ticks_of.ensures ∙ sym (ap (λ k. k.ticks) (clock-is x.s.now x.shape c.requires.0.shape c.two_of-k.result known-clock)))
    ∙ ap (λ k. literal_trigger_holds (read_automata x.s.now) r (clock k)) c.two_of-k.ensures
    ∙ ap (literal_trigger_holds (read_automata x.s.now) r) (sym is-clock)

pub returns : goal.returns
unfolding case_of
returns c =
    let is-always : let x = c.args in (literal_in x.s.now x.n).1.trigger ≡ always = let x = c.args in
    let b = c.byte_of-code in
    let z : literal_trigger_by b.result (byte x.s.now (16 * x.n + 5)) (two x.s.now (16 * x.n + 6)) ≡ always = rw (ne_eqb b.result 1 c.if-code-eq1.false, ne_eqb b.result 2 c.if-code-eq2.false) in
    ap (λ k. literal_trigger_by k (byte x.s.now (16 * x.n + 5)) (two x.s.now (16 * x.n + 6))) (sym b.ensures) ∙ z in
    let x = c.args in
    λ vars. ap (literal_trigger_holds (read_automata x.s.now) (bare_run x.clocks.now vars x.events)) (sym is-always)
