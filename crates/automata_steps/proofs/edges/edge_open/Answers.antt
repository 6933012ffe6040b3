use mathlib.Core.Path.{sym, ap, ◌∙◌}
use mathlib.Core.Bool.{false}
use Prim.Native.Nat.{◌≤◌, ◌<◌}
use native.Mathlib.Omega.{arith}
use Rattle.std.proofs.lemmas.Result.{err_from_is_err_and}
use Rattle.model.specs.Limits.{most_edges, table_records}
use Rattle.expressions.specs.Answers.{value_reason_of}
use Rattle.records.specs.Refusal.{val, fault}
use Rattle.model.specs.AutomataTable.{read_automata}
use Rattle.model.specs.Automata.{literal_holds, reads}
use Rattle.automata_records.specs.Places.{first_clock, literal_in}
use Rattle.automata_records.proofs.PlacesRead.{most-edges}
use Rattle.automata_steps.specs.StepOf.{bare_run}
use Rattle.automata_steps.proofs.IndexWalk.{walk_from, walk-rises, walk_more, walk_ends, walk-done}
use Rattle.automata_steps.proofs.IndexRecords.{few-records, literals-of}
use Rattle.automata_steps.proofs.StepOfOpen.{read-true, read-false, read-fault, read_none}
use Rattle.automata_steps.proofs.edges.edge_open.Goals as goal

pub overflow_add-n : goal.overflow_add-n
overflow_add-n c =
    let few-edges : c.args.e < most_edges = omega (arith, c.requires.2, most-edges c.args.s.now c.args.shape c.requires.0.shape) in
    omega (arith, few-edges)

pub bounds-first-e : goal.bounds-first-e
bounds-first-e c =
    let few-edges : c.args.e < most_edges = omega (arith, c.requires.2, most-edges c.args.s.now c.args.shape c.requires.0.shape) in
    omega (arith, few-edges)

pub loop-n-init : goal.loop-n-init
loop-n-init c =
    let small : first_clock c.args.shape ≤ table_records = let f = few-records c.args.s.now c.args.shape c.requires.0.shape in omega arith in
    let few-edges : c.args.e < most_edges = omega (arith, c.requires.2, most-edges c.args.s.now c.args.shape c.requires.0.shape) in
    let x = c.args in
    walk_from small tt _ (c.requires.1.literals.first_of x.e few-edges)
    (ap (reads (literal_holds (read_automata x.s.now) (bare_run x.clocks.now x.vars.now x.events))) (literals-of x.s.now x.shape c.requires.0.shape x.e))

pub returns-in_err-literal_holds : goal.returns-in_err-literal_holds
returns-in_err-literal_holds c =
    let small : first_clock c.args.shape ≤ table_records = let f = few-records c.args.s.now c.args.shape c.requires.0.shape in omega arith in
    let x = c.args in
    let r = bare_run x.clocks.now x.vars.now x.events in
    let p = err_from_is_err_and c.from_residual.result c.from_residual.ensures.1 in
    rw (p.1, p.2)
    (sym
    (walk_ends small c.loop-n.invariant c.loop-n-test.true (fault (value_reason_of c.in_err-literal_holds.field-0.0))
    (read-fault (literal_holds (read_automata x.s.now) r) (λ m. (literal_in x.s.now m).1) c.loop-n.n (value_reason_of c.in_err-literal_holds.field-0.0)
    c.in_err-literal_holds.ensures)))

pub loop-n-smaller : goal.loop-n-smaller
loop-n-smaller c =
    let small : first_clock c.args.shape ≤ table_records = let f = few-records c.args.s.now c.args.shape c.requires.0.shape in omega arith in
    omega (arith, walk-rises small c.loop-n.invariant c.loop-n-test.true c.args.next.now c.requires.1.literals.next_of)

pub loop-n-preserved : goal.loop-n-preserved
loop-n-preserved c =
    let small : first_clock c.args.shape ≤ table_records = let f = few-records c.args.s.now c.args.shape c.requires.0.shape in omega arith in
    let x = c.args in
    let r = bare_run x.clocks.now x.vars.now x.events in
    walk_more small c.loop-n.invariant c.loop-n-test.true c.args.next.now c.requires.1.literals.next_of tt
    (read-true (literal_holds (read_automata x.s.now) r) (λ m. (literal_in x.s.now m).1) c.loop-n.n
    (ap val (sym c.if-not-branch.false) ∙ c.in_ok-literal_holds.ensures))

pub returns-then-not-branch : goal.returns-then-not-branch
returns-then-not-branch c =
    let small : first_clock c.args.shape ≤ table_records = let f = few-records c.args.s.now c.args.shape c.requires.0.shape in omega arith in
    let x = c.args in
    let r = bare_run x.clocks.now x.vars.now x.events in
    sym
    (walk_ends small c.loop-n.invariant c.loop-n-test.true (val false)
    (read-false (literal_holds (read_automata x.s.now) r) (λ m. (literal_in x.s.now m).1) c.loop-n.n
    (ap val (sym c.if-not-branch.true) ∙ c.in_ok-literal_holds.ensures)))

pub returns : goal.returns
returns c =
    let x = c.args in
    sym
    (walk-done c.loop-n.invariant c.loop-n-test.false
    ∙ read_none (literal_holds (read_automata x.s.now) (bare_run x.clocks.now x.vars.now x.events)) (λ m. (literal_in x.s.now m).1))
