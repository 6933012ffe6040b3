use mathlib.Core.Path.{sym, ap, ◌∙◌}
use Prim.Native.Nat.{◌+◌, ◌≤◌, ◌<◌}
use native.Mathlib.Omega.{arith}
use Rattle.model.specs.Limits.{most_clocks, table_records}
use Rattle.model.specs.Automata.{reset}
use Rattle.automata_records.specs.Places.{first_reset, reset_in}
use Rattle.automata_records.proofs.PlacesRead.{most-clocks}
use Rattle.automata_steps.proofs.IndexWalk.{walk_from, walk-rises, walk_more, walk-done}
use Rattle.automata_steps.proofs.IndexRecords.{few-records, resets-of}
use Rattle.automata_steps.proofs.StepOf.{reset-one, reset-none}
use Rattle.automata_steps.proofs.steps.reset_clocks.Goals as goal

pub loop-n-init : goal.loop-n-init
loop-n-init c =
    let small : first_reset c.args.shape + c.args.shape.resets ≤ table_records = few-records c.args.s.now c.args.shape c.requires.0.shape in
    let x = c.args in
    walk_from small x.clocks.now _ c.requires.3 (ap (λ ks. reset ks x.clocks.now) (resets-of x.s.now x.shape c.requires.0.shape x.e))

pub bounds-clocks-k : goal.bounds-clocks-k
bounds-clocks-k c =
    let few-clocks : c.clock_of-k.result < most_clocks = omega (arith, c.clock_of-k.ensures.1, most-clocks c.args.s.now c.args.shape c.requires.0.shape) in
    few-clocks

pub loop-n-smaller : goal.loop-n-smaller
loop-n-smaller c =
    let small : first_reset c.args.shape + c.args.shape.resets ≤ table_records = few-records c.args.s.now c.args.shape c.requires.0.shape in
    omega (arith, walk-rises small c.loop-n.invariant c.loop-n-test.true c.args.next.now c.requires.1)

pub loop-n-preserved : goal.loop-n-preserved
loop-n-preserved c =
    let small : first_reset c.args.shape + c.args.shape.resets ≤ table_records = few-records c.args.s.now c.args.shape c.requires.0.shape in
    let x = c.args in
    let l = c.loop-n in
    walk_more small l.invariant c.loop-n-test.true x.next.now c.requires.1 _
    (reset-one (λ m. (reset_in x.s.now m).1) l.n c.clock_of-k.result l.clocks c.clock_of-k.ensures.0)

pub returns : goal.returns
returns c =
    let x = c.args in
    sym (walk-done c.loop-n.invariant c.loop-n-test.false ∙ reset-none (λ m. (reset_in x.s.now m).1) c.loop-n.clocks)
