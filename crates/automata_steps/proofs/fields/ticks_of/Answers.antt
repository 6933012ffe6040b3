use Prim.Native.Nat.{◌+◌}
use native.Mathlib.Omega.{arith}
use Rattle.automata_records.specs.Accepted.{FewRecords}
use Rattle.automata_steps.proofs.IndexRecords.{few-records, in-file}
use Rattle.automata_steps.proofs.fields.ticks_of.Goals as goal

pub first_clock-requires : goal.first_clock-requires
first_clock-requires c =
    let few : FewRecords c.args.shape = few-records c.args.s.now c.args.shape c.requires.0 in
    few

pub overflow_add-first_clock : goal.overflow_add-first_clock
overflow_add-first_clock c =
    let few : FewRecords c.args.shape = few-records c.args.s.now c.args.shape c.requires.0 in
    let f = few in omega (arith, c.first_clock.ensures, c.requires.1)

pub two_of-requires : goal.two_of-requires
two_of-requires c =
    (in-file c.args.s.now c.args.shape c.requires.0 (c.first_clock.result + c.args.k) (omega (arith, c.first_clock.ensures, c.requires.1)), omega arith)
