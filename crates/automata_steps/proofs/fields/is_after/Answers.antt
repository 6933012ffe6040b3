use mathlib.Core.Path.{ap, ◌∙◌}
use Prim.Native.Nat.{◌+◌, ◌*◌}
use native.Mathlib.Omega.{arith}
use lib.Dec.{eqb}
use Rattle.prelude.specs.Lists.{case_of}
use Rattle.records.specs.Bytes.{byte}
use Rattle.timings.specs.Growth.{timing_if}
use Rattle.automata_records.specs.Accepted.{FewRecords}
use Rattle.automata_steps.proofs.IndexRecords.{few-records, in-file}
use Rattle.automata_steps.proofs.fields.is_after.Goals as goal

pub first_clock-requires : goal.first_clock-requires
first_clock-requires c =
    let few : FewRecords c.args.shape = few-records c.args.s.now c.args.shape c.requires.0 in
    few

pub overflow_add-first_clock : goal.overflow_add-first_clock
overflow_add-first_clock c =
    let few : FewRecords c.args.shape = few-records c.args.s.now c.args.shape c.requires.0 in
    let f = few in omega (arith, c.first_clock.ensures, c.requires.1)

pub byte_of-requires : goal.byte_of-requires
byte_of-requires c =
    (in-file c.args.s.now c.args.shape c.requires.0 (c.first_clock.result + c.args.k) (omega (arith, c.first_clock.ensures, c.requires.1)), omega arith)

pub returns : goal.returns
unfolding case_of
returns c =
    let x = c.args in
    ap (λ b. timing_if (eqb b 2)) (c.byte_of.ensures ∙ ap (λ n. byte x.s.now (16 * (n + x.k) + 1)) c.first_clock.ensures)
