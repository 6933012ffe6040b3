use native.Mathlib.Omega.{arith}
use Rattle.automata_steps.proofs.IndexRecords.{in-file}
use Rattle.automata_steps.proofs.literals.literal_holds.Goals as goal

pub must_hold-must-requires : goal.must_hold-must-requires
must_hold-must-requires c =
    in-file c.args.s.now c.args.shape c.requires.0.shape c.args.n (omega (arith, c.requires.2))
