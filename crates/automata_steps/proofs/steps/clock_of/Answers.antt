use mathlib.Core.Path.{subst}
use Prim.Native.Nat.{◌<◌}
use native.Mathlib.Omega.{arith}
use Rattle.automata_records.specs.Places.{reset_in}
use Rattle.automata_steps.proofs.IndexRecords.{in-file, clock-in, reset-at}
use Rattle.automata_steps.proofs.steps.clock_of.Goals as goal

pub two_of-requires : goal.two_of-requires
two_of-requires c =
    (in-file c.args.s.now c.args.shape c.requires.0.shape c.args.n c.requires.2, omega arith)

pub returns : goal.returns
returns c =
    let x = c.args in
    let h : (reset_in x.s.now x.n).1 < x.shape.clocks = subst (λ r. r.1 < x.shape.clocks) (reset-at x.s.now x.shape c.requires.0 x.n c.requires.1 c.requires.2) (clock-in x.s.now x.shape c.requires.0 x.n c.requires.1 c.requires.2) in
    (c.two_of.ensures, omega (arith, h, c.two_of.ensures))
