use native.Mathlib.Omega.{arith}
use Rattle.automata_records.proofs.NamedThings.{ticks-known}
use Rattle.automata_records.proofs.PlacesRead.{most-clocks}
use Rattle.alike.proofs.runs.clock_alike.Goals as goal

pub bounds-clocks-i : goal.bounds-clocks-i
bounds-clocks-i c = omega (arith, c.requires.1, most-clocks c.args.t.now c.args.shape c.requires.0.shape)

pub clock_for-requires : goal.clock_for-requires
clock_for-requires c = omega (arith, c.ticks_of.ensures, (ticks-known c.args.t.now c.args.shape c.requires.0.shape c.requires.0.unrefused c.args.k c.requires.1).0)
