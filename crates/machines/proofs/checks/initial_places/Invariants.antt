use lib.ListN.{replicate}
use Rattle.machines.specs.Files.{initial_in}
use Rattle.prelude.proofs.Filled.{Filled}
use Rattle.machines.proofs.checks.initial_places.Given as goal

abbrev pub invariant-loop-c : goal.invariant-loop-c
invariant-loop-c l = Filled (initial_in l.s) 0 (replicate 8 0) l.at l.c
