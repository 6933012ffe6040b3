use mathlib.Core.Path.{◌≡◌}
use lib.ListN.{drop}
use Rattle.guards.specs.Grammar.{unspaced}
use Rattle.guard_reader.proofs.lexemes.skip.Given as goal

abbrev pub invariant-loop-i : goal.invariant-loop-i
invariant-loop-i l = unspaced (drop l.at l.text) ≡ unspaced (drop l.i l.text)
