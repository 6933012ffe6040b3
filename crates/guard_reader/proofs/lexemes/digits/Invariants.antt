use mathlib.Core.Path.{◌≡◌}
use Prim.Native.Nat.{◌≤◌}
use lib.ListN.{drop}
use Rattle.guards.specs.Grammar.{digits_after}
use Rattle.guard_reader.proofs.lexemes.digits.Given as goal

abbrev pub invariant-loop-i : goal.invariant-loop-i
invariant-loop-i l = (l.n ≤ l.most) × (digits_after 0 (drop l.at l.text) ≡ digits_after l.n (drop l.i l.text))
