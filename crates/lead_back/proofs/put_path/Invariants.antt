-- The numbers before `i` are written.
use Rattle.std.proofs.Common.{length, ◌≡◌}
use Rattle.records.specs.Wrote.{Wrote}
use Rattle.lead_back.specs.Path.{numbers}
use Rattle.lead_back.proofs.put_path.Given as goal

abbrev pub invariant-loop-i : goal.invariant-loop-i
invariant-loop-i l =
    (length l.path ≡ length l.initial.path) × Wrote l.initial.path 0 (numbers l.i l.bytes) l.path l.i
