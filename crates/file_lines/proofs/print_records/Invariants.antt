-- The counts are those of the records behind.
use Rattle.file_lines.proofs.Counting.{Counted}
use Rattle.file_lines.proofs.print_records.Given as goal

abbrev pub invariant-loop-n : goal.invariant-loop-n
invariant-loop-n g l = Counted l.s l.n l.counts
