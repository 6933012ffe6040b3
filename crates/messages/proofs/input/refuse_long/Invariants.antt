-- The buffer keeps its length.
use Rattle.std.proofs.Common.{length, ◌≡◌}
use Rattle.messages.proofs.input.refuse_long.Given as goal

abbrev pub invariant-loop : goal.invariant-loop
invariant-loop g l = length l.buf ≡ length l.initial.buf
