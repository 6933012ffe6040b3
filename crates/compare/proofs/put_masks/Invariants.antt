-- The masks before `i` are written.
use Rattle.std.proofs.Common.{length, ◌≡◌}
use Rattle.records.specs.Wrote.{Wrote}
use Rattle.compare.specs.Masks.{masks_in}
use Rattle.compare.proofs.put_masks.Given as goal

abbrev pub invariant-loop-i : goal.invariant-loop-i
invariant-loop-i l = (length l.masks ≡ length l.initial.masks) × Wrote l.initial.masks 0 (masks_in l.i l.bytes) l.masks l.i
