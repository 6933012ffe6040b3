-- The counts are those of the records behind: none before the first, and one more of its kind behind each.
use native.Mathlib.Omega.{arith}
use Rattle.std.proofs.Common.{◌*◌, ◌<◌}
use Rattle.records.specs.Bytes.{byte}
use Rattle.file_lines.proofs.Counting.{counted_none, counted-more, number-le}
use Rattle.file_lines.proofs.print_records.Goals as goal

pub loop-n-init : goal.loop-n-init
loop-n-init g c = counted_none _

pub overflow_add-counts : goal.overflow_add-counts
overflow_add-counts g c =
    let s = c.args.s.now in
    let l = c.loop-n in
    let k = byte s (16 * l.n) in
    let low : k < 256 = omega (arith, c.type_inv.s (16 * l.n)) in
    omega (arith, l.invariant.number k low, number-le s k l.n)

pub loop-n-preserved : goal.loop-n-preserved
loop-n-preserved g c =
    let s = c.args.s.now in
    let l = c.loop-n in
    let low : byte s (16 * l.n) < 256 = omega (arith, c.type_inv.s (16 * l.n)) in
    counted-more s l.n l.counts (omega arith) low l.invariant
