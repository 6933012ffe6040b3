use mathlib.Core.Path.{◌≡◌}
use mathlib.Core.Bool.{false}
use Prim.Native.Nat.{◌≤◌, ◌<◌, ◌^◌}
use native.Mathlib.Omega.{arith}
use borrow.Author.Tests.{lt-ltb}
use lib.Signed.{mag, rem_z, mag_rem}
use Rattle.arithmetic.specs.Arithmetic.{is_zero}
use Rattle.arithmetic.proofs.Signed.{remainder-narrow, wide-result, zero_bits, other-bits}
use Rattle.arithmetic.proofs.Outcomes.{stands_at, of_number, of-divisor}
use Rattle.arithmetic.proofs.remainder.Goals as goal

pub returns-then-b-eq0 : goal.returns-then-b-eq0
returns-then-b-eq0 c =
    rw (zero_bits c.ranges.b c.if-b-eq0.true) of-divisor

pub returns-else-b-eq0 : goal.returns-else-b-eq0
returns-else-b-eq0 c =
    let z = rem_z c.args.a c.args.b in
    let other : is_zero c.args.b ≡ false = other-bits c.args.b c.if-b-eq0.false in
    let m : mag z ≤ mag c.args.a = mag_rem c.args.a c.args.b in
    let l : mag z < 2 ^ 31 = omega (arith, c.requires.first) in
    rw (other, lt-ltb (mag z) (2 ^ 31) l) (stands_at (wide-result rem_z c.requires remainder-narrow) (of_number z l))
