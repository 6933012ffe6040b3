use mathlib.Core.Path.{◌≡◌, ap}
use mathlib.Core.Bool.{false}
use lib.Signed.{quot_z}
use Rattle.arithmetic.specs.Arithmetic.{in_range, is_zero}
use Rattle.arithmetic.proofs.Signed.{quotient-narrow, wide-result, zero_bits, other-bits}
use Rattle.arithmetic.proofs.Outcomes.{handed, of-divisor}
use Rattle.arithmetic.proofs.divide.Goals as goal

pub returns-then-b-eq0 : goal.returns-then-b-eq0
returns-then-b-eq0 c =
    rw (zero_bits c.ranges.b c.if-b-eq0.true) of-divisor

pub returns-else-b-eq0 : goal.returns-else-b-eq0
returns-else-b-eq0 c =
    let other : is_zero c.args.b ≡ false = other-bits c.args.b c.if-b-eq0.false in
    rw other (handed c.in_range.type_inv c.in_range.ensures (ap in_range (wide-result quot_z c.requires quotient-narrow)))
