use mathlib.Core.Path.{◌≡◌, subst}
use mathlib.Core.Bool.{false}
use Prim.Native.Nat.{◌<◌, ◌^◌}
use borrow.Author.Tests.{lt-ltb}
use lib.Dec.{ltb}
use lib.IntN.{ℤ, pos}
use lib.Signed.{mag}
use mir.Facts.{to_z-of_z}
use mir.Syntax.{w64}
use mir.Val.{to_z, of_z}
use Rattle.records.specs.Refusal.{val, fault, out_of_range}
use Rattle.arithmetic.specs.Arithmetic.{in_range}
use Rattle.arithmetic.specs.Outcomes.{StandsFor}
use Rattle.arithmetic.proofs.Signed.{between-range, below, above-range}
use Rattle.arithmetic.proofs.Outcomes.{stands_same, of_number, of_range}
use Rattle.arithmetic.proofs.in_range.Goals as goal
use Rattle.arithmetic.proofs.in_range.Goals.{else-z-geminus2147483648-via-then-z-geminus2147483648+else-z-le-HIGHEST, else-z-geminus2147483648-via-else-z-geminus2147483648}

inside : {z y : ℤ} → y ≡ z → mag y < 2 ^ 31 → StandsFor y (in_range z)
inside {z} {y} e h = stands_same (of_number y h) (subst (λ x. val y ≡ in_range x) e (rw (lt-ltb (mag y) (2 ^ 31) h)))

outside : {z y : ℤ} → y ≡ z → ltb (mag y) (2 ^ 31) ≡ false → StandsFor (pos 4294967296) (in_range z)
outside e h = stands_same of_range (subst (λ x. fault out_of_range ≡ in_range x) e (rw h))

pub returns-then-z-le-HIGHEST : goal.returns-then-z-le-HIGHEST
returns-then-z-le-HIGHEST c =
    inside (to_z-of_z c.ranges.z) (between-range (to_z w64 (of_z w64 c.args.z)) c.if-z-geminus2147483648.true c.if-z-le-HIGHEST.true)

pub returns-else-z-geminus2147483648 : goal.returns-else-z-geminus2147483648
returns-else-z-geminus2147483648 c =
    let e : to_z w64 (of_z w64 c.args.z) ≡ c.args.z = to_z-of_z c.ranges.z in
    let z : ℤ = to_z w64 (of_z w64 c.args.z) in
    elim c.else-z-geminus2147483648.branch [
      | else-z-geminus2147483648-via-then-z-geminus2147483648+else-z-le-HIGHEST w ↦ outside e (above-range z w.if-z-le-HIGHEST.false)
      | else-z-geminus2147483648-via-else-z-geminus2147483648 w ↦ outside e (below z w.if-z-geminus2147483648.false)
    ]
