use mathlib.Core.Path.{refl, sym, ap, ◌∙◌}
use native.Mathlib.Omega.{arith}
use lib.ListN.{length}
use Rattle.guard_writer.proofs.Codes.{sign-told}
use Rattle.guard_writer.proofs.measures.sign_bytes.Goals as goal

pub returns-in-None : goal.returns-in-None
returns-in-None c =
    (omega arith, omega (arith, ap length (sign-told c.args.code refl (sym c.in-None.is ∙ c.second_byte.ensures))))

pub returns-in-Some : goal.returns-in-Some
returns-in-Some c =
    (omega arith, omega (arith, ap length (sign-told c.args.code refl (sym c.in-Some.is ∙ c.second_byte.ensures))))
