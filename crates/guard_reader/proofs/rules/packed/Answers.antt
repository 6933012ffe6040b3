use mathlib.Core.Path.{◌≡◌, refl, ◌∙◌}
use mathlib.Core.Bool.{Bool, true, false}
use mir.Val.{bool_byte}
use Prim.Native.Nat.{◌+◌, ◌*◌}
use Rattle.guard_reader.specs.Parts.{flag, parsed_of}
use Rattle.guard_reader.proofs.PackedParts.{parsed_of-packed}
use Rattle.guard_reader.proofs.rules.packed.Goals as goal

as-flag : (b : Bool) → bool_byte b ≡ flag b
as-flag true = refl
as-flag false = refl

pub returns : goal.returns
returns c =
    let p = c.args.p in
    (λ i. parsed_of (p.next + 512 * p.size + 262144 * (c.from.ensures ∙ as-flag p.fits) i + 524288 * (c.from-2.ensures ∙ as-flag p.truth) i)) ∙ parsed_of-packed p c.requires.0 c.requires.1 c.requires.2
