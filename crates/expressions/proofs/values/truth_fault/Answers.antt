use mathlib.Core.Path.{refl, sym, ap, ◌∙◌}
use mathlib.Core.Bool.{true, false}
use lib.IntN.{pos}
use lib.Signed.{le_z}
use mir.Facts.{to_z-of_z}
use Rattle.records.specs.Refusal.{fault}
use Rattle.arithmetic.specs.Outcomes.{fault_of}
use Rattle.arithmetic.proofs.Outcomes.{truth-same, of-fault}
use Rattle.expressions.proofs.values.truth_fault.Goals as goal

pub returns-then-z-le-OUT_OF_RANGE : goal.returns-then-z-le-OUT_OF_RANGE
returns-then-z-le-OUT_OF_RANGE c =
    truth-same (of-fault true refl) (ap (λ b. fault (fault_of b)) (sym c.if-z-le-OUT_OF_RANGE.true ∙ ap (λ y. le_z y (pos 4294967296)) (to_z-of_z c.ranges.z)))

pub returns-else-z-le-OUT_OF_RANGE : goal.returns-else-z-le-OUT_OF_RANGE
returns-else-z-le-OUT_OF_RANGE c =
    truth-same (of-fault false refl) (ap (λ b. fault (fault_of b)) (sym c.if-z-le-OUT_OF_RANGE.false ∙ ap (λ y. le_z y (pos 4294967296)) (to_z-of_z c.ranges.z)))
