-- A twin that was written had room. Assumes nothing.
use mathlib.Core.Path.{◌≡◌, refl, sym, ap, ◌∙◌, subst}
use mathlib.Core.Bool.{Bool, true, false}
use mathlib.Core.Option.{Option, some, none}
use mathlib.Core.List.{List, ◌++◌}
use Prim.Native.Nat.{ℕ, ◌≤◌}
use native.Mathlib.Omega.{arith}
use borrow.Author.Tests.{ltb-false}
use lib.Dec.{ltb}
use lib.ListN.{length, drop}
use Rattle.std.specs.Prelude.{Result, Ok}
use Rattle.records.specs.declared.refusals.Refusal as R
use Rattle.records.specs.Refusal.{Refusal, short_buffer, Out, val, fault, ◌>>◌, fault_if, unless_refused}
use Rattle.model.specs.Outcome.{settled}
use Rattle.model.specs.ChartFile.{charts_refusal}
use Rattle.model.specs.Translation.{twin_bytes, written, translate}
use Rattle.translation.specs.Answer.{answer_of, translated_of}

abbrev size : Out ℕ → ℕ
size (val n) = n
size (fault w) = 0

of-twin : (out buffer : List ℕ) (b : Bool) → ltb (length buffer) (length out) ≡ b
    → size (settled buffer (fault_if b short_buffer >> val (length out, out ++ drop (length out) buffer))).answer ≤ length buffer
of-twin out buffer true e = omega arith
of-twin out buffer false e = ltb-false (length buffer) (length out) e

of-set : (out buffer : List ℕ) (w : Option Refusal) → size (settled buffer (unless_refused w (written out buffer))).answer ≤ length buffer
of-set out buffer (some w) = omega arith
of-set out buffer none = of-twin out buffer (ltb (length buffer) (length out)) refl

pub room : (s buffer after : List ℕ) (r : Result ℕ R.Refusal) → translated_of r after ≡ translate s buffer → (n : ℕ) → r ≡ Ok n → n ≤ length buffer
room s buffer after r e n is =
    subst (λ k. k ≤ length buffer) (ap (λ o. size o.answer) (sym e) ∙ ap (λ x. size (answer_of x)) is) (of-set (twin_bytes s) buffer (charts_refusal s))
