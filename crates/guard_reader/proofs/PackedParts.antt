-- The one number that a rule answers, and what it stands for. Assumes nothing.
use mathlib.Core.Path.{◌≡◌, refl, ap, ◌∙◌}
use mathlib.Core.Bool.{Bool, true, false, cond}
use Prim.Native.Nat.{ℕ, ◌+◌, ◌*◌, ◌/◌, ◌%◌, ◌≤◌, ◌<◌}
use native.Mathlib.Omega.{arith}
use borrow.Author.Tests.{eq-eqb, ne_eqb}
use Rattle.std.proofs.Common.{Option, Some, None}
use lib.Dec.{eqb}
use Rattle.guard_reader.specs.Parts.{flag, parsed_of}
use Rattle.guard_reader.specs.declared.trees.Part.{Part}

abbrev part_in : ℕ → Option Part
part_in r = Some (record { next = r % 512; size = r / 512 % 512; fits = eqb (r / 262144 % 2) 1; truth = eqb (r / 524288 % 2) 1 })

pub parsed_of-zero : parsed_of 0 ≡ None
unfolding parsed_of
parsed_of-zero = refl

pub parsed_of-none : (r : ℕ) → r ≡ 0 → parsed_of r ≡ None
parsed_of-none r e = ap parsed_of e ∙ parsed_of-zero

pub parsed_of-some : (r : ℕ) → (r ≡ 0 → ⊥) → parsed_of r ≡ part_in r
unfolding parsed_of
parsed_of-some r n = ap (λ b. cond b None (part_in r)) (ne_eqb r 0 n)

abbrev number : ℕ → ℕ → Bool → Bool → ℕ
number next size fits truth = next + 512 * size + 262144 * flag fits + 524288 * flag truth

flag-told : (b : Bool) (n : ℕ) → n ≡ flag b → eqb n 1 ≡ b
flag-told true n e = eq-eqb n 1 e
flag-told false n e = ne_eqb n 1 (λ f. omega arith)

module _ (n s : ℕ) (near : n ≤ 256) (few : s ≤ 256) where
  next-in : (f t : Bool) → number n s f t % 512 ≡ n
  next-in true true = omega arith
  next-in true false = omega arith
  next-in false true = omega arith
  next-in false false = omega arith

  size_in : (f t : Bool) → number n s f t / 512 % 512 ≡ s
  size_in true true = omega arith
  size_in true false = omega arith
  size_in false true = omega arith
  size_in false false = omega arith

  fits_in : (f t : Bool) → number n s f t / 262144 % 2 ≡ flag f
  fits_in true true = omega arith
  fits_in true false = omega arith
  fits_in false true = omega arith
  fits_in false false = omega arith

  truth-in : (f t : Bool) → number n s f t / 524288 % 2 ≡ flag t
  truth-in true true = omega arith
  truth-in true false = omega arith
  truth-in false true = omega arith
  truth-in false false = omega arith

pub parsed_of-packed : (p : Part) → 0 < p.next → p.next ≤ 256 → p.size ≤ 256 → parsed_of (number p.next p.size p.fits p.truth) ≡ Some p
parsed_of-packed p some near few =
    let r = number p.next p.size p.fits p.truth in
    parsed_of-some r (λ z. omega arith)
    ∙ (λ i. Some (record {
      next = next-in p.next p.size near few p.fits p.truth i;
      size = size_in p.next p.size near few p.fits p.truth i;
      fits = flag-told p.fits (r / 262144 % 2) (fits_in p.next p.size near few p.fits p.truth) i;
      truth = flag-told p.truth (r / 524288 % 2) (truth-in p.next p.size near few p.fits p.truth) i;
    }))

pub flag-least : (b : Bool) → flag b ≤ 1
flag-least true = omega arith
flag-least false = omega arith
