-- The unused bytes of a literal's record, by its code. Assumes nothing.
use mathlib.Core.Path.{◌≡◌, refl, sym}
use mathlib.Core.Bool.{◌&&◌, ◌||◌}
use mathlib.Core.List.{List, [], ◌∷◌}
use Prim.Native.Nat.{ℕ, zero, suc}
use native.Mathlib.Omega.{arith}
use borrow.Author.Tests.{lt-ltb, le-leb, ne_eqb}
use lib.Dec.{leb, ltb, eqb}
use Rattle.prelude.specs.Lists.{case_of}
use Rattle.prelude.proofs.Loops.{and_one}
use Rattle.model.specs.ChartFile.{zero_bytes, unused_are_zero}
use Rattle.record_tests.proofs.UnusedRanges.{unused-one, unused-two}
use Rattle.record_tests.proofs.UnusedWords.{joined, deed-unused}

abbrev literal_ranges : List (ℕ × List (ℕ × ℕ))
literal_ranges = (0, (5, 7) ∷ []) ∷ (1, (6, 7) ∷ []) ∷ (2, (5, 5) ∷ []) ∷ []

-- an event at 5, a clock at 6
pub literal-unused : (r : List ℕ) (k : ℕ) →
    (zero_bytes 10 15 r && ((eqb k 1 || ltb 2 k || zero_bytes 5 5 r) && (leb 2 k || zero_bytes 6 7 r))) ≡ unused_are_zero ((10, 15) ∷ case_of k literal_ranges []) r
unfolding case_of
literal-unused r zero = unused-two r (10, 15) (5, 7) ((5, 7) ∷ []) refl (joined r 5 5 7 (omega arith) (omega arith) refl refl) refl
literal-unused r (suc zero) = unused-two r (10, 15) (6, 7) ((6, 7) ∷ []) refl refl refl
literal-unused r (suc (suc zero)) = unused-two r (10, 15) (5, 5) ((5, 5) ∷ []) refl (sym (and_one (zero_bytes 5 5 r))) refl
literal-unused r (suc (suc (suc n))) =
    let k = suc (suc (suc n)) in
    rw (ne_eqb k 0 (λ e. omega arith), ne_eqb k 1 (λ e. omega arith), ne_eqb k 2 (λ e. omega arith), lt-ltb 2 k (omega arith), le-leb 2 k (omega arith))
    (unused-one r (10, 15) [] (sym (and_one (zero_bytes 10 15 r))) refl)

-- how the ranges that a record leaves unused are tested
pub ruleset ranges = (unused-one, unused-two, joined)

-- what the codes of literals and of deeds leave unused
pub ruleset by_code = (literal-unused, deed-unused)
