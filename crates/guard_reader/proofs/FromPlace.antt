-- Spaces and numbers of a text, byte by byte from a place on, and the bytes of an operator. Assumes nothing.
use mathlib.Core.Path.{◌≡◌, refl, sym, ap, ◌∙◌}
use mathlib.Core.Bool.{Bool, true, false, not, cond, ◌&&◌}
use mathlib.Core.List.{List, [], ◌∷◌}
use Prim.Native.Nat.{ℕ, zero, suc, ◌+◌, ◌-◌, ◌*◌, ◌≤◌, ◌<◌}
use native.Mathlib.Nat.{add-zero}
use native.Mathlib.Numerals.{add-one}
use native.Mathlib.Omega.{arith}
use Rattle.std.proofs.Common.{Option, Some, None}
use borrow.Author.Tests.{lt-ltb, le-ltb, eq-eqb, ne_eqb}
use lib.Dec.{eqb}
use lib.ListN.{length, get_or, drop}
use lib.Seq.{drop-cons, get_or-drop}
use Rattle.records.specs.Bytes.{byte}
use Rattle.records.specs.Refusal.{broken_line, Out, ◌>>◌, fault_if}
use Rattle.guards.specs.Grammar.{Read, read, outside, unspaced, is_digit, digits_after, up_to, numeral, operator_by, operator_at}
use Rattle.guards.proofs.Numerals.{digits-by, digits_after-grows}
use Rattle.guard_reader.specs.Places.{ReadsNumber}

drop-end : (s : List ℕ) (i : ℕ) → length s ≤ i → drop i s ≡ []
drop-end [] zero h = refl
drop-end [] (suc i) h = refl
drop-end (b ∷ s) zero h = absurd (omega arith)
drop-end (b ∷ s) (suc i) h = drop-end s i (omega arith)

-- a byte behind a place
pub byte-first : (s : List ℕ) (i : ℕ) → byte (drop i s) 0 ≡ byte s i
byte-first s i = get_or-drop i s 0 0 ∙ ap (byte s) (add-zero i)

pub byte-second : (s : List ℕ) (i : ℕ) → byte (drop i s) 1 ≡ byte s (i + 1)
byte-second s i = get_or-drop i s 1 0

-- a byte that is not 0 stands inside
pub byte_inside : (s : List ℕ) (i : ℕ) → (byte s i ≡ 0 → ⊥) → i < length s
byte_inside [] zero n = absurd (n refl)
byte_inside [] (suc i) n = absurd (n refl)
byte_inside (b ∷ s) zero n = omega arith
byte_inside (b ∷ s) (suc i) n = let h : i < length s = byte_inside s i n in omega arith

-- ---- spaces

unspaced-by : (b : ℕ) (s : List ℕ) → unspaced (b ∷ s) ≡ cond (eqb b 32) (unspaced s) (b ∷ s)
unfolding unspaced
unspaced-by b s = refl

module _ (s : List ℕ) (i : ℕ) where
  pub unspaced-end : length s ≤ i → drop i s ≡ unspaced (drop i s)
  unfolding unspaced
  unspaced-end h = rw (drop-end s i h) refl

  module _ (h : i < length s) where
    step : unspaced (drop i s) ≡ cond (eqb (get_or s i 0) 32) (unspaced (drop (suc i) s)) (get_or s i 0 ∷ drop (suc i) s)
    step = ap unspaced (drop-cons s i 0 h) ∙ unspaced-by (get_or s i 0) (drop (suc i) s)

    pub unspaced-space : get_or s i 0 ≡ 32 → unspaced (drop i s) ≡ unspaced (drop (i + 1) s)
    unspaced-space e = step ∙ ap (λ t. cond t (unspaced (drop (suc i) s)) (get_or s i 0 ∷ drop (suc i) s)) (eq-eqb (get_or s i 0) 32 e) ∙ ap (λ k. unspaced (drop k s)) (sym (add-one i))

    pub unspaced-other : (get_or s i 0 ≡ 32 → ⊥) → drop i s ≡ unspaced (drop i s)
    unspaced-other n = drop-cons s i 0 h ∙ sym (step ∙ ap (λ t. cond t (unspaced (drop (suc i) s)) (get_or s i 0 ∷ drop (suc i) s)) (ne_eqb (get_or s i 0) 32 n))

-- ---- digits

pub no-digit-end : (s : List ℕ) (i : ℕ) → length s ≤ i → is_digit (byte s i) ≡ false
no-digit-end [] zero h = refl
no-digit-end [] (suc i) h = refl
no-digit-end (b ∷ s) zero h = absurd (omega arith)
no-digit-end (b ∷ s) (suc i) h = no-digit-end s i (omega arith)

module _ (s : List ℕ) (i n : ℕ) where
  pub digits-end : length s ≤ i → digits_after n (drop i s) ≡ record { got = n; rest = drop i s }
  unfolding digits_after
  digits-end h = rw (drop-end s i h) refl

  module _ (h : i < length s) where
    digit-step : digits_after n (drop i s) ≡ cond (is_digit (get_or s i 0)) (digits_after (10 * n + (get_or s i 0 - 48)) (drop (suc i) s)) (record { got = n; rest = get_or s i 0 ∷ drop (suc i) s })
    digit-step = ap (digits_after n) (drop-cons s i 0 h) ∙ digits-by n (get_or s i 0) (drop (suc i) s)

    pub digits_more : is_digit (get_or s i 0) ≡ true → digits_after n (drop i s) ≡ digits_after (10 * n + (get_or s i 0 - 48)) (drop (i + 1) s)
    digits_more e =
        digit-step
        ∙ ap (λ t. cond t (digits_after (10 * n + (get_or s i 0 - 48)) (drop (suc i) s)) (record { got = n; rest = get_or s i 0 ∷ drop (suc i) s })) e
        ∙ ap (λ k. digits_after (10 * n + (get_or s i 0 - 48)) (drop k s)) (sym (add-one i))

    pub digits-other : is_digit (get_or s i 0) ≡ false → digits_after n (drop i s) ≡ record { got = n; rest = drop i s }
    digits-other e =
        digit-step
        ∙ ap (λ t. cond t (digits_after (10 * n + (get_or s i 0 - 48)) (drop (suc i) s)) (record { got = n; rest = get_or s i 0 ∷ drop (suc i) s })) e
        ∙ ap (λ r. record { got = n; rest = r }) (sym (drop-cons s i 0 h))

-- more digits make no smaller number, so one that is too large stays so
pub too_large : (most n : ℕ) (s : List ℕ) → most < n → up_to most (digits_after n s) ≡ outside
too_large most n s h = rw (lt-ltb most (digits_after n s).got (let g : n ≤ (digits_after n s).got = digits_after-grows n s in omega arith)) refl

pub within : (most n : ℕ) (s r : List ℕ) → n ≤ most → digits_after n s ≡ record { got = n; rest = r } → up_to most (digits_after n s) ≡ read n r
within most n s r h e = ap (up_to most) e ∙ rw (le-ltb most n h) refl

-- ---- a number, by its first two bytes

abbrev numeral_by : Bool → Bool → ℕ → Read ℕ → Out (Read ℕ)
numeral_by digit zeros most n = fault_if (not digit) broken_line >> (fault_if zeros broken_line >> up_to most n)

module _ (most : ℕ) (s : List ℕ) (i : ℕ) where
  numeral-at : numeral most (drop i s) ≡ numeral_by (is_digit (byte s i)) (eqb (byte s i) 48 && is_digit (byte s (i + 1))) most (digits_after 0 (drop i s))
  numeral-at x = numeral_by (is_digit (byte-first s i x)) (eqb (byte-first s i x) 48 && is_digit (byte-second s i x)) most (digits_after 0 (drop i s))

  numeral-as : (d z : Bool) → is_digit (byte s i) ≡ d → (eqb (byte s i) 48 && is_digit (byte s (i + 1))) ≡ z → numeral most (drop i s) ≡ numeral_by d z most (digits_after 0 (drop i s))
  numeral-as d z e f = numeral-at ∙ (λ x. numeral_by (e x) (f x) most (digits_after 0 (drop i s)))

  pub no-numeral : is_digit (byte s i) ≡ false → numeral most (drop i s) ≡ outside
  no-numeral e = numeral-as false _ e refl

  pub leading-zero : is_digit (byte s i) ≡ true → (eqb (byte s i) 48 && is_digit (byte s (i + 1))) ≡ true → numeral most (drop i s) ≡ outside
  leading-zero e f = numeral-as true true e f

  -- one that is read has a digit at least
  pub numeral-read : is_digit (byte s i) ≡ true → (eqb (byte s i) 48 && is_digit (byte s (i + 1))) ≡ false → (r : Option (ℕ × ℕ)) → ReadsNumber s i most (up_to most (digits_after 0 (drop i s))) r → ReadsNumber s (i + 1) most (numeral most (drop i s)) r
  numeral-read e f (Some x) h = record { same = numeral-as true false e f ∙ h.same; low = h.low; stops = h.stops; onward = further; inside = h.inside }
    where
      apart : i ≡ x.1 → ⊥
      apart g = let z : true ≡ false = sym e ∙ ap (λ k. is_digit (byte s k)) g ∙ h.stops in let y : ◌≡◌ {A = ℕ} 0 1 = cc in omega arith

      further : i + 1 ≤ x.1
      further = let l : i ≤ x.1 = h.onward in omega (arith, apart)
  numeral-read e f None h = numeral-as true false e f ∙ h

-- ---- an operator, by its two bytes

pub operator-at : (s : List ℕ) (i : ℕ) → operator_by (byte s i) (byte s (i + 1)) ≡ operator_at (drop i s)
operator-at s i x = operator_by (sym (byte-first s i) x) (sym (byte-second s i) x)
