-- A test of all numbers below a size, by a loop that counts up; and conjunctions without the last `true`. Assumes nothing.
use mathlib.Core.Path.{◌≡◌, refl, sym, ap, ◌∙◌}
use mathlib.Core.Bool.{Bool, true, false, ◌&&◌}
use mathlib.Core.List.{[], ◌∷◌}
use Prim.Native.Nat.{ℕ, suc, ◌+◌, ◌-◌, ◌≤◌, ◌<◌}
use native.Mathlib.Nat.{sub-zero}
use native.Mathlib.Omega.{arith}
use Rattle.prelude.specs.Lists.{all, from, upto}

pub and_one : (a : Bool) → a ≡ a && true
and_one true = refl
and_one false = refl

pub and-two : (a b : Bool) → (a && b) ≡ a && (b && true)
and-two a b = ap (λ x. a && x) (and_one b)

pub and-three : (a b c : Bool) → (a && b && c) ≡ a && (b && (c && true))
and-three true b c = and-two b c
and-three false b c = refl

pub and_assoc : (a b c : Bool) → (a && (b && c)) ≡ (a && b && c)
and_assoc true b c = refl
and_assoc false b c = refl

-- what is left of the numbers below a size, from i on
pub left-more : (i size : ℕ) → i < size → from i (size - i) ≡ i ∷ from (i + 1) (size - (i + 1))
unfolding from
left-more i size h =
    let e : size - i ≡ suc (size - (i + 1)) = omega arith in
    let f : suc i ≡ i + 1 = omega arith in
    ap (from i) e ∙ ap (λ j. i ∷ from j (size - (i + 1))) f

pub left-none : (i size : ℕ) → size ≤ i → from i (size - i) ≡ []
unfolding from
left-none i size h = let e : size - i ≡ 0 = omega arith in ap (from i) e

module _ (p : ℕ → Bool) (size : ℕ) where
  -- those below i passed: the test is that of the others
  abbrev pub Passed : ℕ → Type 0
  Passed i = (i ≤ size) × (all p (upto size) ≡ all p (from i (size - i)))

  pub passed_none : Passed 0
  passed_none = (omega arith, ap (λ k. all p (from 0 k)) (sym (sub-zero size)))

  step : (i : ℕ) → i < size → all p (from i (size - i)) ≡ (p i && all p (from (i + 1) (size - (i + 1))))
  unfolding all
  step i h = ap (all p) (left-more i size h)

  pub passed-more : (i : ℕ) → Passed i → i < size → p i ≡ true → Passed (i + 1)
  passed-more i h l e = (omega arith, h.1 ∙ step i l ∙ ap (λ b. b && all p (from (i + 1) (size - (i + 1)))) e)

  pub passed-all : (i : ℕ) → Passed i → size ≤ i → all p (upto size) ≡ true
  unfolding all
  passed-all i h l = h.1 ∙ ap (all p) (left-none i size l)

  pub passed-not : (i : ℕ) → Passed i → i < size → p i ≡ false → all p (upto size) ≡ false
  passed-not i h l e = h.1 ∙ step i l ∙ ap (λ b. b && all p (from (i + 1) (size - (i + 1)))) e

  -- ---- a loop that is not left early: the flag says of those below i whether they passed

  abbrev pub Flagged : Bool → ℕ → Type 0
  Flagged f i = all p (upto size) ≡ (f && all p (from i (size - i)))

  pub flagged-none : Flagged true 0
  flagged-none = passed_none.1

  pub flagged-more : (f : Bool) {b : Bool} (i : ℕ) → Flagged f i → i < size → b ≡ p i → Flagged (f && b) (i + 1)
  flagged-more f i h l e =
      let others = all p (from (i + 1) (size - (i + 1))) in
      h ∙ ap (λ x. f && x) (step i l) ∙ and_assoc f (p i) others ∙ ap (λ x. f && x && others) (sym e)

  pub flagged-all : (f : Bool) (i : ℕ) → Flagged f i → size ≤ i → f ≡ all p (upto size)
  unfolding all
  flagged-all f i h l = and_one f ∙ sym (h ∙ ap (λ r. f && all p r) (left-none i size l))
