-- Tests and counts over the numbers below a size, and over lists made of them. Assumes nothing.
use mathlib.Core.Path.{◌≡◌, refl, sym, ap, ◌∙◌}
use mathlib.Core.Bool.{Bool, true, false, not, cond, ◌&&◌, ◌||◌}
use mathlib.Core.List.{List, [], ◌∷◌, ◌++◌}
use Prim.Native.Nat.{ℕ, zero, suc, ◌+◌, ◌<◌}
use native.Mathlib.Nat.{zero-add}
use native.Mathlib.Omega.{arith}
use Rattle.prelude.specs.Lists.{all, any, count, from, upto}
use Rattle.prelude.proofs.Counts.{impossible, and-true}
use Rattle.prelude.proofs.Loops.{and_assoc}
use Rattle.prelude.proofs.Maps.{all_map, count_map, alike-upto}

-- two tests are one where each passes with the other
pub same_truth : (a b : Bool) → (a ≡ true → b ≡ true) → (b ≡ true → a ≡ true) → a ≡ b
same_truth true b f g = sym (f refl)
same_truth false true f g = g refl
same_truth false false f g = refl

pub both_true : {a b : Bool} → a ≡ true → b ≡ true → (a && b) ≡ true
both_true p q = λ i. p i && q i

-- ---- all numbers below n

module _ (p : ℕ → Bool) where
  from_at : (k n j : ℕ) → j < n → all p (from k n) ≡ true → p (k + j) ≡ true
  unfolding all from
  from_at k zero j h e = absurd (omega arith)
  from_at k (suc n) zero h e = ap p (let m : k + 0 ≡ k = omega arith in m) ∙ (and-true (p k) (all p (from (suc k) n)) e).0
  from_at k (suc n) (suc j) h e =
      ap p (let m : k + suc j ≡ suc k + j = omega arith in m) ∙ from_at (suc k) n j (omega arith) (and-true (p k) (all p (from (suc k) n)) e).1

  from-by : (k n : ℕ) → ((j : ℕ) → j < n → p (k + j) ≡ true) → all p (from k n) ≡ true
  unfolding all from
  from-by k zero f = refl
  from-by k (suc n) f =
      both_true (ap p (let m : k ≡ k + 0 = omega arith in m) ∙ f 0 (omega arith))
      (from-by (suc k) n (λ j h. ap p (let m : suc k + j ≡ k + suc j = omega arith in m) ∙ f (suc j) (omega arith)))

  pub all-at : (n j : ℕ) → j < n → all p (upto n) ≡ true → p j ≡ true
  all-at n j h e = ap p (let m : j ≡ 0 + j = omega arith in m) ∙ from_at 0 n j h e

  pub all-by : (n : ℕ) → ((j : ℕ) → j < n → p j ≡ true) → all p (upto n) ≡ true
  all-by n f = from-by 0 n (λ j h. ap p (let m : 0 + j ≡ j = omega arith in m) ∙ f j h)

module _ (p q : ℕ → Bool) (n : ℕ) (alike : (j : ℕ) → j < n → p j ≡ q j) where
  pub all_alike : all p (upto n) ≡ all q (upto n)
  all_alike = sym (all_map p (λ b. b) (upto n)) ∙ ap (all (λ b. b)) (alike-upto p q n alike) ∙ all_map q (λ b. b) (upto n)

  pub count-alike : count p (upto n) ≡ count q (upto n)
  count-alike = sym (count_map p (λ b. b) (upto n)) ∙ ap (count (λ b. b)) (alike-upto p q n alike) ∙ count_map q (λ b. b) (upto n)

-- ---- all, and how many, of lists made of lists

pub never : {A : Type 0} (xs : List A) → count (λ x. false) xs ≡ 0
unfolding count
never [] = refl
never (x ∷ xs) = never xs

module _ {A : Type 0} where
  pub all_append : (p : A → Bool) (xs ys : List A) → all p (xs ++ ys) ≡ (all p xs && all p ys)
  unfolding all
  all_append p [] ys = refl
  all_append p (x ∷ xs) ys = ap (λ b. p x && b) (all_append p xs ys) ∙ and_assoc (p x) (all p xs) (all p ys)

  pub count-append : (p : A → Bool) (xs ys : List A) → count p (xs ++ ys) ≡ count p xs + count p ys
  unfolding count
  count-append p [] ys = sym (zero-add (count p ys))
  count-append p (x ∷ xs) ys = go (p x) (count-append p xs ys)
    where
      go : (b : Bool) → count p (xs ++ ys) ≡ count p xs + count p ys →
          cond b (suc (count p (xs ++ ys))) (count p (xs ++ ys)) ≡ cond b (suc (count p xs)) (count p xs) + count p ys
      go true e = omega arith
      go false e = omega arith

  pub not-any : (p : A → Bool) (xs : List A) → not (any p xs) ≡ all (λ x. not (p x)) xs
  unfolding any all
  not-any p [] = refl
  not-any p (x ∷ xs) = go (p x) (not-any p xs)
    where
      go : (b : Bool) → not (any p xs) ≡ all (λ x. not (p x)) xs → not (b || any p xs) ≡ (not b && all (λ x. not (p x)) xs)
      go true e = refl
      go false e = e

  pub all_both : (p q : A → Bool) (xs : List A) → all (λ x. p x && q x) xs ≡ (all p xs && all q xs)
  unfolding all
  all_both p q [] = refl
  all_both p q (x ∷ xs) = ap (λ b. (p x && q x) && b) (all_both p q xs) ∙ go (p x) (q x) (all p xs) (all q xs)
    where
      go : (a b c d : Bool) → ((a && b) && (c && d)) ≡ ((a && c) && (b && d))
      go true true c d = refl
      go true false true d = refl
      go true false false d = refl
      go false b c d = refl

  pub count-either : (p q : A → Bool) → ((x : A) → (p x && q x) ≡ false) → (xs : List A) → count p xs + count q xs ≡ count (λ x. p x || q x) xs
  unfolding count
  count-either p q apart [] = refl
  count-either p q apart (x ∷ xs) = go (p x) (q x) (apart x) (count-either p q apart xs)
    where
      go : (a b : Bool) → (a && b) ≡ false → count p xs + count q xs ≡ count (λ x. p x || q x) xs →
          cond a (suc (count p xs)) (count p xs) + cond b (suc (count q xs)) (count q xs) ≡ cond (a || b) (suc (count (λ x. p x || q x) xs)) (count (λ x. p x || q x) xs)
      go true true z e = impossible z
      go true false z e = omega arith
      go false true z e = omega arith
      go false false z e = e
