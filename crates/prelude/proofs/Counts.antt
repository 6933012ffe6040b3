-- How many pass a test, tables of the numbers below n, and truths taken apart. Assumes nothing.
use mathlib.Core.Path.{◌≡◌, refl, sym, ap, ◌∙◌, subst}
use mathlib.Core.Bool.{Bool, true, false, cond, ◌&&◌}
use mathlib.Core.List.{List, [], ◌∷◌, map}
use Prim.Native.Nat.{ℕ, zero, suc, ◌+◌, ◌≤◌, ◌<◌, zero-le}
use native.Mathlib.Nat.{lt_irrefl}
use native.Mathlib.Omega.{arith}
use borrow.Author.Count.{below_more}
use borrow.Author.Tests.{lt-ltb, le-ltb, ltb-true, ltb-false, eqb-true, eqb-false}
use lib.Dec.{T, ltb, eqb}
use lib.ListN.{length, get_or, set}
use lib.Seq.{get_or-set_same, get_or-set_other, ext_get_or}
use Rattle.prelude.specs.Lists.{count, keep, from, upto}

pub impossible : {A : Type 0} → true ≡ false → A
impossible e = absurd (subst T e tt)

pub and-true : (a b : Bool) → (a && b) ≡ true → (a ≡ true) × (b ≡ true)
and-true true true e = (refl, refl)
and-true true false e = impossible (sym e)
and-true false b e = impossible (sym e)

-- ---- how many pass a test

module _ {A : Type 0} (p : A → Bool) where
  pub count-le : (xs : List A) → count p xs ≤ length xs
  unfolding count
  count-le [] = zero-le
  count-le (x ∷ xs) = go (p x) (count-le xs)
    where
      go : (b : Bool) → count p xs ≤ length xs → cond b (suc (count p xs)) (count p xs) ≤ suc (length xs)
      go true h = omega arith
      go false h = omega arith

  pub length-keep : (xs : List A) → length (keep p xs) ≡ count p xs
  unfolding count keep
  length-keep [] = refl
  length-keep (x ∷ xs) = go (p x) (length-keep xs)
    where
      go : (b : Bool) → length (keep p xs) ≡ count p xs → length (cond b (x ∷ keep p xs) (keep p xs)) ≡ cond b (suc (count p xs)) (count p xs)
      go true h = ap suc h
      go false h = h

module _ {A : Type 0} (key : A → ℕ) where
  -- below the next number: below this one, or equal to it
  pub below_next : (k : ℕ) (xs : List A) → count (λ x. ltb (key x) (suc k)) xs ≡ count (λ x. ltb (key x) k) xs + count (λ x. eqb (key x) k) xs
  unfolding count
  below_next k [] = refl
  below_next k (x ∷ xs) = go (ltb (key x) k) refl (eqb (key x) k) refl (below_next k xs)
    where
      go : (a : Bool) → ltb (key x) k ≡ a → (b : Bool) → eqb (key x) k ≡ b →
          count (λ x. ltb (key x) (suc k)) xs ≡ count (λ x. ltb (key x) k) xs + count (λ x. eqb (key x) k) xs →
          cond (ltb (key x) (suc k)) (suc (count (λ x. ltb (key x) (suc k)) xs)) (count (λ x. ltb (key x) (suc k)) xs)
          ≡ cond a (suc (count (λ x. ltb (key x) k) xs)) (count (λ x. ltb (key x) k) xs) + cond b (suc (count (λ x. eqb (key x) k) xs)) (count (λ x. eqb (key x) k) xs)
      go true ea true eb ih = let l : key x < k = ltb-true (key x) k ea in let m : key x ≡ k = eqb-true (key x) k eb in absurd (omega arith)
      go true ea false eb ih = let l : key x < k = ltb-true (key x) k ea in rw (lt-ltb (key x) (suc k) (omega arith)) (omega arith)
      go false ea true eb ih = let m : key x ≡ k = eqb-true (key x) k eb in rw (lt-ltb (key x) (suc k) (omega arith)) (omega arith)
      go false ea false eb ih =
          let l : k ≤ key x = ltb-false (key x) k ea in
          let m : key x ≡ k → ⊥ = eqb-false (key x) k eb in
          rw (le-ltb (key x) (suc k) (omega arith)) (omega arith)

-- ---- tables of the numbers below n

module _ {A : Type 0} (f : ℕ → A) where
  get_or-from : (d : A) (k n j : ℕ) → j < n → get_or (map f (from k n)) j d ≡ f (k + j)
  unfolding from
  get_or-from d k zero j h = absurd (omega arith)
  get_or-from d k (suc n) zero h = ap f (let e : k ≡ k + 0 = omega arith in e)
  get_or-from d k (suc n) (suc j) h = get_or-from d (suc k) n j (omega arith) ∙ ap f (let e : suc k + j ≡ k + suc j = omega arith in e)

  pub length_from : (k n : ℕ) → length (map f (from k n)) ≡ n
  unfolding from
  length_from k zero = refl
  length_from k (suc n) = ap suc (length_from (suc k) n)

  pub get_or-upto : (d : A) (n j : ℕ) → j < n → get_or (map f (upto n)) j d ≡ f j
  get_or-upto d n j h = get_or-from d 0 n j h ∙ ap f (let e : 0 + j ≡ j = omega arith in e)

  pub is-table : (d : A) (n : ℕ) (l : List A) → length l ≡ n → ((j : ℕ) → j < n → get_or l j d ≡ f j) → l ≡ map f (upto n)
  is-table d n l e h = ext_get_or d l (map f (upto n)) (e ∙ sym (length_from 0 n)) (λ j b. let c : j < n = omega arith in h j c ∙ sym (get_or-upto d n j c))

  -- one more of it is written
  pub table_more : (d : A) (k : ℕ) (l : List A) → k < length l → ((j : ℕ) → j < k → get_or l j d ≡ f j) → (j : ℕ) → j < k + 1 → get_or (set l k (f k)) j d ≡ f j
  table_more d k l h so_far =
      below_more (λ j. get_or (set l k (f k)) j d ≡ f j) k
      (λ j b. get_or-set_other l k j (f k) d (λ e. lt_irrefl k (omega arith)) ∙ so_far j b)
      (get_or-set_same l k (f k) d h)
