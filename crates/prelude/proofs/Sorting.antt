-- Sorting by a key of few values: those of the first value, then those of the next, and so on, each in the order given. Assumes nothing.
use mathlib.Core.Path.{◌≡◌, refl, sym, ap, ◌∙◌}
use mathlib.Core.Bool.{Bool, true, false, cond, ◌&&◌}
use mathlib.Core.List.{List, [], ◌∷◌, ◌++◌}
use Prim.Native.Nat.{ℕ, zero, suc, ◌+◌, ◌≤◌, ◌<◌}
use native.Mathlib.Omega.{arith}
use lib.Dec.{leb, ltb, eqb}
use borrow.Author.Tests.{le-leb, lt-leb, eq-eqb, ne_eqb, leb-true, ltb-true, eqb-true, eqb-false}
use Rattle.prelude.specs.Lists.{keep, insert, sorted, gather, from, all}
use Rattle.prelude.proofs.Counts.{and-true}

module _ {A : Type 0} (key : A → ℕ) where
  -- those of one key, and those of n keys from k on
  abbrev pub bucket : List A → ℕ → List A
  bucket xs q = keep (λ x. eqb (key x) q) xs

  abbrev pub buckets : List A → ℕ → ℕ → List A
  buckets xs k n = gather (bucket xs) (from k n)

  -- what a list begins with, if with anything, has at least the key k
  abbrev Low : ℕ → List A → Type 0
  Low k [] = Unit
  Low k (y ∷ ys) = k ≤ key y

  low-bucket : (xs : List A) (k q : ℕ) (rest : List A) → k ≤ q → Low k rest → Low k (bucket xs q ++ rest)
  unfolding keep
  low-bucket [] k q rest h l = l
  low-bucket (x ∷ xs) k q rest h l = go (eqb (key x) q) refl (low-bucket xs k q rest h l)
    where
      go : (b : Bool) → eqb (key x) q ≡ b → Low k (bucket xs q ++ rest) → Low k (cond b (x ∷ bucket xs q) (bucket xs q) ++ rest)
      go true e ih = let m : key x ≡ q = eqb-true (key x) q e in omega arith
      go false e ih = ih

  low-buckets : (xs : List A) (k j n : ℕ) → k ≤ j → Low k (buckets xs j n)
  unfolding gather from
  low-buckets xs k j zero h = tt
  low-buckets xs k j (suc n) h = low-bucket xs k j (buckets xs (suc j) n) h (low-buckets xs k (suc j) n (omega arith))

  -- put before all that have at least its key
  insert-front : (x : A) (ys : List A) → Low (key x) ys → insert key x ys ≡ x ∷ ys
  unfolding insert
  insert-front x [] h = refl
  insert-front x (y ∷ ys) h = rw (le-leb (key x) (key y) h)

  -- put past all that have a lower key
  insert-past : (x : A) (xs : List A) (q : ℕ) (rest : List A) → q < key x → insert key x (bucket xs q ++ rest) ≡ bucket xs q ++ insert key x rest
  unfolding insert keep
  insert-past x [] q rest h = refl
  insert-past x (y ∷ ys) q rest h = go (eqb (key y) q) refl (insert-past x ys q rest h)
    where
      go : (b : Bool) → eqb (key y) q ≡ b → insert key x (bucket ys q ++ rest) ≡ bucket ys q ++ insert key x rest →
          insert key x (cond b (y ∷ bucket ys q) (bucket ys q) ++ rest) ≡ cond b (y ∷ bucket ys q) (bucket ys q) ++ insert key x rest
      go true e ih = let m : key y ≡ q = eqb-true (key y) q e in rw (lt-leb (key x) (key y) (omega arith)) (ap (λ l. y ∷ l) ih)
      go false e ih = ih

  bucket-other : (x : A) (xs : List A) (q : ℕ) → (key x ≡ q → ⊥) → bucket (x ∷ xs) q ≡ bucket xs q
  unfolding keep
  bucket-other x xs q h = rw (ne_eqb (key x) q h)

  bucket-same : (x : A) (xs : List A) (q : ℕ) → key x ≡ q → bucket (x ∷ xs) q ≡ x ∷ bucket xs q
  unfolding keep
  bucket-same x xs q h = rw (eq-eqb (key x) q h)

  buckets-other : (x : A) (xs : List A) (k n : ℕ) → key x < k → buckets (x ∷ xs) k n ≡ buckets xs k n
  unfolding gather from
  buckets-other x xs k zero h = refl
  buckets-other x xs k (suc n) h = rw (bucket-other x xs k (λ e. absurd (omega arith)), buckets-other x xs (suc k) n (omega arith))

  insert-bucket : (x : A) (xs : List A) (k n : ℕ) → k ≤ key x → key x < k + n → insert key x (buckets xs k n) ≡ buckets (x ∷ xs) k n
  unfolding gather from
  insert-bucket x xs k zero h l = absurd (omega arith)
  insert-bucket x xs k (suc n) h l = go (eqb (key x) k) refl (insert-bucket x xs (suc k) n)
    where
      go : (b : Bool) → eqb (key x) k ≡ b → (suc k ≤ key x → key x < suc k + n → insert key x (buckets xs (suc k) n) ≡ buckets (x ∷ xs) (suc k) n) →
          insert key x (bucket xs k ++ buckets xs (suc k) n) ≡ bucket (x ∷ xs) k ++ buckets (x ∷ xs) (suc k) n
      go true e ih =
          let m : key x ≡ k = eqb-true (key x) k e in
          insert-front x (bucket xs k ++ buckets xs (suc k) n) (low-bucket xs (key x) k (buckets xs (suc k) n) (omega arith) (low-buckets xs (key x) (suc k) n (omega arith)))
          ∙ sym (rw (bucket-same x xs k m, buckets-other x xs (suc k) n (omega arith)))
      go false e ih =
          let m : key x ≡ k → ⊥ = eqb-false (key x) k e in
          insert-past x xs k (buckets xs (suc k) n) (omega arith) ∙ rw (bucket-other x xs k m, ih (omega arith) (omega arith))

  buckets-none : (k n : ℕ) → buckets [] k n ≡ []
  unfolding gather from keep
  buckets-none k zero = refl
  buckets-none k (suc n) = buckets-none (suc k) n

  -- sorted, if all keys are among n from k on
  pub sorted-buckets : (k n : ℕ) (xs : List A) → all (λ x. leb k (key x) && ltb (key x) (k + n)) xs ≡ true → sorted key xs ≡ buckets xs k n
  unfolding sorted all
  sorted-buckets k n [] h = sym (buckets-none k n)
  sorted-buckets k n (x ∷ xs) h =
      let t : ((leb k (key x) && ltb (key x) (k + n)) ≡ true) × (all (λ x. leb k (key x) && ltb (key x) (k + n)) xs ≡ true) = and-true _ _ h in
      let b : (leb k (key x) ≡ true) × (ltb (key x) (k + n) ≡ true) = and-true _ _ t.0 in
      ap (insert key x) (sorted-buckets k n xs t.1) ∙ insert-bucket x xs k n (leb-true k (key x) b.0) (ltb-true (key x) (k + n) b.1)
