-- Sums over numbers in a row, counts as sums, and the lengths of gathered lists. Assumes nothing.
use mathlib.Core.Path.{◌≡◌, refl, sym, ap, ◌∙◌, subst}
use mathlib.Core.Bool.{Bool, true, false, not, cond, ◌&&◌, ◌||◌}
use mathlib.Core.List.{List, [], ◌∷◌, ◌++◌, map}
use Prim.Native.Nat.{ℕ, zero, suc, ◌+◌, ◌-◌, ◌*◌, ◌≤◌, ◌<◌, zero-le}
use native.Mathlib.Nat.{add-zero, zero-add, suc-mul}
use native.Mathlib.Omega.{arith}
use lib.Dec.{T, leb, ltb, eqb, eqb→eq, leb→le, ltb→lt, lt→ltb}
use lib.ListN.{length, get_or, length-append, length-map}
use Rattle.prelude.specs.Lists.{keep, all, count, gather, from, upto, mem, distinct}
use Rattle.prelude.specs.Owned.{of, by_owner}
use Rattle.prelude.specs.Lists.{bit}
use Rattle.prelude.proofs.Counts.{length-keep, below_next}
use Rattle.prelude.proofs.Bools.{and_left, and_right, is_true, is_false, of-true, not-of, ne→eqb, eqb-ne}
use Rattle.prelude.proofs.Lists.{all-imp}

-- f k + f (k + 1) + …: n of them
unfoldable pub sum_from : (ℕ → ℕ) → ℕ → ℕ → ℕ
sum_from f k zero = 0
sum_from f k (suc n) = f k + sum_from f (suc k) n

module _ (f g : ℕ → ℕ) where
  pub sum-le : (k n : ℕ) → ((i : ℕ) → i < k + n → f i ≤ g i) → sum_from f k n ≤ sum_from g k n
  unfolding sum_from
  sum-le k zero h = zero-le
  sum-le k (suc n) h =
      let a : f k ≤ g k = h k (omega arith) in
      let b : sum_from f (suc k) n ≤ sum_from g (suc k) n = sum-le (suc k) n (λ i l. h i (omega arith)) in
      omega arith

  pub sum_alike : (k n : ℕ) → ((i : ℕ) → k ≤ i → i < k + n → f i ≡ g i) → sum_from f k n ≡ sum_from g k n
  unfolding sum_from
  sum_alike k zero h = refl
  sum_alike k (suc n) h = λ i. h k (omega arith) (omega arith) i + sum_alike (suc k) n (λ j a b. h j (omega arith) (omega arith)) i

  pub sum-add : (k n : ℕ) → sum_from (λ i. f i + g i) k n ≡ sum_from f k n + sum_from g k n
  unfolding sum_from
  sum-add k zero = refl
  sum-add k (suc n) = let h : sum_from (λ i. f i + g i) (suc k) n ≡ sum_from f (suc k) n + sum_from g (suc k) n = sum-add (suc k) n in omega arith

module _ (f : ℕ → ℕ) where
  -- each at most m
  pub sum-most : (m k n : ℕ) → ((i : ℕ) → i < k + n → f i ≤ m) → sum_from f k n ≤ n * m
  unfolding sum_from
  sum-most m k zero h = zero-le
  sum-most m k (suc n) h =
      let a : f k ≤ m = h k (omega arith) in
      let b : sum_from f (suc k) n ≤ n * m = sum-most m (suc k) n (λ i l. h i (omega arith)) in
      let c : suc n * m ≡ n * m + m = suc-mul n m in
      omega arith

  pub sum-least : (k n : ℕ) → ((i : ℕ) → i < k + n → 1 ≤ f i) → n ≤ sum_from f k n
  unfolding sum_from
  sum-least k zero h = zero-le
  sum-least k (suc n) h =
      let a : 1 ≤ f k = h k (omega arith) in
      let b : n ≤ sum_from f (suc k) n = sum-least (suc k) n (λ i l. h i (omega arith)) in
      omega arith

  pub sum-append : (k m n : ℕ) → sum_from f k (m + n) ≡ sum_from f k m + sum_from f (k + m) n
  unfolding sum_from
  sum-append k zero n = (λ i. sum_from f (sym (add-zero k) i) (zero-add n i)) ∙ sym (zero-add (sum_from f (k + 0) n))
  sum-append k (suc m) n =
      let h : sum_from f (suc k) (m + n) ≡ sum_from f (suc k) m + sum_from f (suc k + m) n = sum-append (suc k) m n in
      let e : sum_from f (suc k + m) n ≡ sum_from f (k + suc m) n = ap (λ j. sum_from f j n) (let d : suc k + m ≡ k + suc m = omega arith in d) in
      ap (sum_from f k) (let d : suc m + n ≡ suc (m + n) = omega arith in d) ∙ omega arith

  -- counted from m on instead of from 0 on
  pub sum_moved : (m k n : ℕ) → sum_from (λ i. f (i - m)) (m + k) n ≡ sum_from f k n
  unfolding sum_from
  sum_moved m k zero = refl
  sum_moved m k (suc n) =
      λ i. f ((let d : m + k - m ≡ k = omega arith in d) i)
      + (ap (λ j. sum_from (λ i. f (i - m)) j n) (let d : suc (m + k) ≡ m + suc k = omega arith in d) ∙ sum_moved m (suc k) n) i

pub sum-zero : (k n : ℕ) → sum_from (λ i. 0) k n ≡ 0
unfolding sum_from
sum-zero k zero = refl
sum-zero k (suc n) = zero-add (sum_from (λ i. 0) (suc k) n) ∙ sum-zero (suc k) n

-- rows first or columns first
pub sum-swap : (f : ℕ → ℕ → ℕ) (k n j m : ℕ) → sum_from (λ i. sum_from (f i) j m) k n ≡ sum_from (λ u. sum_from (λ i. f i u) k n) j m
unfolding sum_from
sum-swap f k zero j m = sym (sum-zero j m)
sum-swap f k (suc n) j m = ap (λ x. sum_from (f k) j m + x) (sum-swap f (suc k) n j m) ∙ sym (sum-add (f k) (λ u. sum_from (λ i. f i u) (suc k) n) j m)

-- ---- counts

pub count-from : (p : ℕ → Bool) (k n : ℕ) → count p (from k n) ≡ sum_from (λ i. bit (p i)) k n
unfolding sum_from count from
count-from p k zero = refl
count-from p k (suc n) = go (p k) (count-from p (suc k) n)
  where
    go : (b : Bool) → count p (from (suc k) n) ≡ sum_from (λ i. bit (p i)) (suc k) n →
        cond b (suc (count p (from (suc k) n))) (count p (from (suc k) n)) ≡ bit b + sum_from (λ i. bit (p i)) (suc k) n
    go true e = omega arith
    go false e = omega arith

-- one number is met at most once, and once where it is among them
pub once-most : (x k n : ℕ) → sum_from (λ i. bit (eqb x i)) k n ≤ 1
unfolding sum_from
once-most x k zero = zero-le
once-most x k (suc n) = go (eqb x k) refl (once-most x (suc k) n)
  where
    later : (k n : ℕ) → x < k → sum_from (λ i. bit (eqb x i)) k n ≡ 0
    later k n h = sum_alike (λ i. bit (eqb x i)) (λ i. 0) k n (λ i a b. ap bit (ne→eqb {a = x} {b = i} (λ e. omega arith))) ∙ sum-zero k n

    go : (b : Bool) → eqb x k ≡ b → sum_from (λ i. bit (eqb x i)) (suc k) n ≤ 1 → bit b + sum_from (λ i. bit (eqb x i)) (suc k) n ≤ 1
    go true e h =
        let d : x ≡ k = eqb→eq x k (of-true e) in
        let z : sum_from (λ i. bit (eqb x i)) (suc k) n ≡ 0 = later (suc k) n (omega arith) in
        omega arith
    go false e h = omega arith

pub once-least : (x k n : ℕ) → k ≤ x → x < k + n → 1 ≤ sum_from (λ i. bit (eqb x i)) k n
unfolding sum_from
once-least x k zero a b = absurd (omega arith)
once-least x k (suc n) a b = go (eqb x k) refl (λ h. once-least x (suc k) n h (omega arith))
  where
    go : (p : Bool) → eqb x k ≡ p → (suc k ≤ x → 1 ≤ sum_from (λ i. bit (eqb x i)) (suc k) n) → 1 ≤ bit p + sum_from (λ i. bit (eqb x i)) (suc k) n
    go true e ih = omega arith
    go false e ih =
        let d : x ≡ k → ⊥ = eqb-ne e in
        let h : 1 ≤ sum_from (λ i. bit (eqb x i)) (suc k) n = ih (omega arith) in
        omega arith

module _ {A : Type 0} (q : A → Bool) where
  pub count-keep : (p : A → Bool) (xs : List A) → count p (keep q xs) ≡ count (λ x. q x && p x) xs
  unfolding count keep
  count-keep p [] = refl
  count-keep p (x ∷ xs) = go (q x) (count-keep p xs)
    where
      go : (b : Bool) → count p (keep q xs) ≡ count (λ x. q x && p x) xs →
          count p (cond b (x ∷ keep q xs) (keep q xs)) ≡ cond (b && p x) (suc (count (λ x. q x && p x) xs)) (count (λ x. q x && p x) xs)
      go true e = ap (λ n. cond (p x) (suc n) n) e
      go false e = e

  pub count-append : (xs ys : List A) → count q (xs ++ ys) ≡ count q xs + count q ys
  unfolding count
  count-append [] ys = sym (zero-add (count q ys))
  count-append (x ∷ xs) ys = go (q x) (count-append xs ys)
    where
      go : (b : Bool) → count q (xs ++ ys) ≡ count q xs + count q ys → cond b (suc (count q (xs ++ ys))) (count q (xs ++ ys)) ≡ cond b (suc (count q xs)) (count q xs) + count q ys
      go true e = omega arith
      go false e = e

  -- all of them, and none
  pub count-all : (xs : List A) → T (all q xs) → count q xs ≡ length xs
  unfolding count all
  count-all [] t = refl
  count-all (x ∷ xs) t = rw (is_true {b = q x} (and_left (q x) (all q xs) t)) (ap suc (count-all xs (and_right (q x) (all q xs) t)))

  pub count_none : (xs : List A) → T (all (λ x. not (q x)) xs) → count q xs ≡ 0
  unfolding count all
  count_none [] t = refl
  count_none (x ∷ xs) t = rw (is_false {b = q x} (and_left (not (q x)) (all (λ x. not (q x)) xs) t)) (count_none xs (and_right (not (q x)) (all (λ x. not (q x)) xs) t))

pub count_map : {A B : Type 0} (f : A → B) (p : B → Bool) (xs : List A) → count p (map f xs) ≡ count (λ x. p (f x)) xs
unfolding count
count_map f p [] = refl
count_map f p (x ∷ xs) = ap (λ n. cond (p (f x)) (suc n) n) (count_map f p xs)

count-later : (p : ℕ → Bool) (k n : ℕ) → count p (from (suc k) n) ≡ count (λ u. p (suc u)) (from k n)
unfolding count from
count-later p k zero = refl
count-later p k (suc n) = ap (λ m. cond (p (suc k)) (suc m) m) (count-later p (suc k) n)

-- by numbers instead of in the list
pub count-places : {A : Type 0} (p : A → Bool) (d : A) (xs : List A) → count (λ u. p (get_or xs u d)) (upto (length xs)) ≡ count p xs
unfolding count from
count-places p d [] = refl
count-places p d (x ∷ xs) = ap (λ m. cond (p x) (suc m) m) (count-later (λ u. p (get_or (x ∷ xs) u d)) 0 (length xs) ∙ count-places p d xs)

-- below a number by key: those of each key in turn
pub count-below : {A : Type 0} (key : A → ℕ) (xs : List A) (k n : ℕ) →
    sum_from (λ q. count (λ x. eqb (key x) q) xs) k n + count (λ x. ltb (key x) k) xs ≡ count (λ x. ltb (key x) (k + n)) xs
unfolding sum_from
count-below key xs k zero = zero-add (count (λ x. ltb (key x) k) xs) ∙ ap (λ m. count (λ x. ltb (key x) m) xs) (sym (add-zero k))
count-below key xs k (suc n) =
    let b : count (λ x. ltb (key x) (suc k)) xs ≡ count (λ x. ltb (key x) k) xs + count (λ x. eqb (key x) k) xs = below_next key k xs in
    let h : sum_from (λ q. count (λ x. eqb (key x) q) xs) (suc k) n + count (λ x. ltb (key x) (suc k)) xs ≡ count (λ x. ltb (key x) (suc k + n)) xs = count-below key xs (suc k) n in
    let e : count (λ x. ltb (key x) (suc k + n)) xs ≡ count (λ x. ltb (key x) (k + suc n)) xs = ap (λ m. count (λ x. ltb (key x) m) xs) (let d : suc k + n ≡ k + suc n = omega arith in d) in
    omega arith

-- ---- a pigeonhole: so many different numbers from 1 to n

not_in : (x : ℕ) (xs : List ℕ) → mem x xs ≡ false → count (λ y. eqb y x) xs ≡ 0
unfolding mem count
not_in x [] e = refl
not_in x (y ∷ ys) e = go (eqb y x) e (not_in x ys)
  where
    go : (b : Bool) → (b || mem x ys) ≡ false → (mem x ys ≡ false → count (λ y. eqb y x) ys ≡ 0) → cond b (suc (count (λ y. eqb y x) ys)) (count (λ y. eqb y x) ys) ≡ 0
    go true e ih = absurd (subst T e tt)
    go false e ih = ih e

pub distinct-once : (xs : List ℕ) → T (distinct xs) → (q : ℕ) → count (λ x. eqb x q) xs ≤ 1
unfolding distinct count
distinct-once [] t q = zero-le
distinct-once (x ∷ xs) t q = go (eqb x q) refl (distinct-once xs (and_right (not (mem x xs)) (distinct xs) t) q)
  where
    go : (b : Bool) → eqb x q ≡ b → count (λ x. eqb x q) xs ≤ 1 → cond b (suc (count (λ x. eqb x q) xs)) (count (λ x. eqb x q) xs) ≤ 1
    go true e h =
        let z : count (λ y. eqb y x) xs ≡ 0 = not_in x xs (is_false {b = mem x xs} (and_left (not (mem x xs)) (distinct xs) t)) in
        let d : count (λ y. eqb y x) xs ≡ count (λ y. eqb y q) xs = ap (λ m. count (λ y. eqb y m) xs) (eqb→eq x q (of-true e)) in
        omega arith
    go false e h = h

pub distinct-few : (n : ℕ) (xs : List ℕ) → T (distinct xs) → T (all (λ x. leb 1 x && leb x n) xs) → length xs ≤ n
distinct-few n xs d t =
    let a : sum_from (λ q. count (λ x. eqb x q) xs) 1 n + count (λ x. ltb x 1) xs ≡ count (λ x. ltb x (1 + n)) xs = count-below (λ x. x) xs 1 n in
    let b : count (λ x. ltb x 1) xs ≡ 0 = count_none (λ x. ltb x 1) xs (all-imp (λ x. leb 1 x && leb x n) (λ x. not (ltb x 1)) low xs t) in
    let c : count (λ x. ltb x (1 + n)) xs ≡ length xs = count-all (λ x. ltb x (1 + n)) xs (all-imp (λ x. leb 1 x && leb x n) (λ x. ltb x (1 + n)) high xs t) in
    let e : sum_from (λ q. count (λ x. eqb x q) xs) 1 n ≤ n * 1 = sum-most (λ q. count (λ x. eqb x q) xs) 1 1 n (λ q l. distinct-once xs d q) in
    omega arith
  where
    low : (x : ℕ) → T (leb 1 x && leb x n) → T (not (ltb x 1))
    low x u = let l : 1 ≤ x = leb→le 1 x (and_left (leb 1 x) (leb x n) u) in not-of (ltb x 1) (λ v. let m : x < 1 = ltb→lt x 1 v in omega arith)

    high : (x : ℕ) → T (leb 1 x && leb x n) → T (ltb x (1 + n))
    high x u = let l : x ≤ n = leb→le x n (and_right (leb 1 x) (leb x n) u) in lt→ltb x (1 + n) (omega arith)

-- ---- lengths

pub length-gathered : {A : Type 0} (f : ℕ → List A) (k n : ℕ) → length (gather f (from k n)) ≡ sum_from (λ j. length (f j)) k n
unfolding sum_from gather from
length-gathered f k zero = refl
length-gathered f k (suc n) = length-append (f k) (gather f (from (suc k) n)) ∙ ap (λ m. length (f k) + m) (length-gathered f (suc k) n)

pub length-owned : {A : Type 0} (n : ℕ) (f : ℕ → List A) → length (by_owner n f) ≡ sum_from (λ k. length (f k)) 0 n
length-owned n f = length-gathered (λ k. map (λ x. (k, x)) (f k)) 0 n ∙ sum_alike (λ k. length (map (λ x. (k, x)) (f k))) (λ k. length (f k)) 0 n (λ k a b. length-map (f k) (λ x. (k, x)))

pub length-of : {A : Type 0} (n : ℕ) (xs : List (ℕ × A)) → length (of n xs) ≡ count (λ x. eqb x.0 n) xs
length-of n xs = length-map (keep (λ x. eqb x.0 n) xs) (λ x. x.1) ∙ length-keep (λ x. eqb x.0 n) xs
