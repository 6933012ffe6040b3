-- Laws of the words about lists: of a list that is mapped, of those kept, and of tests that agree. Assumes nothing.
use mathlib.Core.Path.{◌≡◌, refl, sym, ap, ◌∙◌}
use mathlib.Core.Bool.{Bool, true, false, not, cond, ◌&&◌, ◌||◌}
use mathlib.Core.List.{List, [], ◌∷◌, ◌++◌, map}
use Prim.Native.Nat.{ℕ, zero, suc, ◌+◌, ◌<◌}
use native.Mathlib.Omega.{arith}
use Rattle.prelude.specs.Lists.{all, any, count, keep, gather, from, upto, case_of}

-- ---- of a list that is mapped

module _ {A B : Type 0} (f : A → B) where
  pub all_map : (p : B → Bool) (xs : List A) → all p (map f xs) ≡ all (λ x. p (f x)) xs
  unfolding all
  all_map p [] = refl
  all_map p (x ∷ xs) = ap (λ b. p (f x) && b) (all_map p xs)

  pub any-map : (p : B → Bool) (xs : List A) → any p (map f xs) ≡ any (λ x. p (f x)) xs
  unfolding any
  any-map p [] = refl
  any-map p (x ∷ xs) = ap (λ b. p (f x) || b) (any-map p xs)

  pub count_map : (p : B → Bool) (xs : List A) → count p (map f xs) ≡ count (λ x. p (f x)) xs
  unfolding count
  count_map p [] = refl
  count_map p (x ∷ xs) = ap (λ n. cond (p (f x)) (suc n) n) (count_map p xs)

  pub keep-map : (p : B → Bool) (xs : List A) → keep p (map f xs) ≡ map f (keep (λ x. p (f x)) xs)
  unfolding keep
  keep-map p [] = refl
  keep-map p (x ∷ xs) = go (p (f x)) (keep-map p xs)
    where
      go : (b : Bool) → keep p (map f xs) ≡ map f (keep (λ x. p (f x)) xs) →
          cond b (f x ∷ keep p (map f xs)) (keep p (map f xs)) ≡ map f (cond b (x ∷ keep (λ x. p (f x)) xs) (keep (λ x. p (f x)) xs))
      go true e = ap (λ l. f x ∷ l) e
      go false e = e

  pub map-map : {C : Type 0} (g : B → C) (xs : List A) → map g (map f xs) ≡ map (λ x. g (f x)) xs
  map-map g [] = refl
  map-map g (x ∷ xs) = ap (λ l. g (f x) ∷ l) (map-map g xs)

  pub gather-map : {C : Type 0} (g : B → List C) (xs : List A) → gather g (map f xs) ≡ gather (λ x. g (f x)) xs
  unfolding gather
  gather-map g [] = refl
  gather-map g (x ∷ xs) = ap (λ l. g (f x) ++ l) (gather-map g xs)

pub gather-singles : {A B : Type 0} (f : A → B) (xs : List A) → gather (λ x. f x ∷ []) xs ≡ map f xs
unfolding gather
gather-singles f [] = refl
gather-singles f (x ∷ xs) = ap (λ l. f x ∷ l) (gather-singles f xs)

-- ---- of those kept

module _ {A : Type 0} (q : A → Bool) where
  pub all_keep : (p : A → Bool) (xs : List A) → all p (keep q xs) ≡ all (λ x. not (q x) || p x) xs
  unfolding all keep
  all_keep p [] = refl
  all_keep p (x ∷ xs) = go (q x) (all_keep p xs)
    where
      go : (b : Bool) → all p (keep q xs) ≡ all (λ x. not (q x) || p x) xs →
          all p (cond b (x ∷ keep q xs) (keep q xs)) ≡ ((not b || p x) && all (λ x. not (q x) || p x) xs)
      go true e = ap (λ b. p x && b) e
      go false e = e

  pub any-keep : (p : A → Bool) (xs : List A) → any p (keep q xs) ≡ any (λ x. q x && p x) xs
  unfolding any keep
  any-keep p [] = refl
  any-keep p (x ∷ xs) = go (q x) (any-keep p xs)
    where
      go : (b : Bool) → any p (keep q xs) ≡ any (λ x. q x && p x) xs →
          any p (cond b (x ∷ keep q xs) (keep q xs)) ≡ ((b && p x) || any (λ x. q x && p x) xs)
      go true e = ap (λ b. p x || b) e
      go false e = e

  pub count-keep : (p : A → Bool) (xs : List A) → count p (keep q xs) ≡ count (λ x. q x && p x) xs
  unfolding count keep
  count-keep p [] = refl
  count-keep p (x ∷ xs) = go (q x) (count-keep p xs)
    where
      go : (b : Bool) → count p (keep q xs) ≡ count (λ x. q x && p x) xs →
          count p (cond b (x ∷ keep q xs) (keep q xs)) ≡ cond (b && p x) (suc (count (λ x. q x && p x) xs)) (count (λ x. q x && p x) xs)
      go true e = ap (λ n. cond (p x) (suc n) n) e
      go false e = e

  pub keep-keep : (p : A → Bool) (xs : List A) → keep p (keep q xs) ≡ keep (λ x. q x && p x) xs
  unfolding keep
  keep-keep p [] = refl
  keep-keep p (x ∷ xs) = go (q x) (keep-keep p xs)
    where
      go : (b : Bool) → keep p (keep q xs) ≡ keep (λ x. q x && p x) xs →
          keep p (cond b (x ∷ keep q xs) (keep q xs)) ≡ cond (b && p x) (x ∷ keep (λ x. q x && p x) xs) (keep (λ x. q x && p x) xs)
      go true e = ap (λ l. cond (p x) (x ∷ l) l) e
      go false e = e

  pub gather-keep : {C : Type 0} (g : A → List C) (xs : List A) → gather g (keep q xs) ≡ gather (λ x. cond (q x) (g x) []) xs
  unfolding gather keep
  gather-keep g [] = refl
  gather-keep g (x ∷ xs) = go (q x) (gather-keep g xs)
    where
      go : (b : Bool) → gather g (keep q xs) ≡ gather (λ x. cond (q x) (g x) []) xs →
          gather g (cond b (x ∷ keep q xs) (keep q xs)) ≡ cond b (g x) [] ++ gather (λ x. cond (q x) (g x) []) xs
      go true e = ap (λ l. g x ++ l) e
      go false e = e

-- ---- numbers below n

module _ {A : Type 0} (f g : ℕ → A) where
  alike_from : (k n : ℕ) → ((i : ℕ) → i < n → f (k + i) ≡ g (k + i)) → map f (from k n) ≡ map g (from k n)
  unfolding from
  alike_from k zero h = refl
  alike_from k (suc n) h =
      let e : k + 0 ≡ k = omega arith in
      λ j. (ap f (sym e) ∙ h 0 (omega arith) ∙ ap g e) j
      ∷ alike_from (suc k) n (λ i l. let m : suc k + i ≡ k + suc i = omega arith in ap f m ∙ h (suc i) (omega arith) ∙ ap g (sym m)) j

  pub alike-upto : (n : ℕ) → ((i : ℕ) → i < n → f i ≡ g i) → map f (upto n) ≡ map g (upto n)
  alike-upto n h = alike_from 0 n (λ i l. let m : 0 + i ≡ i = omega arith in ap f m ∙ h i l ∙ ap g (sym m))

-- ---- tables of codes

-- the entry of a code k, where the code x is k, and y too
pub entry : {A : Type 0} (t : List (ℕ × A)) (d : A) (k : ℕ) {x y : ℕ} → x ≡ k → x ≡ y → case_of k t d ≡ case_of y t d
entry t d k p q = ap (λ j. case_of j t d) (sym p ∙ q)
