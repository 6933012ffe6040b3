-- What `==` of arrays and of parts of them answers, place by place. Assumes nothing.
use mathlib.Core.Path.{◌≡◌, sym, refl, ap, ◌∙◌, subst}
use mathlib.Core.Bool.{Bool, true, ◌&&◌}
use mathlib.Core.List.{List, [], ◌∷◌}
use Prim.Native.Nat.{ℕ, suc, ◌+◌, ◌≤◌, ◌<◌}
use native.Mathlib.Nat.{add-zero}
use native.Mathlib.Omega.{arith}
use borrow.Author.Tests.{le-leb, leb-true}
use lib.Dec.{leb, eqb}
use lib.IntN.{ℤ, pos, negsuc}
use lib.ListN.{length, get_or, take, length-take}
use lib.Pointwise.{pointwise}
use lib.Seq.{get_or-take}
use lib.Signed.{le_z}
use Rattle.std.specs.Prelude.{Decides}
use Rattle.std.specs.Ordering.{int_eq}
use Rattle.std.proofs.lemmas.Bool.Decides.{same_from_decides, Decides-int_eq}
use Rattle.prelude.specs.Lists.{all, from, upto}
use Rattle.prelude.proofs.Counts.{impossible, and-true}
use Rattle.alike.specs.Alike.{values_alike, variables_alike, places_alike}

module _ {A : Type 0} (eq : A → A → Bool) (d : A) (p : ℕ → Bool) where
  by-place : (i : ℕ) (xs ys : List A) → length xs ≡ length ys → ((k : ℕ) → k < length xs → p (i + k) ≡ eq (get_or xs k d) (get_or ys k d)) → pointwise eq xs ys ≡ all p (from i (length xs))
  unfolding all from
  by-place i [] [] e h = refl
  by-place i [] (y ∷ ys) e h = absurd (omega arith)
  by-place i (x ∷ xs) [] e h = absurd (omega arith)
  by-place i (x ∷ xs) (y ∷ ys) e h =
      let first : eq x y ≡ p i = sym (ap p (sym (add-zero i)) ∙ h 0 (omega arith)) in
      let others = by-place (suc i) xs ys (omega arith) (λ k l. ap p (let z : suc i + k ≡ i + suc k = omega arith in z) ∙ h (suc k) (omega arith)) in
      λ j. first j && others j

-- ---- variables

own : (x : ℤ) → (le_z x x && le_z x x) ≡ true
own (pos a) = ap (λ b. b && b) (le-leb a a (omega arith))
own (negsuc a) = ap (λ b. b && b) (le-leb a a (omega arith))

together : (x y : ℤ) → (le_z x y && le_z y x) ≡ true → x ≡ y
together (pos a) (pos b) e = let t : (leb a b ≡ true) × (leb b a ≡ true) = and-true _ _ e in ap pos (let z : a ≡ b = omega (arith, leb-true a b t.0, leb-true b a t.1) in z)
together (pos a) (negsuc b) e = impossible (sym e)
together (negsuc a) (pos b) e = impossible (sym e)
together (negsuc a) (negsuc b) e = let t : (leb b a ≡ true) × (leb a b ≡ true) = and-true _ _ e in ap negsuc (let z : a ≡ b = omega (arith, leb-true b a t.0, leb-true a b t.1) in z)

values-same : (x y : ℤ) → values_alike x y ≡ int_eq x y
values-same x y = same_from_decides _ _ (together x y, λ e. subst (λ z. (le_z x z && le_z z x) ≡ true) e (own x)) (Decides-int_eq x y)

pub variables-same : (xs ys : List ℤ) → length xs ≡ 64 → length ys ≡ 64 → pointwise int_eq xs ys ≡ variables_alike xs ys
variables-same xs ys a b =
    by-place int_eq (pos 0) (λ v. values_alike (get_or xs v (pos 0)) (get_or ys v (pos 0))) 0 xs ys (omega arith)
    (λ k h. ap (λ v. values_alike (get_or xs v (pos 0)) (get_or ys v (pos 0))) (let z : 0 + k ≡ k = omega arith in z) ∙ values-same (get_or xs k (pos 0)) (get_or ys k (pos 0)))
    ∙ ap (λ n. all (λ v. values_alike (get_or xs v (pos 0)) (get_or ys v (pos 0))) (upto n)) a

-- ---- places

pub places-same : (n : ℕ) (xs ys : List ℕ) → n ≤ length xs → n ≤ length ys → pointwise eqb (take n xs) (take n ys) ≡ places_alike n xs ys
places-same n xs ys a b =
    let long : length (take n xs) ≡ n = omega (arith, length-take n xs) in
    by-place eqb 0 (λ c. eqb (get_or xs c 0) (get_or ys c 0)) 0 (take n xs) (take n ys) (omega (arith, length-take n xs, length-take n ys))
    (λ k h.
    let z : 0 + k ≡ k = omega arith in
    let l : k < n = omega arith in
    ap (λ c. eqb (get_or xs c 0) (get_or ys c 0)) z ∙ (λ i. eqb (sym (get_or-take n xs k 0 l) i) (sym (get_or-take n ys k 0 l) i)))
    ∙ ap (λ m. all (λ c. eqb (get_or xs c 0) (get_or ys c 0)) (upto m)) long
