-- What a chain goes through is what the model has of an owner. Assumes nothing.
use mathlib.Core.Path.{◌≡◌, refl, sym, ap, ◌∙◌}
use mathlib.Core.Bool.{Bool, true, false, cond, ◌&&◌}
use mathlib.Core.List.{List, ◌∷◌, map}
use Prim.Native.Nat.{ℕ, zero, suc, ◌+◌, ◌-◌}
use native.Mathlib.Omega.{arith}
use lib.Dec.{eqb}
use Rattle.prelude.specs.Lists.{keep, from, upto}
use Rattle.prelude.specs.Owned.{of}
use Rattle.prelude.proofs.Maps.{keep-map, map-map, keep-keep}
use Rattle.automata_steps.specs.Index.{owner_in, owned_by}

-- numbers counted from a start, and from 0
map-shift : {A : Type 0} (f : ℕ → A) (start k n : ℕ) → map (λ i. f (start + i)) (from k n) ≡ map f (from (start + k) n)
unfolding from
map-shift f start k zero = refl
map-shift f start k (suc n) =
    let e : start + suc k ≡ suc (start + k) = omega arith in
    ap (λ l. f (start + k) ∷ l) (map-shift f start (suc k) n ∙ ap (λ j. map f (from j n)) e)

keep-shift : (p : ℕ → Bool) (start k n : ℕ) → keep (λ i. p (start + i)) (from k n) ≡ map (λ m. m - start) (keep p (from (start + k) n))
unfolding keep from
keep-shift p start k zero = refl
keep-shift p start k (suc n) =
    let e : start + suc k ≡ suc (start + k) = omega arith in
    go (p (start + k)) (keep-shift p start (suc k) n ∙ ap (λ j. map (λ m. m - start) (keep p (from j n))) e)
  where
    go : (b : Bool) → keep (λ i. p (start + i)) (from (suc k) n) ≡ map (λ m. m - start) (keep p (from (suc (start + k)) n)) →
        cond b (k ∷ keep (λ i. p (start + i)) (from (suc k) n)) (keep (λ i. p (start + i)) (from (suc k) n))
        ≡ map (λ m. m - start) (cond b ((start + k) ∷ keep p (from (suc (start + k)) n)) (keep p (from (suc (start + k)) n)))
    go true h = let d : k ≡ start + k - start = omega arith in λ j. d j ∷ h j
    go false h = h

-- the numbers from a start, as many as there are up to the end
all_from : (start count : ℕ) → from (start + 0) count ≡ from start (start + count - start)
all_from start count =
    let d : start + 0 ≡ start = omega arith in
    let e : count ≡ start + count - start = omega arith in
    λ j. from (d j) (e j)

-- literals, updates and resets: record n says f n, its owner first
pub of_owner : {A : Type 0} (s : List ℕ) (start count o : ℕ) (xs : List (ℕ × A)) (f : ℕ → ℕ × A) →
    xs ≡ map (λ i. f (start + i)) (upto count) → ((n : ℕ) → (f n).0 ≡ owner_in s n) →
    of o xs ≡ map (λ n. (f n).1) (keep (owned_by s o) (from start (start + count - start)))
of_owner s start count o xs f e h =
    ap (of o) (e ∙ map-shift f start 0 count ∙ ap (map f) (all_from start count))
    ∙ ap (map (λ x. x.1)) (keep-map f (λ x. eqb x.0 o) (from start (start + count - start)))
    ∙ map-map f (λ x. x.1) (keep (λ n. eqb (f n).0 o) (from start (start + count - start)))
    ∙ (λ j. map (λ n. (f n).1) (keep (λ n. eqb (h n j) o) (from start (start + count - start))))

and-swap : (a b : Bool) → (a && b) ≡ (b && a)
and-swap true true = refl
and-swap true false = refl
and-swap false true = refl
and-swap false false = refl

-- edges: those of a source that another test keeps, by their numbers
pub of-source : (s : List ℕ) (q : ℕ → Bool) (start count l : ℕ) →
    keep (λ i. q (start + i) && owned_by s l (start + i)) (upto count) ≡ map (λ n. n - start) (keep q (keep (owned_by s l) (from start (start + count - start))))
of-source s q start count l =
    keep-shift (λ n. q n && owned_by s l n) start 0 count
    ∙ ap (λ ns. map (λ n. n - start) (keep (λ n. q n && owned_by s l n) ns)) (all_from start count)
    ∙ (λ j. map (λ n. n - start) (keep (λ n. and-swap (q n) (owned_by s l n) j) (from start (start + count - start))))
    ∙ ap (map (λ n. n - start)) (sym (keep-keep (owned_by s l) q (from start (start + count - start))))
