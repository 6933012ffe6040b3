-- Laws of the lists that the definitions use. Assumes nothing.
use mathlib.Core.Path.{◌≡◌, refl, sym, ap, ◌∙◌, subst}
use mathlib.Core.Logic.{◌⊎◌, inl, inr}
use mathlib.Core.Bool.{Bool, true, false, not, cond, ◌&&◌, ◌||◌}
use mathlib.Core.List.{List, [], ◌∷◌, ◌++◌, map, append-nil, append_assoc}
use Prim.Native.Nat.{ℕ, zero, suc, ◌+◌, ◌≤◌, ◌<◌, zero-le}
use native.Mathlib.Nat.{add-zero, zero-add}
use native.Mathlib.Omega.{arith}
use lib.Dec.{T, leb, eqb, eqb→eq, eqb_refl}
use lib.ListN.{length, get_or, take, drop, length-append, length-map}
use lib.Seq.{get_or-append-add}
use Rattle.prelude.specs.Lists.{keep, all, any, insert, sorted, gather, map_from, from, upto, mem, distinct, case_of}
use Rattle.prelude.specs.Owned.{of, by_owner}
use Rattle.prelude.proofs.Bools.{and_left, and_right, or_right, to-right, to-left, is_true, is_false, of-true, clash, not-of, both_of, eqb_comm, eq→eqb, eqb-ne}

-- ---- membership

pub mem-cons : (e x : ℕ) (xs : List ℕ) → T (mem e xs) → T (mem e (x ∷ xs))
unfolding mem
mem-cons e x xs h = to-right (eqb x e) (mem e xs) h

-- in a list without u, nothing equals u
pub mem-apart : (u x : ℕ) (xs : List ℕ) → T (mem x xs) → mem u xs ≡ false → eqb x u ≡ false
mem-apart u x xs h e = go (eqb x u) refl
  where
    go : (p : Bool) → eqb x u ≡ p → p ≡ false
    go false d = refl
    go true d = clash (subst (λ n. T (mem n xs)) (eqb→eq x u (of-true d)) h) e

pub mem-append : (k : ℕ) (xs ys : List ℕ) → T (mem k (xs ++ ys)) → T (mem k xs) ⊎ T (mem k ys)
unfolding mem
mem-append k [] ys m = inr m
mem-append k (x ∷ xs) ys m = go (eqb x k) refl (mem-append k xs ys)
  where
    go : (p : Bool) → eqb x k ≡ p → (T (mem k (xs ++ ys)) → T (mem k xs) ⊎ T (mem k ys)) → T (p || mem k xs) ⊎ T (mem k ys)
    go true q ih = inl tt
    go false q ih = ih (or_right (eqb x k) (mem k (xs ++ ys)) m q)

pub mem-left : (k : ℕ) (xs ys : List ℕ) → T (mem k xs) → T (mem k (xs ++ ys))
unfolding mem
mem-left k [] ys m = absurd m
mem-left k (x ∷ xs) ys m = go (eqb x k) refl (mem-left k xs ys)
  where
    go : (p : Bool) → eqb x k ≡ p → (T (mem k xs) → T (mem k (xs ++ ys))) → T (p || mem k (xs ++ ys))
    go true q ih = tt
    go false q ih = ih (or_right (eqb x k) (mem k xs) m q)

pub mem-right : (k : ℕ) (xs ys : List ℕ) → T (mem k ys) → T (mem k (xs ++ ys))
unfolding mem
mem-right k [] ys m = m
mem-right k (x ∷ xs) ys m = to-right (eqb x k) (mem k (xs ++ ys)) (mem-right k xs ys m)

pub gather-mem : (f : ℕ → List ℕ) (k : ℕ) (ts : List ℕ) → T (mem k (gather f ts)) → (t : ℕ) × T (mem t ts) × T (mem k (f t))
unfolding gather mem
gather-mem f k [] m = absurd m
gather-mem f k (t ∷ ts) m = go (mem-append k (f t) (gather f ts) m) (gather-mem f k ts)
  where
    go : T (mem k (f t)) ⊎ T (mem k (gather f ts)) → (T (mem k (gather f ts)) → (u : ℕ) × T (mem u ts) × T (mem k (f u))) → (u : ℕ) × T (mem u (t ∷ ts)) × T (mem k (f u))
    go (inl a) ih = (t, to-left (eqb t t) (mem t ts) (eqb_refl t), a)
    go (inr b) ih = let (u, m, n) = ih b in (u, to-right (eqb t u) (mem u ts) m, n)

pub mem-gather : (f : ℕ → List ℕ) (k t : ℕ) (ts : List ℕ) → T (mem t ts) → T (mem k (f t)) → T (mem k (gather f ts))
unfolding gather mem
mem-gather f k t [] m n = absurd m
mem-gather f k t (u ∷ us) m n = go (eqb u t) refl (λ h. mem-gather f k t us h n)
  where
    go : (p : Bool) → eqb u t ≡ p → (T (mem t us) → T (mem k (gather f us))) → T (mem k (f u ++ gather f us))
    go true q ih = mem-left k (f u) (gather f us) (subst (λ z. T (mem k (f z))) (sym (eqb→eq u t (of-true q))) n)
    go false q ih = mem-right k (f u) (gather f us) (ih (or_right (eqb u t) (mem t us) m q))

-- ---- keep

module _ (p : ℕ → Bool) where
  pub mem-keep : (e : ℕ) (xs : List ℕ) → mem e (keep p xs) ≡ (p e && mem e xs)
  unfolding keep mem
  mem-keep e [] = go (p e)
    where
      go : (a : Bool) → false ≡ (a && false)
      go true = refl
      go false = refl
  mem-keep e (x ∷ xs) = go (p x) refl (eqb x e) refl (mem-keep e xs)
    where
      go : (a : Bool) → p x ≡ a → (b : Bool) → eqb x e ≡ b → mem e (keep p xs) ≡ (p e && mem e xs) →
          mem e (cond a (x ∷ keep p xs) (keep p xs)) ≡ (p e && (b || mem e xs))
      go true ea true eb ih = rw (eb, ap p (sym (eqb→eq x e (of-true eb))), ea)
      go true ea false eb ih = rw eb ih
      go false ea true eb ih = ih ∙ rw (ap p (sym (eqb→eq x e (of-true eb))), ea)
      go false ea false eb ih = ih

  pub keep-mem : (e : ℕ) (xs : List ℕ) → T (mem e (keep p xs)) → T (p e) × T (mem e xs)
  keep-mem e xs t = let u : T (p e && mem e xs) = subst T (mem-keep e xs) t in (and_left (p e) (mem e xs) u, and_right (p e) (mem e xs) u)

  pub mem-kept : (e : ℕ) (xs : List ℕ) → T (p e) → T (mem e xs) → T (mem e (keep p xs))
  mem-kept e xs a b = rw (mem-keep e xs) (both_of (p e) (mem e xs) a b)

  pub distinct-keep : (xs : List ℕ) → T (distinct xs) → T (distinct (keep p xs))
  unfolding keep distinct
  distinct-keep [] d = tt
  distinct-keep (x ∷ xs) d = go (p x) (distinct-keep xs (and_right (not (mem x xs)) (distinct xs) d))
    where
      go : (a : Bool) → T (distinct (keep p xs)) → T (distinct (cond a (x ∷ keep p xs) (keep p xs)))
      go true ih =
          both_of (not (mem x (keep p xs))) (distinct (keep p xs))
          (not-of (mem x (keep p xs)) (λ t. clash {b = mem x xs} (keep-mem x xs t).1 (is_false (and_left (not (mem x xs)) (distinct xs) d)))) ih
      go false ih = ih

-- ---- from

pub from-mem : (e k n : ℕ) → T (mem e (from k n)) → (k ≤ e) × (e < k + n)
unfolding from mem
from-mem e k zero t = absurd t
from-mem e k (suc n) t = go (eqb k e) refl (from-mem e (suc k) n)
  where
    go : (b : Bool) → eqb k e ≡ b → (T (mem e (from (suc k) n)) → (suc k ≤ e) × (e < suc k + n)) → (k ≤ e) × (e < k + suc n)
    go true eb ih = let q : k ≡ e = eqb→eq k e (of-true eb) in (omega arith, omega arith)
    go false eb ih = let h : (suc k ≤ e) × (e < suc k + n) = ih (or_right (eqb k e) (mem e (from (suc k) n)) t eb) in (omega arith, omega arith)

pub mem-from : (e k n : ℕ) → k ≤ e → e < k + n → T (mem e (from k n))
unfolding from mem
mem-from e k zero a b = absurd (omega arith)
mem-from e k (suc n) a b = go (eqb k e) refl (λ h. mem-from e (suc k) n h (omega arith))
  where
    ne : (k ≡ e → ⊥) → suc k ≤ e
    ne f = omega arith

    go : (p : Bool) → eqb k e ≡ p → (suc k ≤ e → T (mem e (from (suc k) n))) → T (p || mem e (from (suc k) n))
    go true q ih = tt
    go false q ih = ih (ne (λ d. clash {b = eqb k e} (subst (λ j. T (eqb k j)) d (eqb_refl k)) q))

pub distinct_from : (k n : ℕ) → T (distinct (from k n))
unfolding from distinct
distinct_from k zero = tt
distinct_from k (suc n) =
    both_of (not (mem k (from (suc k) n))) (distinct (from (suc k) n))
    (not-of (mem k (from (suc k) n)) (λ t. let h : (suc k ≤ k) × (k < suc k + n) = from-mem k (suc k) n t in omega arith))
    (distinct_from (suc k) n)

pub length_from : (k n : ℕ) → length (from k n) ≡ n
unfolding from
length_from k zero = refl
length_from k (suc n) = ap suc (length_from (suc k) n)

-- ---- sorted

swap_or : (a b c : Bool) → (a || (b || c)) ≡ (b || (a || c))
swap_or true true c = refl
swap_or true false c = refl
swap_or false true c = refl
swap_or false false c = refl

module _ (k : ℕ → ℕ) where
  pub mem-insert : (e x : ℕ) (ys : List ℕ) → mem e (insert k x ys) ≡ mem e (x ∷ ys)
  unfolding insert mem
  mem-insert e x [] = refl
  mem-insert e x (y ∷ ys) = go (leb (k x) (k y)) (mem-insert e x ys)
    where
      go : (a : Bool) → mem e (insert k x ys) ≡ mem e (x ∷ ys) → mem e (cond a (x ∷ y ∷ ys) (y ∷ insert k x ys)) ≡ mem e (x ∷ y ∷ ys)
      go true ih = refl
      go false ih = ap (λ b. eqb y e || b) ih ∙ swap_or (eqb y e) (eqb x e) (mem e ys)

  pub mem-sorted : (e : ℕ) (xs : List ℕ) → mem e (sorted k xs) ≡ mem e xs
  unfolding sorted mem
  mem-sorted e [] = refl
  mem-sorted e (x ∷ xs) = mem-insert e x (sorted k xs) ∙ ap (λ b. eqb x e || b) (mem-sorted e xs)

  pub distinct-insert : (x : ℕ) (ys : List ℕ) → distinct (insert k x ys) ≡ distinct (x ∷ ys)
  unfolding insert distinct mem
  distinct-insert x [] = refl
  distinct-insert x (y ∷ ys) = go (leb (k x) (k y)) (distinct-insert x ys)
    where
      bools : (a b c d : Bool) → (not (a || b) && (not c && d)) ≡ (not (a || c) && (not b && d))
      bools true b c d = refl
      bools false true true d = refl
      bools false true false d = refl
      bools false false true d = refl
      bools false false false d = refl

      go : (a : Bool) → distinct (insert k x ys) ≡ distinct (x ∷ ys) → distinct (cond a (x ∷ y ∷ ys) (y ∷ insert k x ys)) ≡ distinct (x ∷ y ∷ ys)
      go true ih = refl
      go false ih = rw (mem-insert y x ys, ih, eqb_comm x y) (bools (eqb y x) (mem y ys) (mem x ys) (distinct ys))

  pub distinct-sorted : (xs : List ℕ) → distinct (sorted k xs) ≡ distinct xs
  unfolding sorted distinct
  distinct-sorted [] = refl
  distinct-sorted (x ∷ xs) = distinct-insert x (sorted k xs) ∙ rw (mem-sorted x xs, distinct-sorted xs)

-- ---- owners

module _ {A : Type 0} where
  pub keep_append : (p : A → Bool) (xs ys : List A) → keep p (xs ++ ys) ≡ keep p xs ++ keep p ys
  unfolding keep
  keep_append p [] ys = refl
  keep_append p (x ∷ xs) ys = go (p x) (keep_append p xs ys)
    where
      go : (a : Bool) → keep p (xs ++ ys) ≡ keep p xs ++ keep p ys → cond a (x ∷ keep p (xs ++ ys)) (keep p (xs ++ ys)) ≡ cond a (x ∷ keep p xs) (keep p xs) ++ keep p ys
      go true ih = ap (λ l. x ∷ l) ih
      go false ih = ih

pub map-append : {A B : Type 0} (f : A → B) (xs ys : List A) → map f (xs ++ ys) ≡ map f xs ++ map f ys
map-append f [] ys = refl
map-append f (x ∷ xs) ys = ap (λ l. f x ∷ l) (map-append f xs ys)

module _ {A : Type 0} (e : ℕ) where
  pub of-append : (xs ys : List (ℕ × A)) → of e (xs ++ ys) ≡ of e xs ++ of e ys
  of-append xs ys = ap (map (λ x. x.1)) (keep_append (λ x. eqb x.0 e) xs ys) ∙ map-append (λ x. x.1) (keep (λ x. eqb x.0 e) xs) (keep (λ x. eqb x.0 e) ys)

  pub of-same : (k : ℕ) (xs : List A) → eqb k e ≡ true → of e (map (λ x. (k, x)) xs) ≡ xs
  unfolding keep
  of-same k [] q = refl
  of-same k (x ∷ xs) q = rw q (ap (λ l. x ∷ l) (of-same k xs q))

  pub of_other : (k : ℕ) (xs : List A) → eqb k e ≡ false → of e (map (λ x. (k, x)) xs) ≡ []
  unfolding keep
  of_other k [] q = refl
  of_other k (x ∷ xs) q = rw q (of_other k xs q)

  pub of_none : (f : ℕ → List A) (k n : ℕ) → e < k → of e (gather (λ j. map (λ x. (j, x)) (f j)) (from k n)) ≡ []
  unfolding keep gather from
  of_none f k zero h = refl
  of_none f k (suc n) h =
      of-append (map (λ x. (k, x)) (f k)) (gather (λ j. map (λ x. (j, x)) (f j)) (from (suc k) n))
      ∙ rw (of_other k (f k) (go (eqb k e) refl), of_none f (suc k) n (omega arith))
    where
      go : (p : Bool) → eqb k e ≡ p → p ≡ false
      go false q = refl
      go true q = let z : k ≡ e = eqb→eq k e (of-true q) in absurd (omega arith)

  pub of-from : (f : ℕ → List A) (k n : ℕ) → k ≤ e → e < k + n → of e (gather (λ j. map (λ x. (j, x)) (f j)) (from k n)) ≡ f e
  unfolding keep gather from
  of-from f k zero a b = absurd (omega arith)
  of-from f k (suc n) a b =
      of-append (map (λ x. (k, x)) (f k)) (gather (λ j. map (λ x. (j, x)) (f j)) (from (suc k) n)) ∙ go (eqb k e) refl (λ h. of-from f (suc k) n h (omega arith))
    where
      ne : eqb k e ≡ false → k ≡ e → ⊥
      ne q d = clash {b = eqb k e} (subst (λ j. T (eqb k j)) d (eqb_refl k)) q

      go : (p : Bool) → eqb k e ≡ p → (suc k ≤ e → of e (gather (λ j. map (λ x. (j, x)) (f j)) (from (suc k) n)) ≡ f e) → of e (map (λ x. (k, x)) (f k)) ++ of e (gather (λ j. map (λ x. (j, x)) (f j)) (from (suc k) n)) ≡ f e
      go true q ih =
          let d : k ≡ e = eqb→eq k e (of-true q) in
          rw (of-same k (f k) q, of_none f (suc k) n (omega arith)) (append-nil (f k) ∙ ap f d)
      go false q ih =
          let d : k ≡ e → ⊥ = ne q in
          rw (of_other k (f k) q) (ih (omega arith))

  pub of-by_owner : (f : ℕ → List A) (n : ℕ) → e < n → of e (by_owner n f) ≡ f e
  of-by_owner f n h = of-from f 0 n zero-le (omega arith)

-- ---- places

module _ {A : Type 0} where
  pub get_or-map-from : (f : ℕ → A) (d : A) (k n e : ℕ) → e < n → get_or (map f (from k n)) e d ≡ f (k + e)
  unfolding from
  get_or-map-from f d k zero e h = absurd (omega arith)
  get_or-map-from f d k (suc n) zero h = ap f (sym (add-zero k))
  get_or-map-from f d k (suc n) (suc e) h = get_or-map-from f d (suc k) n e (omega arith) ∙ ap f (go)
    where
      go : suc k + e ≡ k + suc e
      go = omega arith

  pub get_or-map-upto : (f : ℕ → A) (d : A) (n e : ℕ) → e < n → get_or (map f (upto n)) e d ≡ f e
  get_or-map-upto f d n e h = get_or-map-from f d 0 n e h ∙ ap f (zero-add e)

  pub get_or-append-at : (xs ys : List A) (n j : ℕ) (d : A) → length xs ≡ n → get_or (xs ++ ys) (n + j) d ≡ get_or ys j d
  get_or-append-at xs ys n j d e = subst (λ m. get_or (xs ++ ys) (m + j) d ≡ get_or ys j d) e (get_or-append-add xs ys j d)

pub get_or-mapped : {A B : Type 0} (f : A → B) (xs : List A) (n : ℕ) (a : A) (b : B) → n < length xs → get_or (map f xs) n b ≡ f (get_or xs n a)
get_or-mapped f [] n a b h = absurd (omega arith)
get_or-mapped f (x ∷ xs) zero a b h = refl
get_or-mapped f (x ∷ xs) (suc n) a b h = get_or-mapped f xs n a b (omega arith)

pub length-map-upto : {A : Type 0} (f : ℕ → A) (n : ℕ) → length (map f (upto n)) ≡ n
length-map-upto f n = length-map (upto n) f ∙ length_from 0 n

pub get_or-map_from : (f : ℕ → ℕ → ℕ) (xs : List ℕ) (j k : ℕ) → k < length xs → get_or (map_from j f xs) k 0 ≡ f (j + k) (get_or xs k 0)
unfolding map_from
get_or-map_from f [] j k h = absurd (omega arith)
get_or-map_from f (x ∷ xs) j zero h = ap (λ n. f n x) (sym (add-zero j))
get_or-map_from f (x ∷ xs) j (suc k) h = get_or-map_from f xs (suc j) k (omega arith) ∙ ap (λ n. f n (get_or xs k 0)) (go)
  where
    go : suc j + k ≡ j + suc k
    go = omega arith

pub length-map_from : (f : ℕ → ℕ → ℕ) (xs : List ℕ) (j : ℕ) → length (map_from j f xs) ≡ length xs
unfolding map_from
length-map_from f [] j = refl
length-map_from f (x ∷ xs) j = ap suc (length-map_from f xs (suc j))

-- things gathered from a list, of which one gives one thing: where that stands
module _ {A B : Type 0} (g : A → List B) (a : A) (b : B) where
  pub gathered : (xs : List A) (t : ℕ) (x : B) → t < length xs → g (get_or xs t a) ≡ x ∷ [] → get_or (gather g xs) (length (gather g (take t xs))) b ≡ x
  unfolding gather
  gathered [] t x h e = absurd (omega arith)
  gathered (y ∷ ys) zero x h e = rw e
  gathered (y ∷ ys) (suc t) x h e = rw (length-append (g y) (gather g (take t ys)), get_or-append-add (g y) (gather g ys)) (gathered ys t x (omega arith) e)

  pub gathered-in : (xs : List A) (t : ℕ) (x : B) → t < length xs → g (get_or xs t a) ≡ x ∷ [] → length (gather g (take t xs)) < length (gather g xs)
  unfolding gather
  gathered-in [] t x h e = absurd (omega arith)
  gathered-in (y ∷ ys) zero x h e = rw e (omega arith)
  gathered-in (y ∷ ys) (suc t) x h e =
      let i : length (gather g (take t ys)) < length (gather g ys) = gathered-in ys t x (omega arith) e in
      rw (length-append (g y) (gather g (take t ys)), length-append (g y) (gather g ys)) (omega arith)

  pub gathered-less : (xs : List A) (t u : ℕ) (x : B) → t < u → t < length xs → g (get_or xs t a) ≡ x ∷ [] → length (gather g (take t xs)) < length (gather g (take u xs))
  unfolding gather
  gathered-less [] t u x l h e = absurd (omega arith)
  gathered-less (y ∷ ys) t zero x l h e = absurd (omega arith)
  gathered-less (y ∷ ys) zero (suc u) x l h e = rw e (omega arith)
  gathered-less (y ∷ ys) (suc t) (suc u) x l h e =
      let i : length (gather g (take t ys)) < length (gather g (take u ys)) = gathered-less ys t u x (omega arith) (omega arith) e in
      rw (length-append (g y) (gather g (take t ys)), length-append (g y) (gather g (take u ys))) (omega arith)

-- ---- all

module _ {A : Type 0} where
  pub all_get_d : (p : A → Bool) (xs : List A) (d : A) (k : ℕ) → T (all p xs) → k < length xs → T (p (get_or xs k d))
  unfolding all
  all_get_d p [] d k t h = absurd (omega arith)
  all_get_d p (x ∷ xs) d zero t h = and_left (p x) (all p xs) t
  all_get_d p (x ∷ xs) d (suc k) t h = all_get_d p xs d k (and_right (p x) (all p xs) t) (omega arith)

  pub all_append : (p : A → Bool) (xs ys : List A) → T (all p xs) → T (all p ys) → T (all p (xs ++ ys))
  unfolding all
  all_append p [] ys s t = t
  all_append p (x ∷ xs) ys s t = both_of (p x) (all p (xs ++ ys)) (and_left (p x) (all p xs) s) (all_append p xs ys (and_right (p x) (all p xs) s) t)

  pub any-off : (p : A → Bool) (xs : List A) (d : A) (k : ℕ) → T (not (any p xs)) → k < length xs → T (not (p (get_or xs k d)))
  unfolding any
  any-off p [] d k t h = absurd (omega arith)
  any-off p (x ∷ xs) d k t h = go (p x) refl t k h (λ j u l. any-off p xs d j u l)
    where
      go : (b : Bool) → p x ≡ b → T (not (b || any p xs)) → (k : ℕ) → k < length (x ∷ xs) → ((j : ℕ) → T (not (any p xs)) → j < length xs → T (not (p (get_or xs j d)))) → T (not (p (get_or (x ∷ xs) k d)))
      go true e t k h ih = absurd t
      go false e t zero h ih = rw e tt
      go false e t (suc k) h ih = ih k t (omega arith)

  pub all_take : (p : A → Bool) (n : ℕ) (xs : List A) → T (all p xs) → T (all p (take n xs))
  unfolding all
  all_take p zero xs t = tt
  all_take p (suc n) [] t = tt
  all_take p (suc n) (x ∷ xs) t = both_of (p x) (all p (take n xs)) (and_left (p x) (all p xs) t) (all_take p n xs (and_right (p x) (all p xs) t))

  pub all_drop : (p : A → Bool) (n : ℕ) (xs : List A) → T (all p xs) → T (all p (drop n xs))
  unfolding all
  all_drop p zero xs t = t
  all_drop p (suc n) [] t = tt
  all_drop p (suc n) (x ∷ xs) t = all_drop p n xs (and_right (p x) (all p xs) t)

  pub all_keep : (p q : A → Bool) (xs : List A) → T (all p xs) → T (all p (keep q xs))
  unfolding all keep
  all_keep p q [] t = tt
  all_keep p q (x ∷ xs) t = go (q x) (all_keep p q xs (and_right (p x) (all p xs) t))
    where
      go : (b : Bool) → T (all p (keep q xs)) → T (all p (cond b (x ∷ keep q xs) (keep q xs)))
      go true ih = both_of (p x) (all p (keep q xs)) (and_left (p x) (all p xs) t) ih
      go false ih = ih

  pub all_both : (p q : A → Bool) (xs : List A) → T (all p xs) → T (all q xs) → T (all (λ x. p x && q x) xs)
  unfolding all
  all_both p q [] s t = tt
  all_both p q (x ∷ xs) s t = both_of (p x && q x) (all (λ x. p x && q x) xs) (both_of (p x) (q x) (and_left (p x) (all p xs) s) (and_left (q x) (all q xs) t)) (all_both p q xs (and_right (p x) (all p xs) s) (and_right (q x) (all q xs) t))

  pub all-imp : (p q : A → Bool) → ((x : A) → T (p x) → T (q x)) → (xs : List A) → T (all p xs) → T (all q xs)
  unfolding all
  all-imp p q h [] t = tt
  all-imp p q h (x ∷ xs) t = both_of (q x) (all q xs) (h x (and_left (p x) (all p xs) t)) (all-imp p q h xs (and_right (p x) (all p xs) t))

  -- what is kept passes the test too
  pub all-kept : (p q r : A → Bool) → ((x : A) → T (p x) → T (q x) → T (r x)) → (xs : List A) → T (all p xs) → T (all r (keep q xs))
  unfolding all keep
  all-kept p q r h [] t = tt
  all-kept p q r h (x ∷ xs) t = go (q x) refl (all-kept p q r h xs (and_right (p x) (all p xs) t))
    where
      go : (b : Bool) → q x ≡ b → T (all r (keep q xs)) → T (all r (cond b (x ∷ keep q xs) (keep q xs)))
      go true e ih = both_of (r x) (all r (keep q xs)) (h x (and_left (p x) (all p xs) t) (of-true e)) ih
      go false e ih = ih

  pub all-get_or-or : (p : A → Bool) (xs : List A) (d : A) (k : ℕ) → T (all p xs) → T (p d) → T (p (get_or xs k d))
  unfolding all
  all-get_or-or p [] d k t u = u
  all-get_or-or p (x ∷ xs) d zero t u = and_left (p x) (all p xs) t
  all-get_or-or p (x ∷ xs) d (suc k) t u = all-get_or-or p xs d k (and_right (p x) (all p xs) t) u

  pub case-all : (p : A → Bool) (n : ℕ) (xs : List (ℕ × A)) (d : A) → T (all (λ x. p x.1) xs) → T (p d) → T (p (case_of n xs d))
  unfolding all case_of
  case-all p n [] d t u = u
  case-all p n (x ∷ xs) d t u = go (eqb n x.0) (case-all p n xs d (and_right (p x.1) (all (λ x. p x.1) xs) t) u)
    where
      go : (b : Bool) → T (p (case_of n xs d)) → T (p (cond b x.1 (case_of n xs d)))
      go true ih = and_left (p x.1) (all (λ x. p x.1) xs) t
      go false ih = ih

  pub all_cons : (p : A → Bool) (x : A) (xs : List A) → T (p x) → T (all p xs) → T (all p (x ∷ xs))
  unfolding all
  all_cons p x xs a b = both_of (p x) (all p xs) a b

  pub all_nil : (p : A → Bool) → T (all p [])
  unfolding all
  all_nil p = tt

module _ {A B : Type 0} where
  pub all-gather : (p : A → Bool) (q : B → Bool) (f : A → List B) → ((x : A) → T (p x) → T (all q (f x))) → (xs : List A) → T (all p xs) → T (all q (gather f xs))
  unfolding all gather
  all-gather p q f h [] t = tt
  all-gather p q f h (x ∷ xs) t = all_append q (f x) (gather f xs) (h x (and_left (p x) (all p xs) t)) (all-gather p q f h xs (and_right (p x) (all p xs) t))

  pub length-gather : (f : A → List B) → ((x : A) → length (f x) ≤ 1) → (xs : List A) → length (gather f xs) ≤ length xs
  unfolding gather
  length-gather f h [] = zero-le
  length-gather f h (x ∷ xs) =
      let i : length (gather f xs) ≤ length xs = length-gather f h xs in
      let j : length (f x) ≤ 1 = h x in
      rw (length-append (f x) (gather f xs)) (omega arith)

  pub all-mapped : (p : A → Bool) (q : B → Bool) (f : A → B) → ((x : A) → T (p x) → T (q (f x))) → (xs : List A) → T (all p xs) → T (all q (map f xs))
  unfolding all
  all-mapped p q f h [] t = tt
  all-mapped p q f h (x ∷ xs) t = both_of (q (f x)) (all q (map f xs)) (h x (and_left (p x) (all p xs) t)) (all-mapped p q f h xs (and_right (p x) (all p xs) t))

  pub all_map : (p : B → Bool) (f : A → B) → ((x : A) → T (p (f x))) → (xs : List A) → T (all p (map f xs))
  unfolding all
  all_map p f h [] = tt
  all_map p f h (x ∷ xs) = both_of (p (f x)) (all p (map f xs)) (h x) (all_map p f h xs)

pub all_from : (p : ℕ → Bool) (j n : ℕ) → ((k : ℕ) → k < j + n → T (p k)) → T (all p (from j n))
unfolding all from
all_from p j zero h = tt
all_from p j (suc n) h = both_of (p j) (all p (from (suc j) n)) (h j (omega arith)) (all_from p (suc j) n (λ k l. h k (omega arith)))

pub all-upto : (p : ℕ → Bool) (n : ℕ) → ((k : ℕ) → k < n → T (p k)) → T (all p (upto n))
all-upto p n h = all_from p 0 n (λ k l. h k (omega arith))

pub from_all : (p : ℕ → Bool) (j n k : ℕ) → T (all p (from j n)) → j ≤ k → k < j + n → T (p k)
unfolding all from
from_all p j zero k t a b = absurd (omega arith)
from_all p j (suc n) k t a b = go (eqb j k) refl (λ l. from_all p (suc j) n k (and_right (p j) (all p (from (suc j) n)) t) l (omega arith))
  where
    go : (o : Bool) → eqb j k ≡ o → (suc j ≤ k → T (p k)) → T (p k)
    go true q ih = subst (λ n. T (p n)) (eqb→eq j k (of-true q)) (and_left (p j) (all p (from (suc j) n)) t)
    go false q ih = let d : j ≡ k → ⊥ = eqb-ne q in ih (omega arith)

pub upto_all : (p : ℕ → Bool) (n k : ℕ) → T (all p (upto n)) → k < n → T (p k)
upto_all p n k t h = from_all p 0 n k t zero-le (omega arith)

pub all-zero : (xs : List ℕ) → ((k : ℕ) → get_or xs k 0 ≡ 0) → T (all (λ t. eqb t 0) xs)
unfolding all
all-zero [] h = tt
all-zero (x ∷ xs) h = both_of (eqb x 0) (all (λ t. eqb t 0) xs) (of-true (eq→eqb (h 0))) (all-zero xs (λ k. h (suc k)))

pub all_rest : (n : ℕ) (xs : List ℕ) → ((k : ℕ) → n ≤ k → get_or xs k 0 ≡ 0) → T (all (λ t. eqb t 0) (drop n xs))
unfolding all
all_rest zero xs h = all-zero xs (λ k. h k zero-le)
all_rest (suc n) [] h = tt
all_rest (suc n) (x ∷ xs) h = all_rest n xs (λ k l. h (suc k) (omega arith))

pub all-numbers : {B : Type 0} (q : B → Bool) (f : ℕ → B) (j n : ℕ) → ((k : ℕ) → k < j + n → T (q (f k))) → T (all q (map f (from j n)))
unfolding all from
all-numbers q f j zero h = tt
all-numbers q f j (suc n) h = both_of (q (f j)) (all q (map f (from (suc j) n))) (h j (omega arith)) (all-numbers q f (suc j) n (λ k l. h k (omega arith)))

pub owned-from : {A : Type 0} (q : ℕ × A → Bool) (f : ℕ → List A) (j m : ℕ) → ((k : ℕ) → k < j + m → T (all (λ x. q (k, x)) (f k))) → T (all q (gather (λ k. map (λ x. (k, x)) (f k)) (from j m)))
unfolding gather from
owned-from q f j zero h = all_nil q
owned-from q f j (suc m) h =
    all_append q (map (λ x. (j, x)) (f j)) (gather (λ k. map (λ x. (k, x)) (f k)) (from (suc j) m))
    (all-mapped (λ x. q (j, x)) q (λ x. (j, x)) (λ x t. t) (f j) (h j (omega arith)))
    (owned-from q f (suc j) m (λ k l. h k (omega arith)))

pub all-owned : {A : Type 0} (q : ℕ × A → Bool) (f : ℕ → List A) (n : ℕ) → ((k : ℕ) → k < n → T (all (λ x. q (k, x)) (f k))) → T (all q (by_owner n f))
all-owned q f n h = owned-from q f 0 n (λ k l. h k (omega arith))

pub gather-all : {B : Type 0} (q : B → Bool) (f : ℕ → List B) (j m : ℕ) → ((k : ℕ) → k < j + m → T (all q (f k))) → T (all q (gather f (from j m)))
unfolding gather from
gather-all q f j zero h = all_nil q
gather-all q f j (suc m) h = all_append q (f j) (gather f (from (suc j) m)) (h j (omega arith)) (gather-all q f (suc j) m (λ k l. h k (omega arith)))

-- ---- more of keep, gather and from

pub keep-keep : {A : Type 0} (q p : A → Bool) (xs : List A) → keep p (keep q xs) ≡ keep (λ x. q x && p x) xs
unfolding keep
keep-keep q p [] = refl
keep-keep q p (x ∷ xs) = go (q x) (keep-keep q p xs)
  where
    go : (b : Bool) → keep p (keep q xs) ≡ keep (λ x. q x && p x) xs →
        keep p (cond b (x ∷ keep q xs) (keep q xs)) ≡ cond (b && p x) (x ∷ keep (λ x. q x && p x) xs) (keep (λ x. q x && p x) xs)
    go true ih = ap (λ l. cond (p x) (x ∷ l) l) ih
    go false ih = ih

pub gather_append : {A B : Type 0} (f : A → List B) (xs ys : List A) → gather f (xs ++ ys) ≡ gather f xs ++ gather f ys
unfolding gather
gather_append f [] ys = refl
gather_append f (x ∷ xs) ys = ap (λ l. f x ++ l) (gather_append f xs ys) ∙ sym (append_assoc (f x) (gather f xs) (gather f ys))

pub from-split : (k m n : ℕ) → from k (m + n) ≡ from k m ++ from (k + m) n
unfolding from
from-split k zero n = ap (from k) (zero-add n) ∙ ap (λ j. from j n) (sym (add-zero k))
from-split k (suc m) n = ap (from k) (one m n) ∙ ap (λ l. k ∷ l) (from-split (suc k) m n ∙ ap (λ j. from (suc k) m ++ from j n) (two k m))
  where
    one : (m n : ℕ) → suc m + n ≡ suc (m + n)
    one m n = omega arith

    two : (k m : ℕ) → suc k + m ≡ k + suc m
    two k m = omega arith

-- ---- keys that differ among those kept

module _ {A : Type 0} (p : A → Bool) (key : A → ℕ) (d : A) where
  pub kept-mem : (xs : List A) (b : ℕ) → b < length xs → T (p (get_or xs b d)) → T (mem (key (get_or xs b d)) (map key (keep p xs)))
  unfolding mem keep
  kept-mem [] b h e = absurd (omega arith)
  kept-mem (x ∷ xs) zero h e = rw (is_true {b = p x} e) (to-left (eqb (key x) (key x)) (mem (key x) (map key (keep p xs))) (eqb_refl (key x)))
  kept-mem (x ∷ xs) (suc b) h e = go (p x) (kept-mem xs b (omega arith) e)
    where
      go : (t : Bool) → T (mem (key (get_or xs b d)) (map key (keep p xs))) → T (mem (key (get_or xs b d)) (map key (cond t (x ∷ keep p xs) (keep p xs))))
      go true ih = to-right (eqb (key x) (key (get_or xs b d))) (mem (key (get_or xs b d)) (map key (keep p xs))) ih
      go false ih = ih

  -- of two that are kept the keys differ
  pub kept-apart : (xs : List A) (a b : ℕ) → a < b → b < length xs → T (p (get_or xs a d)) → T (p (get_or xs b d)) →
      T (distinct (map key (keep p xs))) → key (get_or xs a d) ≡ key (get_or xs b d) → ⊥
  unfolding distinct keep
  kept-apart [] a b l h ea eb u q = absurd (omega arith)
  kept-apart (x ∷ xs) a zero l h ea eb u q = absurd (omega arith)
  kept-apart (x ∷ xs) zero (suc b) l h ea eb u q =
      let v : T (distinct (key x ∷ map key (keep p xs))) = subst (λ t. T (distinct (map key (cond t (x ∷ keep p xs) (keep p xs))))) (is_true {b = p x} ea) u in
      clash {b = mem (key x) (map key (keep p xs))} (subst (λ n. T (mem n (map key (keep p xs)))) (sym q) (kept-mem xs b (omega arith) eb))
      (is_false (and_left (not (mem (key x) (map key (keep p xs)))) (distinct (map key (keep p xs))) v))
  kept-apart (x ∷ xs) (suc a) (suc b) l h ea eb u q = kept-apart xs a b (omega arith) (omega arith) ea eb (go (p x) u) q
    where
      go : (t : Bool) → T (distinct (map key (cond t (x ∷ keep p xs) (keep p xs)))) → T (distinct (map key (keep p xs)))
      go true u = and_right (not (mem (key x) (map key (keep p xs)))) (distinct (map key (keep p xs))) u
      go false u = u
