-- Places written one after the other, from the first on: what a loop that writes f k at place k leaves. Assumes nothing.
use mathlib.Core.Path.{◌≡◌, refl, sym, ap, ◌∙◌}
use mathlib.Core.Bool.{Bool, true, false, cond}
use mathlib.Core.List.{List, [], ◌∷◌, ◌++◌, map}
use Prim.Native.Nat.{ℕ, zero, suc, ◌+◌, ◌-◌, ◌≤◌, ◌<◌, zero-le}
use native.Mathlib.Nat.{add-zero, zero-add}
use native.Mathlib.Omega.{arith}
use borrow.Author.Tests.{lt-ltb, le-ltb, ltb-true, ltb-false, eqb-true, eqb-false}
use lib.Dec.{ltb, eqb}
use lib.ListN.{length, get_or, set, replicate, length-append, length-set, length-replicate, get_or-append}
use lib.Seq.{get_or-append-add, get_or-set_same, get_or-set_other, ext_get_or}
use Rattle.prelude.specs.Lists.{from, upto, padded, map_from}
use Rattle.prelude.proofs.Counts.{get_or-upto}

module _ {A : Type 0} (f : ℕ → A) (d : A) (l₀ : List A) where
  -- of l₀ the places before k are written
  abbrev pub Filled : List A → ℕ → Type 0
  Filled l k = (length l ≡ length l₀) × ((j : ℕ) → get_or l j d ≡ cond (ltb j k) (f j) (get_or l₀ j d))

  pub filled_none : Filled l₀ 0
  filled_none = (refl, λ j. ap (λ b. cond b (f j) (get_or l₀ j d)) (sym (le-ltb j 0 zero-le)))

  pub filled_more : (l : List A) (k : ℕ) (x : A) → x ≡ f k → Filled l k → k < length l₀ → Filled (set l k x) (k + 1)
  filled_more l k x is h b = (length-set l k x ∙ h.0, λ j. go j (eqb j k) refl)
    where
      there : (j : ℕ) → j ≡ k → get_or (set l k x) j d ≡ cond (ltb j (k + 1)) (f j) (get_or l₀ j d)
      there j e =
          ap (λ i. get_or (set l k x) i d) e
          ∙ get_or-set_same l k x d (omega (arith, h.0))
          ∙ is
          ∙ ap f (sym e)
          ∙ ap (λ t. cond t (f j) (get_or l₀ j d)) (sym (lt-ltb j (k + 1) (omega arith)))

      same : (j : ℕ) → (j ≡ k → ⊥) → ltb j k ≡ ltb j (k + 1)
      same j n = by (ltb j k) refl
        where
          by : (t : Bool) → ltb j k ≡ t → t ≡ ltb j (k + 1)
          by true e = let c : j < k = ltb-true j k e in sym (lt-ltb j (k + 1) (omega arith))
          by false e = let c : k ≤ j = ltb-false j k e in sym (le-ltb j (k + 1) (omega arith))

      go : (j : ℕ) (t : Bool) → eqb j k ≡ t → get_or (set l k x) j d ≡ cond (ltb j (k + 1)) (f j) (get_or l₀ j d)
      go j true e = there j (eqb-true j k e)
      go j false e =
          let n : j ≡ k → ⊥ = eqb-false j k e in
          get_or-set_other l k j x d n ∙ h.1 j ∙ ap (λ t. cond t (f j) (get_or l₀ j d)) (same j n)

-- ---- a list with defaults behind it

pub length_from : {A : Type 0} (f : ℕ → A) (k n : ℕ) → length (map f (from k n)) ≡ n
unfolding from
length_from f k zero = refl
length_from f k (suc n) = ap suc (length_from f (suc k) n)

module _ {A : Type 0} (f : ℕ → A) (d : A) (n m : ℕ) (fits : m ≤ n) where
  length-padded : length (padded n d (map f (upto m))) ≡ n
  length-padded =
      length-append (map f (upto m)) (replicate (n - length (map f (upto m))) d)
      ∙ ap (λ k. length (map f (upto m)) + k) (length-replicate (n - length (map f (upto m))) d)
      ∙ (let e : length (map f (upto m)) ≡ m = length_from f 0 m in omega arith)

  get_or-replicated : (k j : ℕ) → get_or (replicate k d) j d ≡ d
  get_or-replicated zero j = refl
  get_or-replicated (suc k) zero = refl
  get_or-replicated (suc k) (suc j) = get_or-replicated k j

  get_or-padded : (j : ℕ) → get_or (padded n d (map f (upto m))) j d ≡ cond (ltb j m) (f j) d
  get_or-padded j = go (ltb j m) refl
    where
      long : length (map f (upto m)) ≡ m
      long = length_from f 0 m

      rest : List A
      rest = replicate (n - length (map f (upto m))) d

      go : (t : Bool) → ltb j m ≡ t → get_or (map f (upto m) ++ rest) j d ≡ cond t (f j) d
      go true e =
          let h : j < m = ltb-true j m e in
          get_or-append (map f (upto m)) rest d j (omega (arith, long)) ∙ get_or-upto f d m j h
      go false e =
          let h : m ≤ j = ltb-false j m e in
          ap (λ i. get_or (map f (upto m) ++ rest) i d) (let q : j ≡ length (map f (upto m)) + (j - m) = omega (arith, long) in q)
          ∙ get_or-append-add (map f (upto m)) rest (j - m) d
          ∙ get_or-replicated (n - length (map f (upto m))) (j - m)

  -- defaults, of which the first m were written
  pub filled-padded : (l : List A) → Filled f d (replicate n d) l m → l ≡ padded n d (map f (upto m))
  filled-padded l h =
      ext_get_or d l (padded n d (map f (upto m))) (h.0 ∙ length-replicate n d ∙ sym length-padded)
      (λ j b. h.1 j ∙ ap (cond (ltb j m) (f j)) (get_or-replicated n j) ∙ sym (get_or-padded j))

-- ---- a list of which each place is made anew

module _ {A B : Type 0} (g : ℕ → A → B) (d : A) (e : B) where
  pub length-map_from : (k : ℕ) (l : List A) → length (map_from k g l) ≡ length l
  unfolding map_from
  length-map_from k [] = refl
  length-map_from k (x ∷ xs) = ap suc (length-map_from (suc k) xs)

  pub get_or-map_from : (k : ℕ) (l : List A) (j : ℕ) → j < length l → get_or (map_from k g l) j e ≡ g (k + j) (get_or l j d)
  unfolding map_from
  get_or-map_from k [] j h = absurd (omega arith)
  get_or-map_from k (x ∷ xs) zero h = ap (λ n. g n x) (sym (add-zero k))
  get_or-map_from k (x ∷ xs) (suc j) h = get_or-map_from (suc k) xs j (omega arith) ∙ ap (λ n. g n (get_or xs j d)) (let q : suc k + j ≡ k + suc j = omega arith in q)

-- each place up to m is made by f from its number and what stood there, and the others stay
module _ (f : ℕ → ℕ → ℕ) (m : ℕ) where
  pub filled-mapped : (l₀ l : List ℕ) → Filled (λ j. f j (get_or l₀ j 0)) 0 l₀ l m → l ≡ map_from 0 (λ c x. cond (ltb c m) (f c x) x) l₀
  filled-mapped l₀ l h =
      ext_get_or 0 l (map_from 0 made l₀) (h.0 ∙ sym (length-map_from made 0 0 0 l₀))
      (λ j b. h.1 j ∙ sym (get_or-map_from made 0 0 0 l₀ j (omega (arith, h.0)) ∙ ap (λ n. made n (get_or l₀ j 0)) (zero-add j)))
    where
      made : ℕ → ℕ → ℕ
      made c x = cond (ltb c m) (f c x) x
