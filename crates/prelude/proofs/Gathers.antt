-- What numbers give, one after the other: where the part of number s stands, and which part place e is in. Assumes nothing.
use mathlib.Core.Path.{◌≡◌, refl, sym, ap, ◌∙◌}
use mathlib.Core.Bool.{Bool, true, false}
use mathlib.Core.List.{List, ◌++◌}
use Prim.Native.Nat.{ℕ, zero, suc, ◌+◌, ◌-◌, ◌≤◌, ◌<◌}
use native.Mathlib.Omega.{arith}
use borrow.Author.Tests.{ltb-true, ltb-false}
use lib.Dec.{ltb}
use lib.ListN.{length, get_or, length-append, get_or-append}
use Rattle.prelude.specs.Lists.{gather, from, upto}
use Rattle.prelude.proofs.Lists.{gather_append, from-split, get_or-append-at}
use Rattle.prelude.proofs.Counts.{is-table}
use Rattle.prelude.proofs.Sums.{sum_from, length-gathered}
use Rattle.prelude.proofs.Maps.{gather-map}

module _ {A : Type 0} (f : ℕ → List A) where
  -- how many the numbers below s give
  abbrev pub before : ℕ → ℕ
  before s = length (gather f (upto s))

  pub gather-split : (n s : ℕ) → s < n → gather f (upto n) ≡ gather f (upto s) ++ (f s ++ gather f (from (suc s) (n - suc s)))
  unfolding gather from
  gather-split n s h =
      ap (λ k. gather f (from 0 k)) (let e : n ≡ s + suc (n - suc s) = omega arith in e)
      ∙ ap (gather f) (from-split 0 s (suc (n - suc s)))
      ∙ gather_append f (upto s) (from (0 + s) (suc (n - suc s)))
      ∙ ap (λ k. gather f (upto s) ++ gather f (from k (suc (n - suc s)))) (let e : 0 + s ≡ s = omega arith in e)

  pub before-less : (n s : ℕ) → s < n → before s + length (f s) ≤ before n
  before-less n s h =
      omega (
        arith,
        ap length (gather-split n s h),
        length-append (gather f (upto s)) (f s ++ gather f (from (suc s) (n - suc s))),
        length-append (f s) (gather f (from (suc s) (n - suc s))),
      )

  pub before-next : (s : ℕ) → before (suc s) ≡ before s + length (f s)
  unfolding gather from
  before-next s =
      ap length (gather-split (suc s) s (omega arith))
      ∙ length-append (gather f (upto s)) (f s ++ gather f (from (suc s) (suc s - suc s)))
      ∙ omega (
        arith,
        length-append (f s) (gather f (from (suc s) (suc s - suc s))),
        ap (λ k. length (gather f (from (suc s) k))) (let e : suc s - suc s ≡ 0 = omega arith in e),
      )

  pub gathered-at : (n s j : ℕ) (d : A) → s < n → j < length (f s) → get_or (gather f (upto n)) (before s + j) d ≡ get_or (f s) j d
  gathered-at n s j d h l =
      ap (λ xs. get_or xs (before s + j) d) (gather-split n s h)
      ∙ get_or-append-at (gather f (upto s)) (f s ++ gather f (from (suc s) (n - suc s))) (before s) j d refl
      ∙ get_or-append (f s) (gather f (from (suc s) (n - suc s))) d j l

  pub gathered-place : (n e : ℕ) → e < before n → (s : ℕ) × (j : ℕ) × (s < n) × (j < length (f s)) × (e ≡ before s + j)
  unfolding gather from
  gathered-place zero e h = absurd (omega arith)
  gathered-place (suc n) e h = go (ltb e (before n)) refl (gathered-place n e)
    where
      go : (b : Bool) → ltb e (before n) ≡ b → (e < before n → (s : ℕ) × (j : ℕ) × (s < n) × (j < length (f s)) × (e ≡ before s + j)) → (s : ℕ) × (j : ℕ) × (s < suc n) × (j < length (f s)) × (e ≡ before s + j)
      go true q ih = let p = ih (ltb-true e (before n) q) in (p.0, p.1, omega (arith, p.2), p.3, p.4)
      go false q ih =
          let l : before n ≤ e = ltb-false e (before n) q in
          (n, e - before n, omega arith, omega (arith, before-next n), omega arith)

-- as many as its places give
pub sum-places : {A B : Type 0} (f : A → List B) (d : A) (xs : List A) → sum_from (λ e. length (f (get_or xs e d))) 0 (length xs) ≡ length (gather f xs)
sum-places f d xs =
    sym (length-gathered (λ e. f (get_or xs e d)) 0 (length xs))
    ∙ ap length (sym (gather-map (λ e. get_or xs e d) f (upto (length xs))) ∙ ap (gather f) (sym (is-table (λ e. get_or xs e d) d (length xs) xs refl (λ j h. refl))))
