-- Refusal 25: a state's waiting actions have the milliseconds of its first where each, one after the other, fits what is noted. Assumes nothing.
use mathlib.Core.Path.{◌≡◌, refl, sym, ap, ◌∙◌}
use mathlib.Core.Bool.{Bool, true, false, not, cond, ◌&&◌, ◌||◌}
use mathlib.Core.List.{List, [], ◌∷◌, ◌++◌, map}
use Prim.Native.Nat.{ℕ, ◌+◌, ◌-◌, ◌≤◌, ◌<◌}
use native.Mathlib.Nat.{sub-zero}
use native.Mathlib.Omega.{arith}
use borrow.Author.Tests.{ltb-true, eqb-true, eqb-false, eq-eqb, ne_eqb}
use lib.Dec.{ltb, eqb}
use lib.ListN.{length, get_or, set, take, replicate, length-set, length-replicate, get_or-replicate}
use lib.Seq.{get_or-set_same, get_or-set_other}
use Rattle.prelude.specs.Lists.{all, keep, from, upto}
use Rattle.prelude.specs.Owned.{of}
use Rattle.prelude.proofs.Bools.{eqb_comm}
use Rattle.prelude.proofs.Counts.{and-true}
use Rattle.prelude.proofs.Loops.{and_one, left-more, left-none}
use Rattle.prelude.proofs.Numbers.{same_truth, all-at, all-by, all_alike, all_both}
use Rattle.chart_files.specs.Waits.{fits_wait, note_wait, fit_waits}

-- ---- one state

-- what is noted of a state, if anything is
abbrev noted : ℕ → List ℕ
noted k = cond (eqb k 0) [] (k ∷ [])

-- its waiting times are those of the first, which is noted or still to come
abbrev alike_by : ℕ → List ℕ → Bool
alike_by k l = all (λ ms. all (eqb ms) (take 1 (noted k ++ l))) l

abbrev alike_in : List ℕ → List (ℕ × ℕ) → ℕ → Bool
alike_in first xs s = alike_by (get_or first s 0) (of s xs)

known-first : (k m : ℕ) (l : List ℕ) → eqb k 0 ≡ false → alike_by k (m ∷ l) ≡ (eqb k m && alike_by k l)
unfolding all
known-first k m l e =
    (λ i. all (λ ms. all (eqb ms) (take 1 (cond (e i) [] (k ∷ []) ++ (m ∷ l)))) (m ∷ l))
    ∙ (λ i. (sym (and_one (eqb m k)) ∙ eqb_comm m k) i && all (λ ms. all (eqb ms) (take 1 (cond (sym e i) [] (k ∷ []) ++ l))) l)

new-first : (m : ℕ) (l : List ℕ) → 0 < m → alike_by 0 (m ∷ l) ≡ alike_by m l
unfolding all
new-first m l h =
    (λ i. (sym (and_one (eqb m m)) ∙ eq-eqb m m refl) i && all (λ ms. all (eqb ms) (m ∷ [])) l)
    ∙ (λ i. all (λ ms. all (eqb ms) (take 1 (cond (sym (ne_eqb m 0 (λ e. omega arith)) i) [] (m ∷ []) ++ l))) l)

-- one waiting action more: it fits, if it is the state's, and the others do with what is noted then
alike-more : (first : List ℕ) (x : ℕ × ℕ) (xs : List (ℕ × ℕ)) (s : ℕ) → s < length first → 0 < x.1 →
    alike_in first (x ∷ xs) s ≡ ((not (eqb x.0 s) || fits_wait first x) && alike_in (note_wait first x) xs s)
unfolding keep
alike-more first x xs s h l = go (eqb x.0 s) refl (eqb (get_or first x.0 0) 0) refl
  where
    go : (b : Bool) → eqb x.0 s ≡ b → (z : Bool) → eqb (get_or first x.0 0) 0 ≡ z →
        alike_by (get_or first s 0) (map (λ y. y.1) (cond b (x ∷ keep (λ y. eqb y.0 s) xs) (keep (λ y. eqb y.0 s) xs)))
        ≡ ((not b || (z || eqb (get_or first x.0 0) x.1)) && alike_by (get_or (cond z (set first x.0 x.1) first) s 0) (of s xs))
    go true e true q =
        let o : x.0 ≡ s = eqb-true x.0 s e in
        let none : get_or first s 0 ≡ 0 = ap (λ k. get_or first k 0) (sym o) ∙ eqb-true (get_or first x.0 0) 0 q in
        let now : get_or (set first x.0 x.1) s 0 ≡ x.1 = ap (λ k. get_or (set first k x.1) s 0) o ∙ get_or-set_same first s x.1 0 h in
        ap (λ k. alike_by k (x.1 ∷ of s xs)) none ∙ new-first x.1 (of s xs) l ∙ ap (λ k. alike_by k (of s xs)) (sym now)
    go true e false q =
        let o : get_or first x.0 0 ≡ get_or first s 0 = ap (λ k. get_or first k 0) (eqb-true x.0 s e) in
        known-first (get_or first s 0) x.1 (of s xs) (ap (λ k. eqb k 0) (sym o) ∙ q) ∙ ap (λ k. eqb k x.1 && alike_in first xs s) (sym o)
    go false e true q = ap (λ k. alike_by k (of s xs)) (sym (get_or-set_other first x.0 s x.1 0 (λ o. eqb-false x.0 s e (sym o))))
    go false e false q = refl

-- ---- all states

module _ (n : ℕ) where
  owner-fits : (o : ℕ) → o < n → (b : Bool) → all (λ s. not (eqb o s) || b) (upto n) ≡ b
  owner-fits o h b =
      same_truth (all (λ s. not (eqb o s) || b) (upto n)) b
      (λ e. ap (λ t. not t || b) (sym (eq-eqb o o refl)) ∙ all-at (λ s. not (eqb o s) || b) n o h e)
      (λ e. all-by (λ s. not (eqb o s) || b) n (λ s g. ap (λ t. not (eqb o s) || t) e ∙ either (not (eqb o s))))
    where
      either : (a : Bool) → (a || true) ≡ true
      either true = refl
      either false = refl

  fit-alike : (xs : List (ℕ × ℕ)) (first : List ℕ) → n ≤ length first → all (λ x. ltb x.0 n && ltb 0 x.1) xs ≡ true →
      fit_waits first xs ≡ all (alike_in first xs) (upto n)
  unfolding fit_waits all keep
  fit-alike [] first l e = sym (all-by (λ s. true) n (λ s h. refl))
  fit-alike (x ∷ xs) first l e =
      let t : ((ltb x.0 n && ltb 0 x.1) ≡ true) × (all (λ x. ltb x.0 n && ltb 0 x.1) xs ≡ true) = and-true _ _ e in
      let u : (ltb x.0 n ≡ true) × (ltb 0 x.1 ≡ true) = and-true _ _ t.0 in
      let long : length (note_wait first x) ≡ length first = same_length (eqb (get_or first x.0 0) 0) in
      ap (λ b. fits_wait first x && b) (fit-alike xs (note_wait first x) (omega arith) t.1)
      ∙ sym
      (all_alike (alike_in first (x ∷ xs)) (λ s. (not (eqb x.0 s) || fits_wait first x) && alike_in (note_wait first x) xs s) n (λ s h. alike-more first x xs s (omega arith) (ltb-true 0 x.1 u.1))
      ∙ all_both (λ s. not (eqb x.0 s) || fits_wait first x) (alike_in (note_wait first x) xs) (upto n)
      ∙ ap (λ b. b && all (alike_in (note_wait first x) xs) (upto n)) (owner-fits x.0 (ltb-true x.0 n u.0) (fits_wait first x)))
    where
      same_length : (z : Bool) → length (cond z (set first x.0 x.1) first) ≡ length first
      same_length true = length-set first x.0 x.1
      same_length false = refl

  -- from none noted on
  pub fit_is : (xs : List (ℕ × ℕ)) → n ≤ 128 → all (λ x. ltb x.0 n && ltb 0 x.1) xs ≡ true →
      all (λ s. all (λ ms. all (eqb ms) (take 1 (of s xs))) (of s xs)) (upto n) ≡ fit_waits (replicate 128 0) xs
  fit_is xs l e =
      all_alike (λ s. alike_by 0 (of s xs)) (alike_in (replicate 128 0) xs) n (λ s h. ap (λ k. alike_by k (of s xs)) (sym (get_or-replicate 128 s 0 0 (omega arith))))
      ∙ sym (fit-alike xs (replicate 128 0) (omega (arith, length-replicate {A = ℕ} 128 0)) e)

-- ---- a loop over all actions, which passes over those that do not wait

module _ (wait : ℕ → ℕ × ℕ) (waiting : ℕ → Bool) (size : ℕ) where
  abbrev rest : ℕ → List (ℕ × ℕ)
  rest i = map wait (keep waiting (from i (size - i)))

  abbrev fits : List ℕ → ℕ → Bool
  fits first i = not (waiting i) || fits_wait first (wait i)

  abbrev next : List ℕ → ℕ → List ℕ
  next first i = cond (waiting i) (note_wait first (wait i)) first

  -- those below i fit, and are noted: the test is that of the others
  abbrev pub Fitted : List ℕ → ℕ → Type 0
  Fitted first i = fit_waits (replicate 128 0) (map wait (keep waiting (upto size))) ≡ fit_waits first (rest i)

  pub fitted_none : Fitted (replicate 128 0) 0
  fitted_none = ap (λ k. fit_waits (replicate 128 0) (map wait (keep waiting (from 0 k)))) (sym (sub-zero size))

  step : (first : List ℕ) (i : ℕ) → i < size → fit_waits first (rest i) ≡ (fits first i && fit_waits (next first i) (rest (i + 1)))
  unfolding fit_waits keep
  step first i h = ap (λ l. fit_waits first (map wait (keep waiting l))) (left-more i size h) ∙ go (waiting i)
    where
      go : (b : Bool) →
          fit_waits first (map wait (cond b (i ∷ keep waiting (from (i + 1) (size - (i + 1)))) (keep waiting (from (i + 1) (size - (i + 1))))))
          ≡ ((not b || fits_wait first (wait i)) && fit_waits (cond b (note_wait first (wait i)) first) (rest (i + 1)))
      go true = refl
      go false = refl

  pub fitted-more : (first after : List ℕ) (i : ℕ) → Fitted first i → i < size → fits first i ≡ true → after ≡ next first i → Fitted after (i + 1)
  fitted-more first after i f h e q = f ∙ step first i h ∙ (λ j. e j && fit_waits (sym q j) (rest (i + 1)))

  pub fitted-not : (first : List ℕ) (i : ℕ) → Fitted first i → i < size → fits first i ≡ false → fit_waits (replicate 128 0) (map wait (keep waiting (upto size))) ≡ false
  fitted-not first i f h e = f ∙ step first i h ∙ ap (λ b. b && fit_waits (next first i) (rest (i + 1))) e

  pub fitted-all : (first : List ℕ) (i : ℕ) → Fitted first i → size ≤ i → fit_waits (replicate 128 0) (map wait (keep waiting (upto size))) ≡ true
  unfolding fit_waits keep
  fitted-all first i f h = f ∙ ap (λ l. fit_waits first (map wait (keep waiting l))) (left-none i size h)
