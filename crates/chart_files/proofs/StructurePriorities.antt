-- Priorities from 1 to 16 that differ in each state: no pair of a state and a priority comes twice. Assumes nothing.
use mathlib.Core.Path.{◌≡◌, refl, sym, ap, ◌∙◌}
use mathlib.Core.Bool.{Bool, true, false, not, cond, ◌&&◌, ◌||◌}
use mathlib.Core.List.{List, [], ◌∷◌, map}
use Prim.Native.Nat.{ℕ, suc, ◌+◌, ◌-◌, ◌*◌, ◌/◌, ◌%◌, ◌≤◌, ◌<◌}
use native.Mathlib.Omega.{arith}
use borrow.Author.Tests.{le-leb, leb-true, leb-false, eqb-true, eqb-false, eq-eqb, ne_eqb}
use lib.Dec.{leb, eqb, eqb-suc-zero}
use lib.ListN.{replicate}
use Rattle.prelude.specs.Lists.{all, count, keep, mem, distinct, upto}
use Rattle.prelude.proofs.Counts.{and-true}
use Rattle.expressions.proofs.Uses.{times}
use Rattle.chart_files.specs.Tallies.{none_above}
use Rattle.prelude.proofs.Numbers.{same_truth, both_true, all-at, all-by, count-alike, never}
use Rattle.prelude.proofs.Maps.{count_map, count-keep}
use Rattle.chart_files.proofs.Tallies.{within-is}

-- ---- distinct: none comes twice

not-mem : (x : ℕ) (ys : List ℕ) → not (mem x ys) ≡ eqb (times x ys) 0
unfolding mem count
not-mem x [] = refl
not-mem x (y ∷ ys) = go (eqb y x) (not-mem x ys)
  where
    go : (b : Bool) → not (mem x ys) ≡ eqb (times x ys) 0 → not (b || mem x ys) ≡ eqb (cond b (suc (times x ys)) (times x ys)) 0
    go true e = sym (eqb-suc-zero (times x ys))
    go false e = e

distinct-at : (ps : List ℕ) → distinct ps ≡ true → (p : ℕ) → times p ps ≤ 1
unfolding distinct count
distinct-at [] e p = omega arith
distinct-at (x ∷ xs) e p =
    let t : (not (mem x xs) ≡ true) × (distinct xs ≡ true) = and-true (not (mem x xs)) (distinct xs) e in
    go (eqb x p) refl (distinct-at xs t.1 p) (eqb-true (times x xs) 0 (sym (not-mem x xs) ∙ t.0))
  where
    go : (b : Bool) → eqb x p ≡ b → times p xs ≤ 1 → times x xs ≡ 0 → cond b (suc (times p xs)) (times p xs) ≤ 1
    go true q l z = let m : times x xs ≡ times p xs = ap (λ y. times y xs) (eqb-true x p q) in omega arith
    go false q l z = l

distinct-by : (ps : List ℕ) → ((p : ℕ) → times p ps ≤ 1) → distinct ps ≡ true
unfolding distinct count
distinct-by [] f = refl
distinct-by (x ∷ xs) f =
    both_true (not-mem x xs ∙ eq-eqb (times x xs) 0 (here (eqb x x) (eq-eqb x x refl) (f x)))
    (distinct-by xs (λ p. less p (eqb x p) (f p)))
  where
    here : (b : Bool) → b ≡ true → cond b (suc (times x xs)) (times x xs) ≤ 1 → times x xs ≡ 0
    here true q l = omega arith
    here false q l = let z : ◌≡◌ {A = ℕ} 0 1 = cc in absurd (omega arith)

    less : (p : ℕ) (b : Bool) → cond b (suc (times p xs)) (times p xs) ≤ 1 → times p xs ≤ 1
    less p true l = omega arith
    less p false l = l

-- ---- n transitions, each with its source and its priority

module _ (n : ℕ) (source priority : ℕ → ℕ) where
  abbrev pub key : ℕ → ℕ
  key t = 16 * source t + (priority t - 1)

  abbrev pub leaving : ℕ → List ℕ
  leaving s = keep (λ t. eqb (source t) s) (upto n)

  module _ (in_code : (t : ℕ) → t < n → (1 ≤ priority t) × (priority t ≤ 16)) where
    -- a pair comes as often as its state's priority
    pair-times : (s j : ℕ) → j < 16 → times (16 * s + j) (map key (upto n)) ≡ times (j + 1) (map priority (leaving s))
    pair-times s j h =
        count_map key (λ k. eqb k (16 * s + j)) (upto n)
        ∙ count-alike (λ t. eqb (key t) (16 * s + j)) (λ t. eqb (source t) s && eqb (priority t) (j + 1)) n (λ t b. at t (in_code t b))
        ∙ sym (count_map priority (λ p. eqb p (j + 1)) (leaving s) ∙ count-keep (λ t. eqb (source t) s) (λ t. eqb (priority t) (j + 1)) (upto n))
      where
        at : (t : ℕ) → (1 ≤ priority t) × (priority t ≤ 16) → eqb (key t) (16 * s + j) ≡ (eqb (source t) s && eqb (priority t) (j + 1))
        at t c = go (eqb (source t) s) refl (eqb (priority t) (j + 1)) refl
          where
            go : (a : Bool) → eqb (source t) s ≡ a → (b : Bool) → eqb (priority t) (j + 1) ≡ b → eqb (key t) (16 * s + j) ≡ (a && b)
            go true p true q = let x : source t ≡ s = eqb-true (source t) s p in let y : priority t ≡ j + 1 = eqb-true (priority t) (j + 1) q in eq-eqb (key t) (16 * s + j) (omega arith)
            go true p false q = let x : source t ≡ s = eqb-true (source t) s p in ne_eqb (key t) (16 * s + j) (λ e. eqb-false (priority t) (j + 1) q (omega arith))
            go false p b q = ne_eqb (key t) (16 * s + j) (λ e. eqb-false (source t) s p (omega arith))

    -- a priority out of code does not come
    other-times : (s p : ℕ) → ((1 ≤ p) × (p ≤ 16) → ⊥) → times p (map priority (leaving s)) ≡ 0
    other-times s p f =
        count_map priority (λ q. eqb q p) (leaving s)
        ∙ count-keep (λ t. eqb (source t) s) (λ t. eqb (priority t) p) (upto n)
        ∙ count-alike (λ t. eqb (source t) s && eqb (priority t) p) (λ t. false) n (λ t b. go t (in_code t b) (eqb (source t) s))
        ∙ never (upto n)
      where
        go : (t : ℕ) → (1 ≤ priority t) × (priority t ≤ 16) → (a : Bool) → (a && eqb (priority t) p) ≡ false
        go t c true = ne_eqb (priority t) p (λ e. f (omega arith, omega arith))
        go t c false = refl

    pub differ-within : (states : ℕ) → all (λ s. distinct (map priority (leaving s))) (upto states) ≡ none_above 1 (replicate (16 * states) 0) (map key (upto n))
    differ-within states =
        same_truth (all (λ s. distinct (map priority (leaving s))) (upto states)) (all (λ k. leb (times k (map key (upto n))) 1) (upto (16 * states)))
        (λ e. all-by (λ k. leb (times k (map key (upto n))) 1) (16 * states) (λ k h. le-leb (times k (map key (upto n))) 1 (one e k h)))
        (λ e. all-by (λ s. distinct (map priority (leaving s))) states (λ s h. distinct-by (map priority (leaving s)) (λ p. other e s h p (leb 1 p) refl (leb p 16) refl)))
        ∙ sym (within-is 1 (omega arith) (16 * states) (map key (upto n)))
      where
        one : all (λ s. distinct (map priority (leaving s))) (upto states) ≡ true → (k : ℕ) → k < 16 * states → times k (map key (upto n)) ≤ 1
        one e k h =
            let d : times (k % 16 + 1) (map priority (leaving (k / 16))) ≤ 1 =
            distinct-at (map priority (leaving (k / 16))) (all-at (λ s. distinct (map priority (leaving s))) states (k / 16) (omega arith) e) (k % 16 + 1)
            in
            let r : times (16 * (k / 16) + k % 16) (map key (upto n)) ≡ times (k % 16 + 1) (map priority (leaving (k / 16))) = pair-times (k / 16) (k % 16) (omega arith) in
            let m : times (16 * (k / 16) + k % 16) (map key (upto n)) ≡ times k (map key (upto n)) = ap (λ i. times i (map key (upto n))) (omega arith) in
            omega arith

        other : all (λ k. leb (times k (map key (upto n))) 1) (upto (16 * states)) ≡ true → (s : ℕ) → s < states → (p : ℕ) →
            (a : Bool) → leb 1 p ≡ a → (b : Bool) → leb p 16 ≡ b → times p (map priority (leaving s)) ≤ 1
        other e s h p true x true y =
            let l : 1 ≤ p = leb-true 1 p x in
            let g : p ≤ 16 = leb-true p 16 y in
            let t : times (16 * s + (p - 1)) (map key (upto n)) ≤ 1 =
            leb-true (times (16 * s + (p - 1)) (map key (upto n))) 1 (all-at (λ k. leb (times k (map key (upto n))) 1) (16 * states) (16 * s + (p - 1)) (omega arith) e)
            in
            let r : times (16 * s + (p - 1)) (map key (upto n)) ≡ times (p - 1 + 1) (map priority (leaving s)) = pair-times s (p - 1) (omega arith) in
            let m : times (p - 1 + 1) (map priority (leaving s)) ≡ times p (map priority (leaving s)) = ap (λ i. times i (map priority (leaving s))) (omega arith) in
            omega arith
        other e s h p false x b y = let l : p < 1 = leb-false 1 p x in let z : times p (map priority (leaving s)) ≡ 0 = other-times s p (λ c. omega arith) in omega arith
        other e s h p true x false y = let l : 16 < p = leb-false p 16 y in let z : times p (map priority (leaving s)) ≡ 0 = other-times s p (λ c. omega arith) in omega arith
