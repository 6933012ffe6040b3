-- Initial states of all charts at once: states marked as initial, and left once, are asked for in one pass over transitions and one over actions. Assumes nothing.
use mathlib.Core.Path.{◌≡◌, refl, sym, ap, ◌∙◌}
use mathlib.Core.Bool.{Bool, true, false, not, cond, ◌&&◌, ◌||◌}
use mathlib.Core.List.{List, [], ◌∷◌, map}
use Prim.Native.Nat.{ℕ, zero, suc, ◌+◌, min, ◌≤◌, ◌<◌}
use native.Mathlib.Omega.{arith}
use borrow.Author.Tests.{ltb-true, ltb-false, eqb-true, eqb-false, eq-eqb, ne_eqb}
use lib.Dec.{ltb, eqb}
use lib.ListN.{length, get_or, replicate, length-replicate, get_or-replicate, get_or-eq_default}
use Rattle.prelude.specs.Lists.{all, count, upto}
use Rattle.prelude.proofs.Counts.{and-true}
use Rattle.expressions.specs.Uses.{add_uses}
use Rattle.expressions.proofs.Uses.{times, adds-length, adds-at, once}
use Rattle.prelude.proofs.Maps.{all_map}
use Rattle.prelude.proofs.Numbers.{all-at, all_both}

-- ---- tests of all

module _ {A : Type 0} where
  passing : (xs : List A) → true ≡ all (λ x. true) xs
  unfolding all
  passing [] = refl
  passing (x ∷ xs) = passing xs

  all-swap : {B : Type 0} (p : B → A → Bool) (ys : List B) (xs : List A) → all (λ y. all (p y) xs) ys ≡ all (λ x. all (λ y. p y x) ys) xs
  unfolding all
  all-swap p [] xs = passing xs
  all-swap p (y ∷ ys) xs = ap (λ b. all (p y) xs && b) (all-swap p ys xs) ∙ sym (all_both (p y) (λ x. all (λ y. p y x) ys) xs)

  all-or : (p : A → Bool) (b : Bool) (xs : List A) → all (λ x. p x || b) xs ≡ (all p xs || b)
  unfolding all
  all-or p b [] = refl
  all-or p b (x ∷ xs) = ap (λ c. (p x || b) && c) (all-or p b xs) ∙ go (p x) (all p xs) b
    where
      go : (a c b : Bool) → ((a || b) && (c || b)) ≡ ((a && c) || b)
      go true c b = refl
      go false true true = refl
      go false false true = refl
      go false c false = refl

-- ---- marks: how often each of 128 places is named, up to 2

abbrev pub marks : List ℕ → List ℕ
marks ns = add_uses (replicate 128 0) ns

mark-at : (ns : List ℕ) (k : ℕ) → k < 128 → get_or (marks ns) k 0 ≡ min 2 (times k ns)
mark-at ns k h =
    let z : ◌≡◌ {A = ℕ} (get_or (replicate 128 0) k 0) 0 = get_or-replicate 128 k 0 0 h in
    let l : length (replicate {A = ℕ} 128 0) ≡ 128 = length-replicate {A = ℕ} 128 0 in
    let p : get_or (marks ns) k 0 ≡ min 2 (get_or (replicate 128 0) k 0 + times k ns) = adds-at k (replicate 128 0) ns (omega arith) (omega arith) in
    p ∙ ap (min 2) (omega arith)

-- no place past the others is named
times-past : (k : ℕ) (ns : List ℕ) → all (λ n. ltb n 128) ns ≡ true → 128 ≤ k → times k ns ≡ 0
unfolding all count
times-past k [] e h = refl
times-past k (n ∷ ns) e h =
    let t : (ltb n 128 ≡ true) × (all (λ n. ltb n 128) ns ≡ true) = and-true (ltb n 128) (all (λ n. ltb n 128) ns) e in
    let l : n < 128 = ltb-true n 128 t.0 in
    ap (λ b. cond b (suc (times k ns)) (times k ns)) (ne_eqb n k (λ q. omega arith)) ∙ times-past k ns t.1 h

none : (n : ℕ) → eqb (min 2 n) 0 ≡ eqb n 0
none zero = refl
none (suc n) = ne_eqb (min 2 (suc n)) 0 (λ e. omega arith) ∙ sym (ne_eqb (suc n) 0 (λ e. omega arith))

not_named : (k : ℕ) (ns : List ℕ) → all (λ n. not (eqb k n)) ns ≡ eqb (times k ns) 0
unfolding all count
not_named k [] = refl
not_named k (n ∷ ns) = go (eqb k n) refl (not_named k ns)
  where
    go : (b : Bool) → eqb k n ≡ b → all (λ n. not (eqb k n)) ns ≡ eqb (times k ns) 0 →
        (not b && all (λ n. not (eqb k n)) ns) ≡ eqb (cond (eqb n k) (suc (times k ns)) (times k ns)) 0
    go true p e =
        sym
        (ap (λ b. eqb (cond b (suc (times k ns)) (times k ns)) 0) (eq-eqb n k (sym (eqb-true k n p)))
        ∙ ne_eqb (suc (times k ns)) 0 (λ q. omega arith))
    go false p e = e ∙ sym (ap (λ b. eqb (cond b (suc (times k ns)) (times k ns)) 0) (ne_eqb n k (λ q. eqb-false k n p (sym q))))

module _ (ns : List ℕ) (named : all (λ n. ltb n 128) ns ≡ true) where
  unmarked : (k : ℕ) → all (λ n. not (eqb k n)) ns ≡ eqb (get_or (marks ns) k 0) 0
  unmarked k = not_named k ns ∙ go (ltb k 128) refl
    where
      go : (b : Bool) → ltb k 128 ≡ b → eqb (times k ns) 0 ≡ eqb (get_or (marks ns) k 0) 0
      go true e = sym (ap (λ n. eqb n 0) (mark-at ns k (ltb-true k 128 e)) ∙ none (times k ns))
      go false e =
          let h : 128 ≤ k = ltb-false k 128 e in
          let l : length (marks ns) ≡ 128 = adds-length (replicate 128 0) ns ∙ length-replicate {A = ℕ} 128 0 in
          ap (λ n. eqb n 0) (times-past k ns named h) ∙ sym (ap (λ n. eqb n 0) (get_or-eq_default (marks ns) 0 (omega arith)))

-- ---- the initial states of charts

module _ (charts : ℕ) (initial : ℕ → ℕ) (named : all (λ c. ltb (initial c) 128) (upto charts) ≡ true) where
  abbrev states : List ℕ
  states = map initial (upto charts)

  clear : (k : ℕ) → all (λ c. not (eqb k (initial c))) (upto charts) ≡ eqb (get_or (marks states) k 0) 0
  clear k = sym (all_map initial (λ n. not (eqb k n)) (upto charts)) ∙ unmarked states (all_map initial (λ n. ltb n 128) (upto charts) ∙ named) k

  pub apart-once : (n : ℕ) (source target : ℕ → ℕ) (free : ℕ → Bool) →
      all (λ c. all (λ t. not (eqb (target t) (initial c)) && (not (eqb (source t) (initial c)) || free t)) (upto n)) (upto charts)
      ≡ all (λ t. eqb (get_or (marks states) (target t) 0) 0 && (eqb (get_or (marks states) (source t) 0) 0 || free t)) (upto n)
  apart-once n source target free =
      all-swap (λ c t. not (eqb (target t) (initial c)) && (not (eqb (source t) (initial c)) || free t)) (upto charts) (upto n)
      ∙ (λ i. all (λ t. at t i) (upto n))
    where
      at : (t : ℕ) →
          all (λ c. not (eqb (target t) (initial c)) && (not (eqb (source t) (initial c)) || free t)) (upto charts)
          ≡ (eqb (get_or (marks states) (target t) 0) 0 && (eqb (get_or (marks states) (source t) 0) 0 || free t))
      at t =
          all_both (λ c. not (eqb (target t) (initial c))) (λ c. not (eqb (source t) (initial c)) || free t) (upto charts)
          ∙ (λ i. clear (target t) i && (all-or (λ c. not (eqb (source t) (initial c))) (free t) (upto charts) ∙ ap (λ b. b || free t) (clear (source t))) i)

  pub idle-once : (n : ℕ) (acts : ℕ → Bool) (owner : ℕ → ℕ) →
      all (λ c. all (λ i. not (acts i && eqb (owner i) (initial c))) (upto n)) (upto charts) ≡ all (λ i. eqb (get_or (marks states) (owner i) 0) 0 || not (acts i)) (upto n)
  idle-once n acts owner =
      all-swap (λ c i. not (acts i && eqb (owner i) (initial c))) (upto charts) (upto n)
      ∙ (λ j. all (λ i. at i j) (upto n))
    where
      neither : (a b : Bool) → not (a && b) ≡ (not b || not a)
      neither true true = refl
      neither true false = refl
      neither false true = refl
      neither false false = refl

      at : (i : ℕ) → all (λ c. not (acts i && eqb (owner i) (initial c))) (upto charts) ≡ (eqb (get_or (marks states) (owner i) 0) 0 || not (acts i))
      at i =
          (λ j. all (λ c. neither (acts i) (eqb (owner i) (initial c)) j) (upto charts))
          ∙ all-or (λ c. not (eqb (owner i) (initial c))) (not (acts i)) (upto charts)
          ∙ ap (λ b. b || not (acts i)) (clear (owner i))

  -- left once, by how often each place is a source
  pub left-once : (sources : List ℕ) (c : ℕ) → c < charts → eqb (times (initial c) sources) 1 ≡ eqb (get_or (marks sources) (initial c) 0) 1
  left-once sources c h =
      sym
      (ap (λ n. eqb n 1) (mark-at sources (initial c) (ltb-true (initial c) 128 (all-at (λ c. ltb (initial c) 128) charts c h named)))
      ∙ once (times (initial c) sources))
