-- Tallies: a tally stays within its limit where no place is counted more often. Assumes nothing.
use mathlib.Core.Path.{◌≡◌, refl, sym, ap, ◌∙◌}
use mathlib.Core.Bool.{Bool, true, false, cond, ◌&&◌}
use mathlib.Core.List.{List, [], ◌∷◌, map}
use Prim.Native.Nat.{ℕ, suc, ◌+◌, ◌-◌, ◌≤◌, ◌<◌}
use native.Mathlib.Nat.{sub-zero}
use native.Mathlib.Omega.{arith}
use borrow.Author.Tests.{lt-ltb, le-leb, ltb-true, leb-true, leb-false, eqb-true, eqb-false, eq-eqb}
use lib.Dec.{ltb, leb, eqb}
use lib.ListN.{length, get_or, replicate, length-set, take, length-replicate, get_or-replicate, replicate-append-replicate, get_or-eq_default}
use lib.Seq.{take_at, get_or-set_same, get_or-set_other}
use Rattle.prelude.specs.Lists.{all, count, from, upto}
use Rattle.prelude.proofs.Counts.{and-true}
use Rattle.expressions.proofs.Uses.{times}
use Rattle.prelude.proofs.Loops.{left-more, left-none}
use Rattle.chart_files.specs.Tallies.{add_one, none_above, tally}
use Rattle.prelude.proofs.Numbers.{same_truth, both_true, all-at, all-by}

-- what stands at a place with what is still to be counted there
one_more : (c : List ℕ) (k : ℕ) (ks : List ℕ) (j : ℕ) → j < length c → get_or (add_one c k) j 0 + times j ks ≡ get_or c j 0 + times j (k ∷ ks)
unfolding count
one_more c k ks j h = go (eqb k j) refl
  where
    go : (b : Bool) → eqb k j ≡ b → get_or (add_one c k) j 0 + times j ks ≡ get_or c j 0 + cond b (suc (times j ks)) (times j ks)
    go true e =
        let m : k ≡ j = eqb-true k j e in
        let s : get_or (add_one c k) j 0 ≡ get_or c j 0 + 1 = ap (λ i. get_or (add_one c i) j 0) m ∙ get_or-set_same c j (get_or c j 0 + 1) 0 h in
        omega arith
    go false e =
        let s : get_or (add_one c k) j 0 ≡ get_or c j 0 = get_or-set_other c k j (get_or c k 0 + 1) 0 (λ i. eqb-false k j e (sym i)) in
        omega arith

long : (c : List ℕ) (k : ℕ) → length (add_one c k) ≡ length c
long c k = length-set c k (get_or c k 0 + 1)

module _ (most : ℕ) where
  -- counted without coming above the limit: no place has more
  tally-at : (ks c : List ℕ) → none_above most c ks ≡ true → ((j : ℕ) → j < length c → get_or c j 0 ≤ most) → (j : ℕ) → j < length c → get_or c j 0 + times j ks ≤ most
  unfolding none_above count
  tally-at [] c e f j h = let l : get_or c j 0 ≤ most = f j h in omega arith
  tally-at (k ∷ ks) c e f j h =
      let t : (ltb (get_or c k 0) most ≡ true) × (none_above most (add_one c k) ks ≡ true) = and-true (ltb (get_or c k 0) most) (none_above most (add_one c k) ks) e in
      let l : length (add_one c k) ≡ length c = long c k in
      let ih : get_or (add_one c k) j 0 + times j ks ≤ most = tally-at ks (add_one c k) t.1 (λ i g. more (ltb-true (get_or c k 0) most t.0) i (omega arith) (f i (omega arith))) j (omega arith) in
      let o : get_or (add_one c k) j 0 + times j ks ≡ get_or c j 0 + times j (k ∷ ks) = one_more c k ks j h in
      omega arith
    where
      more : get_or c k 0 < most → (i : ℕ) → i < length c → get_or c i 0 ≤ most → get_or (add_one c k) i 0 ≤ most
      more b i g l = go (eqb k i) refl
        where
          go : (t : Bool) → eqb k i ≡ t → get_or (add_one c k) i 0 ≤ most
          go true e =
              let m : k ≡ i = eqb-true k i e in
              let s : get_or (add_one c k) i 0 ≡ get_or c i 0 + 1 = ap (λ x. get_or (add_one c x) i 0) m ∙ get_or-set_same c i (get_or c i 0 + 1) 0 g in
              let q : get_or c k 0 ≡ get_or c i 0 = ap (λ x. get_or c x 0) m in
              omega arith
          go false e =
              let s : get_or (add_one c k) i 0 ≡ get_or c i 0 = get_or-set_other c k i (get_or c k 0 + 1) 0 (λ x. eqb-false k i e (sym x)) in
              omega arith

  tally-by : 0 < most → (ks c : List ℕ) → ((j : ℕ) → j < length c → get_or c j 0 + times j ks ≤ most) → none_above most c ks ≡ true
  unfolding none_above count
  tally-by o [] c f = refl
  tally-by o (k ∷ ks) c f =
      both_true (lt-ltb (get_or c k 0) most (room (leb (length c) k) refl))
      (tally-by o ks (add_one c k) (λ j h. let g : j < length c = omega (arith, long c k) in omega (arith, one_more c k ks j g, f j g)))
    where
      room : (b : Bool) → leb (length c) k ≡ b → get_or c k 0 < most
      room true e = let z : get_or c k 0 ≡ 0 = get_or-eq_default c 0 (leb-true (length c) k e) in omega arith
      room false e = omega (arith, f k (leb-false (length c) k e), here (eqb k k) (eq-eqb k k refl))
        where
          here : (b : Bool) → b ≡ true → 1 ≤ cond b (suc (times k ks)) (times k ks)
          here true q = omega arith
          here false q = absurd (bad q)
            where
              bad : false ≡ true → ⊥
              bad q = let z : ◌≡◌ {A = ℕ} 0 1 = cc in omega arith

  -- from no counts on, by how often each place below n comes
  pub within-is : 0 < most → (n : ℕ) (ks : List ℕ) → none_above most (replicate n 0) ks ≡ all (λ j. leb (times j ks) most) (upto n)
  within-is o n ks =
      same_truth (none_above most (replicate n 0) ks) (all (λ j. leb (times j ks) most) (upto n))
      (λ e. all-by (λ j. leb (times j ks) most) n
      (λ j h. le-leb (times j ks) most (omega (arith, tally-at ks (replicate n 0) e (λ i g. omega (arith, zero-at i g)) j (omega (arith, size)), zero-at j (omega (arith, size))))))
      (λ e. tally-by o ks (replicate n 0)
      (λ j h. omega (arith, zero-at j h, leb-true (times j ks) most (all-at (λ j. leb (times j ks) most) n j (omega (arith, size)) e))))
    where
      size : length (replicate {A = ℕ} n 0) ≡ n
      size = length-replicate n 0

      zero-at : (j : ℕ) → j < length (replicate {A = ℕ} n 0) → ◌≡◌ {A = ℕ} (get_or (replicate n 0) j 0) 0
      zero-at j h = get_or-replicate n j 0 0 (omega (arith, size))

-- the first n of a row of zeros
pub take-zeros : (n m : ℕ) → n ≤ m → take n (replicate {A = ℕ} m 0) ≡ replicate n 0
take-zeros n m h =
    ap (λ k. take n (replicate k 0)) (let e : m ≡ n + (m - n) = omega arith in e)
    ∙ ap (take n) (sym (replicate-append-replicate n (m - n) 0))
    ∙ take_at (replicate n 0) (replicate (m - n) 0) n (length-replicate n 0)

pub length-zeros : (n m : ℕ) → n ≤ m → n ≡ length (take n (replicate {A = ℕ} m 0))
length-zeros n m h = sym (ap length (take-zeros n m h) ∙ length-replicate n 0)

-- ---- a loop that counts at one place after the other

module _ (most : ℕ) (key : ℕ → ℕ) (size : ℕ) where
  abbrev rest : ℕ → List ℕ
  rest i = map key (from i (size - i))

  -- the places of those below i are counted: what is left to count decides
  abbrev pub Tallied : List ℕ → List ℕ → ℕ → Type 0
  Tallied c₀ c i =
      (i ≤ size)
      × (length c ≡ length c₀)
      × (none_above most c₀ (map key (upto size)) ≡ none_above most c (rest i))
      × (tally most c₀ (map key (upto size)) ≡ tally most c (rest i))

  pub tallied-none : (c : List ℕ) → Tallied c c 0
  tallied-none c = let e : size ≡ size - 0 = sym (sub-zero size) in (omega arith, refl, ap (λ k. none_above most c (map key (from 0 k))) e, ap (λ k. tally most c (map key (from 0 k))) e)

  step : (c : List ℕ) (i : ℕ) → i < size → none_above most c (rest i) ≡ (ltb (get_or c (key i) 0) most && none_above most (add_one c (key i)) (rest (i + 1)))
  unfolding none_above
  step c i h = ap (λ l. none_above most c (map key l)) (left-more i size h)

  tally-step : (c : List ℕ) (i : ℕ) → i < size → tally most c (rest i) ≡ cond (ltb (get_or c (key i) 0) most) (tally most (add_one c (key i)) (rest (i + 1))) c
  unfolding tally
  tally-step c i h = ap (λ l. tally most c (map key l)) (left-more i size h)

  pub tallied-more : (c₀ c d : List ℕ) (i : ℕ) → Tallied c₀ c i → i < size → ltb (get_or c (key i) 0) most ≡ true → d ≡ add_one c (key i) → Tallied c₀ d (i + 1)
  tallied-more c₀ c d i t h e q = (
    omega arith,
    ap length q ∙ long c (key i) ∙ t.1,
    t.2 ∙ step c i h ∙ (λ x. e x && none_above most (sym q x) (rest (i + 1))),
    t.3 ∙ tally-step c i h ∙ (λ x. cond (e x) (tally most (sym q x) (rest (i + 1))) c),
  )

  -- what a test of all answers, and leaves counted
  abbrev Ends : List ℕ → List ℕ → Bool → Type 0
  Ends c₀ c r = (r ≡ none_above most c₀ (map key (upto size))) × (c ≡ tally most c₀ (map key (upto size)))

  pub tallied-not : (c₀ c d : List ℕ) (i : ℕ) → Tallied c₀ c i → i < size → ltb (get_or c (key i) 0) most ≡ false → d ≡ c → Ends c₀ d false
  tallied-not c₀ c d i t h e q = (
    sym (t.2 ∙ step c i h ∙ ap (λ b. b && none_above most (add_one c (key i)) (rest (i + 1))) e),
    q ∙ sym (t.3 ∙ tally-step c i h ∙ ap (λ b. cond b (tally most (add_one c (key i)) (rest (i + 1))) c) e),
  )

  pub tallied-all : (c₀ c : List ℕ) (i : ℕ) → Tallied c₀ c i → size ≤ i → Ends c₀ c true
  unfolding none_above tally
  tallied-all c₀ c i t h = (sym (t.2 ∙ ap (λ l. none_above most c (map key l)) (left-none i size h)), sym (t.3 ∙ ap (λ l. tally most c (map key l)) (left-none i size h)))
