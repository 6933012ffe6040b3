-- The unused bytes of a record, read by ones, twos and fours; and by the codes that leave them unused. Assumes nothing.
use mathlib.Core.Path.{◌≡◌, refl, sym, ap, ◌∙◌, subst}
use mathlib.Core.Bool.{Bool, true, false, not, cond, ◌&&◌, ◌||◌}
use mathlib.Core.List.{List, [], ◌∷◌, map}
use Prim.Native.Nat.{ℕ, zero, suc, ◌+◌, ◌-◌, ◌≤◌, ◌<◌}
use native.Mathlib.Nat.{zero-add}
use native.Mathlib.Omega.{arith}
use borrow.Author.Tests.{leb-true, eqb-true, eqb-false, eq-eqb, ne_eqb}
use lib.Dec.{leb, eqb}
use Rattle.prelude.specs.Lists.{all, case_of}
use Rattle.records.specs.Bytes.{byte, two, four}
use Rattle.prelude.proofs.Loops.{and_one, and_assoc}
use Rattle.model.specs.ChartFile.{zero_bytes, unused_are_zero, between}
use Rattle.record_tests.proofs.UnusedRanges.{zeros_from, zeros-next, unused-one, unused-two}

-- a number of two parts is 0 where both are
both_zero : (a b n : ℕ) → (a ≡ 0 → b ≡ 0 → n ≡ 0) → (n ≡ 0 → (a ≡ 0) × (b ≡ 0)) → eqb n 0 ≡ (eqb a 0 && eqb b 0)
both_zero a b n f g = go (eqb a 0) refl (eqb b 0) refl
  where
    go : (x : Bool) → eqb a 0 ≡ x → (y : Bool) → eqb b 0 ≡ y → eqb n 0 ≡ (x && y)
    go true p true q = eq-eqb n 0 (f (eqb-true a 0 p) (eqb-true b 0 q))
    go true p false q = ne_eqb n 0 (λ e. eqb-false b 0 q (g e).1)
    go false p y q = ne_eqb n 0 (λ e. eqb-false a 0 p (g e).0)

past : (n : ℕ) {k : ℕ} → (k ≡ n → ⊥) → n ≤ k → n < k
past n h l = omega arith

outside : (a b k : ℕ) → (a ≤ k → b < k) → between a b k ≡ false
outside a b k f = go (leb a k) refl (leb k b) refl
  where
    go : (x : Bool) → leb a k ≡ x → (y : Bool) → leb k b ≡ y → (x && y) ≡ false
    go true p true q = let h : b < k = f (leb-true a k p) in let l : k ≤ b = leb-true k b q in absurd (omega arith)
    go true p false q = refl
    go false p y q = refl

module _ (r : List ℕ) where
  parted : (m n k : ℕ) → zeros_from (m + n) k r ≡ (zeros_from m k r && zeros_from n (k + m) r)
  unfolding all
  parted zero n k = λ i. zeros_from (zero-add n i) (let e : k ≡ k + 0 = omega arith in e i) r
  parted (suc m) n k =
      ap (λ j. zeros_from j k r) (let e : suc m + n ≡ suc (m + n) = omega arith in e)
      ∙ zeros-next r k (m + n)
      ∙ ap (λ b. eqb (byte r k) 0 && b) (parted m n (suc k) ∙ ap (λ j. zeros_from m (suc k) r && zeros_from n j r) (let e : suc k + m ≡ k + suc m = omega arith in e))
      ∙ and_assoc (eqb (byte r k) 0) (zeros_from m (suc k) r) (zeros_from n (k + suc m) r)
      ∙ ap (λ b. b && zeros_from n (k + suc m) r) (sym (zeros-next r k m))

  -- a range of two parts
  pub joined : (a b e : ℕ) → a ≤ b + 1 → b ≤ e → {p q : Bool} → p ≡ zero_bytes a b r → q ≡ zero_bytes (b + 1) e r → (p && q) ≡ zero_bytes a e r
  joined a b e h l x y =
      (λ i. x i && y i)
      ∙ ap (λ j. zeros_from (b + 1 - a) a r && zeros_from (e + 1 - (b + 1)) j r) (let d : b + 1 ≡ a + (b + 1 - a) = omega arith in d)
      ∙ sym (parted (b + 1 - a) (e + 1 - (b + 1)) a)
      ∙ ap (λ n. zeros_from n a r) (let d : (b + 1 - a) + (e + 1 - (b + 1)) ≡ e + 1 - a = omega arith in d)

  pub byte-zero : (k : ℕ) → eqb (byte r k) 0 ≡ zero_bytes k k r
  unfolding all
  byte-zero k =
      and_one (eqb (byte r k) 0)
      ∙ sym (zeros-next r k 0)
      ∙ ap (λ n. zeros_from n k r) (let e : 1 ≡ k + 1 - k = omega arith in e)

  pub two-zero : (k : ℕ) → eqb (two r k) 0 ≡ zero_bytes k (k + 1) r
  two-zero k =
      both_zero (byte r k) (byte r (k + 1)) (two r k) (λ p q. omega arith) (λ e. (omega arith, omega arith))
      ∙ joined k k (k + 1) (omega arith) (omega arith) (byte-zero k) (byte-zero (k + 1))

  pub four-zero : (k : ℕ) → eqb (four r k) 0 ≡ zero_bytes k (k + 3) r
  four-zero k =
      both_zero (two r k) (two r (k + 2)) (four r k) (λ p q. omega arith) (λ e. (omega arith, omega arith))
      ∙ joined k (k + 1) (k + 3) (omega arith) (omega arith) (two-zero k)
      (two-zero (k + 2) ∙ (λ i. zero_bytes (let d : k + 2 ≡ k + 1 + 1 = omega arith in d i) (let d : k + 2 + 1 ≡ k + 3 = omega arith in d i) r))

-- ---- ranges that codes leave unused: each part is zero, or the code is none of those that leave it unused

abbrev node_ranges : List (ℕ × List (ℕ × ℕ))
node_ranges =
    (1, (2, 7) ∷ []) ∷ (2, (4, 11) ∷ []) ∷ (8, (8, 11) ∷ []) ∷ (19, (4, 11) ∷ [])
    ∷ map (λ o. (o, (6, 11) ∷ [])) (3 ∷ 4 ∷ 5 ∷ 6 ∷ 7 ∷ 16 ∷ 17 ∷ 18 ∷ 20 ∷ 21 ∷ [])

module _ (r : List ℕ) where
  -- a node at 6, unless it raises
  raise-unused : (k : ℕ) → (not (eqb k 2) || zero_bytes 6 7 r) ≡ unused_are_zero (case_of k ((2, (6, 7) ∷ []) ∷ []) []) r
  unfolding case_of all
  raise-unused k = by (eqb k 2)
    where
      by : (b : Bool) → (not b || zero_bytes 6 7 r) ≡ unused_are_zero (cond b ((6, 7) ∷ []) []) r
      by true = and_one (zero_bytes 6 7 r)
      by false = refl

  -- of an update
  pub deed-unused : (k : ℕ) → (zero_bytes 10 15 r && (not (eqb k 2) || zero_bytes 6 7 r)) ≡ unused_are_zero ((10, 15) ∷ case_of k ((2, (6, 7) ∷ []) ∷ []) []) r
  unfolding all
  deed-unused k = ap (λ b. zero_bytes 10 15 r && b) (raise-unused k)

  -- of a node: operands at 2, 4 and 6, a constant at 8
  abbrev operands_unused : ℕ → Bool
  operands_unused k =
      (not (eqb k 1) || zero_bytes 2 3 r)
      && (not (eqb k 1 || eqb k 2 || eqb k 19) || zero_bytes 4 5 r)
      && (eqb k 8 || zero_bytes 6 7 r)
      && (eqb k 1 || zero_bytes 8 11 r)

  pub node-unused : (k : ℕ) → (zero_bytes 12 15 r && (not (between 1 8 k || between 16 21 k) || operands_unused k)) ≡ unused_are_zero ((12, 15) ∷ case_of k node_ranges []) r
  unfolding case_of
  node-unused k = by_code
    where
      Same : ℕ → Type 0
      Same k = (zero_bytes 12 15 r && (not (between 1 8 k || between 16 21 k) || operands_unused k)) ≡ unused_are_zero ((12, 15) ∷ case_of k node_ranges []) r

      is : (n : ℕ) → Same n → ((k ≡ n → ⊥) → Same k) → Same k
      is n here other = go (eqb k n) refl
        where
          go : (t : Bool) → eqb k n ≡ t → Same k
          go true e = subst Same (sym (eqb-true k n e)) here
          go false e = other (eqb-false k n e)

      -- one range, from a code's parts
      range : (x : ℕ × ℕ) {q : Bool} → q ≡ zero_bytes x.0 x.1 r → (zero_bytes 12 15 r && q) ≡ unused_are_zero ((12, 15) ∷ x ∷ []) r
      range x h = unused-two r (12, 15) x (x ∷ []) refl h refl

      from-four : (zero_bytes 4 5 r && zero_bytes 6 7 r && zero_bytes 8 11 r) ≡ zero_bytes 4 11 r
      from-four = joined r 4 7 11 (omega arith) (omega arith) (joined r 4 5 7 (omega arith) (omega arith) refl refl) refl

      from-six : (zero_bytes 6 7 r && zero_bytes 8 11 r) ≡ zero_bytes 6 11 r
      from-six = joined r 6 7 11 (omega arith) (omega arith) refl refl

      by_code : Same k
      by_code =
          is 1 (range (2, 7) (sym (and_one (zero_bytes 2 3 r && zero_bytes 4 5 r && zero_bytes 6 7 r)) ∙ joined r 2 5 7 (omega arith) (omega arith) (joined r 2 3 5 (omega arith) (omega arith) refl refl) refl)) (λ n1.
          is 2 (range (4, 11) from-four) (λ n2.
          is 8 (range (8, 11) refl) (λ n8.
          is 19 (range (4, 11) from-four) (λ n19.
          is 3 (range (6, 11) from-six) (λ n3.
          is 4 (range (6, 11) from-six) (λ n4.
          is 5 (range (6, 11) from-six) (λ n5.
          is 6 (range (6, 11) from-six) (λ n6.
          is 7 (range (6, 11) from-six) (λ n7.
          is 16 (range (6, 11) from-six) (λ n16.
          is 17 (range (6, 11) from-six) (λ n17.
          is 18 (range (6, 11) from-six) (λ n18.
          is 20 (range (6, 11) from-six) (λ n20.
          is 21 (range (6, 11) from-six) (λ n21.
          let low : between 1 8 k ≡ false = outside 1 8 k (λ h. past 8 n8 (past 7 n7 (past 6 n6 (past 5 n5 (past 4 n4 (past 3 n3 (past 2 n2 (past 1 n1 h)))))))) in
          let high : between 16 21 k ≡ false = outside 16 21 k (λ h. past 21 n21 (past 20 n20 (past 19 n19 (past 18 n18 (past 17 n17 (past 16 n16 h)))))) in
          ap (λ b. zero_bytes 12 15 r && (not b || operands_unused k)) (λ i. low i || high i)
          ∙ unused-one r (12, 15) [] (sym (and_one (zero_bytes 12 15 r))) refl
          ∙ ap (λ l. unused_are_zero ((12, 15) ∷ l) r)
          (sym (rw (
            ne_eqb k 1 n1,
            ne_eqb k 2 n2,
            ne_eqb k 8 n8,
            ne_eqb k 19 n19,
            ne_eqb k 3 n3,
            ne_eqb k 4 n4,
            ne_eqb k 5 n5,
            ne_eqb k 6 n6,
            ne_eqb k 7 n7,
            ne_eqb k 16 n16,
            ne_eqb k 17 n17,
            ne_eqb k 18 n18,
            ne_eqb k 20 n20,
            ne_eqb k 21 n21,
          )))))))))))))))))
