-- Uses counted up to 2: what a place holds after several, and what tests of it say. Assumes nothing.
use mathlib.Core.Path.{◌≡◌, refl, sym, ap, ◌∙◌}
use mathlib.Core.Bool.{Bool, true, false, cond}
use mathlib.Core.List.{List, [], ◌∷◌, ◌++◌, map}
use Prim.Native.Nat.{ℕ, zero, suc, ◌+◌, ◌-◌, min, ◌≤◌, ◌<◌}
use native.Mathlib.Omega.{arith}
use borrow.Author.Tests.{eqb-true, eqb-false, ne_eqb, lt-leb}
use lib.Dec.{eqb, leb}
use lib.ListN.{length, get_or, replicate, length-set, length-map, length-replicate, get_or-replicate}
use lib.Seq.{get_or-set_same, get_or-set_other, ext_get_or}
use Rattle.prelude.specs.Lists.{count, gather, from, upto}
use Rattle.expressions.specs.Nodes.{Node}
use Rattle.expressions.specs.Uses.{add_use, add_uses, all_operands, operand_numbers}
use Rattle.prelude.proofs.Loops.{left-more, left-none}

pub adds-append : (u xs ys : List ℕ) → add_uses u (xs ++ ys) ≡ add_uses (add_uses u xs) ys
unfolding add_uses
adds-append u [] ys = refl
adds-append u (x ∷ xs) ys = adds-append (add_use u x) xs ys

pub adds-length : (u ks : List ℕ) → length (add_uses u ks) ≡ length u
unfolding add_uses
adds-length u [] = refl
adds-length u (k ∷ ks) = adds-length (add_use u k) ks ∙ length-set u k _

-- ---- what a place holds

abbrev pub times : ℕ → List ℕ → ℕ
times k ks = count (λ n. eqb n k) ks

module _ (k : ℕ) where
  same_place : (u : List ℕ) (x : ℕ) → k < length u → x ≡ k → get_or (add_use u x) k 0 ≡ min 2 (get_or u k 0 + 1)
  same_place u x h e = ap (λ j. get_or (add_use u j) k 0) e ∙ get_or-set_same u k (min 2 (get_or u k 0 + 1)) 0 h

  other_place : (u : List ℕ) (x : ℕ) → (x ≡ k → ⊥) → get_or (add_use u x) k 0 ≡ get_or u k 0
  other_place u x h = get_or-set_other u x k (min 2 (get_or u x 0 + 1)) 0 (λ e. h (sym e))

  pub adds-at : (u ks : List ℕ) → k < length u → get_or u k 0 ≤ 2 → get_or (add_uses u ks) k 0 ≡ min 2 (get_or u k 0 + times k ks)
  unfolding add_uses count
  adds-at u [] h l = omega arith
  adds-at u (x ∷ xs) h l =
      go (eqb x k) refl (adds-at (add_use u x) xs (let e : length (add_use u x) ≡ length u = length-set u x _ in omega arith))
    where
      go : (b : Bool) → eqb x k ≡ b → (get_or (add_use u x) k 0 ≤ 2 → get_or (add_uses (add_use u x) xs) k 0 ≡ min 2 (get_or (add_use u x) k 0 + times k xs)) →
          get_or (add_uses (add_use u x) xs) k 0 ≡ min 2 (get_or u k 0 + cond b (suc (times k xs)) (times k xs))
      go true e ih =
          let p : get_or (add_use u x) k 0 ≡ min 2 (get_or u k 0 + 1) = same_place u x h (eqb-true x k e) in
          let q : get_or (add_uses (add_use u x) xs) k 0 ≡ min 2 (get_or (add_use u x) k 0 + times k xs) = ih (omega arith) in
          omega arith
      go false e ih =
          let p : get_or (add_use u x) k 0 ≡ get_or u k 0 = other_place u x (eqb-false x k e) in
          let q : get_or (add_uses (add_use u x) xs) k 0 ≡ min 2 (get_or (add_use u x) k 0 + times k xs) = ih (omega arith) in
          omega arith

-- from no uses on, each place of m holds its node's uses, up to 2
get_or-from : (f : ℕ → ℕ) (k m i : ℕ) → i < m → get_or (map f (from k m)) i 0 ≡ f (k + i)
unfolding from
get_or-from f k zero i h = absurd (omega arith)
get_or-from f k (suc m) zero h = ap f (omega arith)
get_or-from f k (suc m) (suc i) h = get_or-from f (suc k) m i (omega arith) ∙ ap f (omega arith)

length_from : (k m : ℕ) → length (from k m) ≡ m
unfolding from
length_from k zero = refl
length_from k (suc m) = ap suc (length_from (suc k) m)

pub counted : (m : ℕ) (ks : List ℕ) → add_uses (replicate m 0) ks ≡ map (λ k. min 2 (times k ks)) (upto m)
counted m ks =
    ext_get_or 0 (add_uses (replicate m 0) ks) (map (λ k. min 2 (times k ks)) (upto m))
    (long ∙ sym (length-map (upto m) (λ k. min 2 (times k ks)) ∙ length_from 0 m))
    (λ i h. at i (let e : length (add_uses (replicate m 0) ks) ≡ m = long in omega arith))
  where
    long : length (add_uses (replicate m 0) ks) ≡ m
    long = adds-length (replicate m 0) ks ∙ length-replicate m 0

    at : (i : ℕ) → i < m → get_or (add_uses (replicate m 0) ks) i 0 ≡ get_or (map (λ k. min 2 (times k ks)) (upto m)) i 0
    at i h =
        let z : ◌≡◌ {A = ℕ} (get_or (replicate m 0) i 0) 0 = get_or-replicate m i 0 0 h in
        let l : length (replicate {A = ℕ} m 0) ≡ m = length-replicate m 0 in
        let p : get_or (add_uses (replicate m 0) ks) i 0 ≡ min 2 (get_or (replicate m 0) i 0 + times i ks) =
        adds-at i (replicate m 0) ks (omega arith) (omega arith)
        in
        let q : get_or (map (λ k. min 2 (times k ks)) (upto m)) i 0 ≡ min 2 (times i ks) =
        get_or-from (λ k. min 2 (times k ks)) 0 m i h ∙ ap (λ j. min 2 (times j ks)) (omega arith)
        in
        omega arith

-- ---- tests: used once, and at most once

pub once : (n : ℕ) → eqb (min 2 n) 1 ≡ eqb n 1
once zero = refl
once (suc zero) = refl
once (suc (suc n)) = ne_eqb (min 2 (suc (suc n))) 1 (λ e. omega arith) ∙ sym (ne_eqb (suc (suc n)) 1 (λ e. omega arith))

pub at-most-once : (n : ℕ) → leb (min 2 n) 1 ≡ leb n 1
at-most-once zero = refl
at-most-once (suc zero) = refl
at-most-once (suc (suc n)) = lt-leb (min 2 (suc (suc n))) 1 (omega arith) ∙ sym (lt-leb (suc (suc n)) 1 (omega arith))

-- ---- a loop that counts the operands of one node after the other

module _ (node : ℕ → Node) (size : ℕ) where
  abbrev rest : ℕ → List ℕ
  rest i = gather (λ n. operand_numbers (node n)) (from i (size - i))

  -- those of the nodes below i are counted: u₀ with all of them is u with the others
  abbrev pub Counted : List ℕ → List ℕ → ℕ → Type 0
  Counted u₀ u i = (i ≤ size) × (length u ≡ length u₀) × (add_uses u₀ (all_operands node size) ≡ add_uses u (rest i))

  pub counted_none : (u : List ℕ) → Counted u u 0
  counted_none u = let e : size ≡ size - 0 = omega arith in (omega arith, refl, ap (λ k. add_uses u (gather (λ n. operand_numbers (node n)) (from 0 k))) e)

  pub counted-more : (u₀ u v : List ℕ) (i : ℕ) → Counted u₀ u i → i < size → v ≡ add_uses u (operand_numbers (node i)) → Counted u₀ v (i + 1)
  unfolding gather
  counted-more u₀ u v i h l e = (
    omega arith,
    (ap length e ∙ adds-length u (operand_numbers (node i)) ∙ h.1),
    (h.2
        ∙ ap (λ r. add_uses u (gather (λ n. operand_numbers (node n)) r)) (left-more i size l)
        ∙ adds-append u (operand_numbers (node i)) (rest (i + 1))
        ∙ ap (λ w. add_uses w (rest (i + 1))) (sym e)),
  )

  pub counted-all : (u₀ u : List ℕ) (i : ℕ) → Counted u₀ u i → size ≤ i → u ≡ add_uses u₀ (all_operands node size)
  unfolding gather add_uses
  counted-all u₀ u i h l = sym (h.2 ∙ ap (λ r. add_uses u (gather (λ n. operand_numbers (node n)) r)) (left-none i size l))
