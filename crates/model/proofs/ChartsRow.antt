-- A state's row is what the translation collects by priority: those of priority 1, then those of 2, and so on; and what stands in the row before a
-- transition are those of higher priority. Assumes nothing.
use mathlib.Core.Path.{◌≡◌, refl, sym, ap, ◌∙◌, subst}
use mathlib.Core.Bool.{Bool, true, false, cond, ◌&&◌, ◌||◌}
use mathlib.Core.List.{List, [], ◌∷◌, ◌++◌, append-nil}
use Prim.Native.Nat.{ℕ, suc, ◌+◌, ◌-◌, ◌≤◌, ◌<◌, zero-le}
use native.Mathlib.Omega.{arith}
use lib.Dec.{T, leb, ltb, eqb, eqb→eq, eqb_refl, le→leb, lt→ltb, ltb→lt, nltb→le}
use Rattle.prelude.specs.Lists.{keep, gather, from, upto, all, mem, distinct}
use Rattle.model.specs.ChartSet.{ChartSet, no_transition, transition}
use Rattle.model.specs.Charts.{row}
use Rattle.model.specs.ChartFile.{priorities_differ}
use Rattle.model.specs.Translation.{transition_count, tried_before}
use Rattle.prelude.proofs.Bools.{and_left, and_right, is_true, is_false, of-true, to-left, not-of, not-false, both_of, eq→eqb}
use Rattle.prelude.proofs.Lists.{keep-mem, mem-kept, distinct-keep, from-mem, mem-from, distinct_from, mem-sorted, distinct-sorted, gather-mem, all_keep, all-upto, keep-keep, gather_append, from-split, kept-apart}
use Rattle.prelude.proofs.Sorting.{sorted-buckets}
use Rattle.model.proofs.AutomataOpen.{row_before}

module _ (cs : ChartSet) where
  -- ---- who stands in a row

  pub row-mem : (s t : ℕ) → T (mem t (row cs s)) → (t < transition_count cs) × ((transition cs t).source ≡ s)
  row-mem s t m =
      let k : T (eqb (transition cs t).source s) × T (mem t (upto (transition_count cs))) =
      keep-mem (λ t. eqb (transition cs t).source s) t (upto (transition_count cs)) (subst T (mem-sorted (λ t. (transition cs t).priority) t (keep (λ t. eqb (transition cs t).source s) (upto (transition_count cs)))) m) in
      let b : (0 ≤ t) × (t < 0 + transition_count cs) = from-mem t 0 (transition_count cs) k.1 in
      (omega arith, eqb→eq (transition cs t).source s k.0)

  pub mem-row : (s t : ℕ) → t < transition_count cs → (transition cs t).source ≡ s → T (mem t (row cs s))
  mem-row s t h e =
      rw (mem-sorted (λ t. (transition cs t).priority) t (keep (λ t. eqb (transition cs t).source s) (upto (transition_count cs))))
      (mem-kept (λ t. eqb (transition cs t).source s) t (upto (transition_count cs)) (of-true (eq→eqb e)) (mem-from t 0 (transition_count cs) zero-le (omega arith)))

  pub row-once : (s : ℕ) → T (distinct (row cs s))
  row-once s =
      rw (distinct-sorted (λ t. (transition cs t).priority) (keep (λ t. eqb (transition cs t).source s) (upto (transition_count cs))))
      (distinct-keep (λ t. eqb (transition cs t).source s) (upto (transition_count cs)) (distinct_from 0 (transition_count cs)))

  -- ---- the row by priority

  -- those that leave s with priority q
  abbrev pub of_priority : ℕ → ℕ → List ℕ
  of_priority s q = keep (λ u. eqb (transition cs u).source s && eqb (transition cs u).priority q) (upto (transition_count cs))

  pub of_priority-mem : (s q t : ℕ) → T (mem t (of_priority s q)) → (t < transition_count cs) × ((transition cs t).source ≡ s) × ((transition cs t).priority ≡ q)
  of_priority-mem s q t m =
      let k : T (eqb (transition cs t).source s && eqb (transition cs t).priority q) × T (mem t (upto (transition_count cs))) =
      keep-mem (λ u. eqb (transition cs u).source s && eqb (transition cs u).priority q) t (upto (transition_count cs)) m in
      let b : (0 ≤ t) × (t < 0 + transition_count cs) = from-mem t 0 (transition_count cs) k.1 in (
        omega arith,
        eqb→eq (transition cs t).source s (and_left (eqb (transition cs t).source s) (eqb (transition cs t).priority q) k.0),
        eqb→eq (transition cs t).priority q (and_right (eqb (transition cs t).source s) (eqb (transition cs t).priority q) k.0),
      )

  pub mem-of_priority : (s q t : ℕ) → t < transition_count cs → (transition cs t).source ≡ s → (transition cs t).priority ≡ q → T (mem t (of_priority s q))
  mem-of_priority s q t h e d =
      mem-kept (λ u. eqb (transition cs u).source s && eqb (transition cs u).priority q) t (upto (transition_count cs))
      (both_of (eqb (transition cs t).source s) (eqb (transition cs t).priority q) (of-true (eq→eqb e)) (of-true (eq→eqb d))) (mem-from t 0 (transition_count cs) zero-le (omega arith))

  -- priorities are 1 to 16
  module _ (ranks : (t : ℕ) → t < transition_count cs → (1 ≤ (transition cs t).priority) × ((transition cs t).priority ≤ 16)) (s : ℕ) where
    pub row-by-priority : row cs s ≡ tried_before cs s 17
    row-by-priority =
        sorted-buckets (λ t. (transition cs t).priority) 1 16 (keep (λ t. eqb (transition cs t).source s) (upto (transition_count cs)))
        (is_true {b = all fits (keep (λ t. eqb (transition cs t).source s) (upto (transition_count cs)))} (all_keep fits (λ t. eqb (transition cs t).source s) (upto (transition_count cs)) (all-upto fits (transition_count cs) in-range)))
        ∙ (λ i. gather (λ q. keep-keep (λ t. eqb (transition cs t).source s) (λ t. eqb (transition cs t).priority q) (upto (transition_count cs)) i) (from 1 16))
      where
        fits : ℕ → Bool
        fits t = leb 1 (transition cs t).priority && ltb (transition cs t).priority 17

        in-range : (t : ℕ) → t < transition_count cs → T (fits t)
        in-range t h =
            let b : (1 ≤ (transition cs t).priority) × ((transition cs t).priority ≤ 16) = ranks t h in
            both_of (leb 1 (transition cs t).priority) (ltb (transition cs t).priority 17) (le→leb 1 (transition cs t).priority b.0) (lt→ltb (transition cs t).priority 17 (omega arith))

    -- and differ where they leave the same state
    module _ (differ : T (priorities_differ cs s)) where
      same_rank : (t u : ℕ) → t < transition_count cs → u < transition_count cs → (transition cs t).source ≡ s → (transition cs u).source ≡ s →
          (transition cs t).priority ≡ (transition cs u).priority → t ≡ u
      same_rank t u h k e d q = go (ltb t u) refl (ltb u t) refl
        where
          one_less : (a b : ℕ) → a < b → b < transition_count cs → (transition cs a).source ≡ s → (transition cs b).source ≡ s → (transition cs a).priority ≡ (transition cs b).priority → ⊥
          one_less a b l m i j p = kept-apart (λ x. eqb x.source s) (λ x. x.priority) no_transition cs.transitions a b l m (of-true (eq→eqb i)) (of-true (eq→eqb j)) differ p

          go : (a : Bool) → ltb t u ≡ a → (b : Bool) → ltb u t ≡ b → t ≡ u
          go true i b j = absurd (one_less t u (ltb→lt t u (of-true i)) k e d q)
          go false i true j = absurd (one_less u t (ltb→lt u t (of-true j)) h d e (sym q))
          go false i false j =
              let m : u ≤ t = nltb→le t u (not-false i) in
              let n : t ≤ u = nltb→le u t (not-false j) in
              omega arith

      -- past those without t
      before-past : (t : ℕ) (xs ys : List ℕ) → mem t xs ≡ false → row_before t (xs ++ ys) ≡ xs ++ row_before t ys
      unfolding row_before mem
      before-past t [] ys e = refl
      before-past t (x ∷ xs) ys e = go (eqb x t) e (before-past t xs ys)
        where
          go : (p : Bool) → (p || mem t xs) ≡ false → (mem t xs ≡ false → row_before t (xs ++ ys) ≡ xs ++ row_before t ys) → cond p [] (x ∷ row_before t (xs ++ ys)) ≡ x ∷ (xs ++ row_before t ys)
          go true e ih = absurd (subst T e tt)
          go false e ih = ap (λ l. x ∷ l) (ih e)

      -- t alone has its rank, so nothing stands before it there
      before_here : (t : ℕ) (xs ys : List ℕ) → ((u : ℕ) → T (mem u xs) → u ≡ t) → T (mem t xs) → row_before t (xs ++ ys) ≡ []
      unfolding row_before mem
      before_here t [] ys only m = absurd m
      before_here t (x ∷ xs) ys only m = rw (eq→eqb (only x (to-left (eqb x x) (mem x xs) (eqb_refl x))))

      pub row_before-tried_before : (t : ℕ) → t < transition_count cs → (transition cs t).source ≡ s → row_before t (row cs s) ≡ tried_before cs s (transition cs t).priority
      unfolding gather from
      row_before-tried_before t h e =
          let b : (1 ≤ (transition cs t).priority) × ((transition cs t).priority ≤ 16) = ranks t h in
          ap (row_before t) (row-by-priority ∙ cut (transition cs t).priority b.0 b.1)
          ∙ before-past t (tried_before cs s (transition cs t).priority) (of_priority s (transition cs t).priority ++ gather (of_priority s) (from (suc (transition cs t).priority) (16 - (transition cs t).priority)))
          (is_false {b = mem t (tried_before cs s (transition cs t).priority)} (not-of (mem t (tried_before cs s (transition cs t).priority)) (λ m. higher m)))
          ∙ ap (λ l. tried_before cs s (transition cs t).priority ++ l)
          (before_here t (of_priority s (transition cs t).priority) (gather (of_priority s) (from (suc (transition cs t).priority) (16 - (transition cs t).priority)))
          (λ u m. let k : (u < transition_count cs) × ((transition cs u).source ≡ s) × ((transition cs u).priority ≡ (transition cs t).priority) = of_priority-mem s (transition cs t).priority u m in same_rank u t k.0 h k.1 e k.2)
          (mem-of_priority s (transition cs t).priority t h e refl))
          ∙ append-nil (tried_before cs s (transition cs t).priority)
        where
          cut : (p : ℕ) → 1 ≤ p → p ≤ 16 → tried_before cs s 17 ≡ tried_before cs s p ++ (of_priority s p ++ gather (of_priority s) (from (suc p) (16 - p)))
          cut p a b = ap (gather (of_priority s)) (at p a b) ∙ gather_append (of_priority s) (from 1 (p - 1)) (p ∷ from (suc p) (16 - p))
            where
              at : (p : ℕ) → 1 ≤ p → p ≤ 16 → from 1 16 ≡ from 1 (p - 1) ++ (p ∷ from (suc p) (16 - p))
              at p a b =
                  let i : p - 1 + suc (16 - p) ≡ 16 = omega arith in
                  let j : 1 + (p - 1) ≡ p = omega arith in
                  ap (from 1) (sym i) ∙ from-split 1 (p - 1) (suc (16 - p)) ∙ ap (λ n. from 1 (p - 1) ++ (n ∷ from (suc n) (16 - p))) j

          higher : T (mem t (tried_before cs s (transition cs t).priority)) → ⊥
          higher m =
              let (q, i, j) = gather-mem (of_priority s) t (from 1 ((transition cs t).priority - 1)) m in
              let r : (1 ≤ q) × (q < 1 + ((transition cs t).priority - 1)) = from-mem q 1 ((transition cs t).priority - 1) i in
              let k : (t < transition_count cs) × ((transition cs t).source ≡ s) × ((transition cs t).priority ≡ q) = of_priority-mem s q t j in
              omega arith
