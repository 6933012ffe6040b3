-- The first number that passes a test, and those behind it. Assumes nothing.
use mathlib.Core.Path.{◌≡◌, refl, sym, ap, ◌∙◌}
use mathlib.Core.Logic.{◌⊎◌, inl, inr}
use mathlib.Core.Bool.{Bool, true, false, cond}
use mathlib.Core.List.{[], ◌∷◌}
use Prim.Native.Nat.{ℕ, zero, suc, ◌+◌, ◌-◌, ◌≤◌, ◌<◌}
use native.Mathlib.Nat.{le_refl}
use native.Mathlib.Omega.{arith}
use borrow.Author.Tests.{ne_eqb}
use Rattle.prelude.specs.Lists.{keep, from}
use Rattle.prelude.proofs.Loops.{left-more}
use Rattle.machines.specs.Chains.{head_or, earliest, named}

-- those kept by tests that agree below a number
pub keep-alike : (p q : ℕ → Bool) (k n : ℕ) → ((i : ℕ) → k ≤ i → i < k + n → p i ≡ q i) → keep p (from k n) ≡ keep q (from k n)
unfolding keep from
keep-alike p q k zero h = refl
keep-alike p q k (suc n) h = rw (h k (omega arith) (omega arith), keep-alike p q (suc k) n (λ i a b. h i (omega arith) (omega arith)))

module _ (p : ℕ → Bool) where
  -- of the numbers from k up to e one is the first that passes, and these stand behind it
  pub record Found (k e a : ℕ) : Type 0 where
    pub from_start : k ≤ a
    pub before_end : a < e
    pub passes : p a ≡ true
    pub those : keep p (from k (e - k)) ≡ a ∷ keep p (from (a + 1) (e - (a + 1)))

  keep_one : (k e : ℕ) → k < e → keep p (from k (e - k)) ≡ cond (p k) (k ∷ keep p (from (k + 1) (e - (k + 1)))) (keep p (from (k + 1) (e - (k + 1))))
  unfolding keep
  keep_one k e h = ap (keep p) (left-more k e h)

  -- the first is this one if it passes, else the first of the others
  pub earliest-one : (k e : ℕ) → k < e → earliest p k (e - k) ≡ cond (p k) k (earliest p (k + 1) (e - (k + 1)))
  earliest-one k e h = ap (head_or 65535) (keep_one k e h) ∙ go (p k)
    where
      go : (b : Bool) → head_or 65535 (cond b (k ∷ keep p (from (k + 1) (e - (k + 1)))) (keep p (from (k + 1) (e - (k + 1))))) ≡ cond b k (earliest p (k + 1) (e - (k + 1)))
      go true = refl
      go false = refl

  pub earliest-none : (e : ℕ) → earliest p e (e - e) ≡ 65535
  unfolding keep from
  earliest-none e = let z : e - e ≡ 0 = omega arith in ap (earliest p e) z

  abbrev Either : ℕ → ℕ → Type 0
  Either k e = (keep p (from k (e - k)) ≡ []) ⊎ ((a : ℕ) × Found k e a)

  either : (n k e : ℕ) → n ≡ e - k → Either k e
  unfolding keep from
  either zero k e h = inl (ap (λ n. keep p (from k n)) (sym h))
  either (suc n) k e h = go (p k) refl (either n (k + 1) e (omega arith))
    where
      l : k < e
      l = omega arith

      go : (b : Bool) → p k ≡ b → Either (k + 1) e → Either k e
      go true t r = inr (k, record { from_start = le_refl k; before_end = l; passes = t; those = keep_one k e l ∙ rw t })
      go false t (inl z) = inl (keep_one k e l ∙ rw t z)
      go false t (inr f) = inr (
        f.0,
        record {
          from_start = omega (arith, f.1.from_start);
          before_end = f.1.before_end;
          passes = f.1.passes;
          those = keep_one k e l ∙ rw t f.1.those;
        },
      )

  module _ (k e : ℕ) (small : e < 65536) where
    -- none passes
    pub none_found : earliest p k (e - k) ≡ 65535 → keep p (from k (e - k)) ≡ []
    none_found h = go (either (e - k) k e refl)
      where
        go : Either k e → keep p (from k (e - k)) ≡ []
        go (inl z) = z
        go (inr f) =
            let q : earliest p k (e - k) ≡ f.0 = ap (head_or 65535) f.1.those in
            let b : f.0 < e = f.1.before_end in
            absurd (omega arith)

    pub one_found : (earliest p k (e - k) ≡ 65535 → ⊥) → Found k e (earliest p k (e - k))
    one_found h = go (either (e - k) k e refl)
      where
        go : Either k e → Found k e (earliest p k (e - k))
        go (inl z) = absurd (h (ap (head_or 65535) z))
        go (inr f) = rw (ap (head_or 65535) f.1.those) f.1

    -- where a second one cannot pass, what the table names is all that passes
    pub only_one : ((a b : ℕ) → a < b → b < e → p a ≡ true → p b ≡ true → ⊥) → keep p (from k (e - k)) ≡ named (earliest p k (e - k))
    only_one once = go (either (e - k) k e refl)
      where
        go : Either k e → keep p (from k (e - k)) ≡ named (earliest p k (e - k))
        go (inl z) = rw z
        go (inr f) =
            let q : earliest p k (e - k) ≡ f.0 = ap (head_or 65535) f.1.those in
            let b : f.0 < e = f.1.before_end in
            f.1.those ∙ ap (λ l. f.0 ∷ l) (behind (either (e - (f.0 + 1)) (f.0 + 1) e refl)) ∙ sym (rw (q, ne_eqb f.0 65535 (λ n. absurd (omega arith))))
          where
            behind : Either (f.0 + 1) e → keep p (from (f.0 + 1) (e - (f.0 + 1))) ≡ []
            behind (inl z) = z
            behind (inr g) = absurd (once f.0 g.0 (omega (arith, g.1.from_start)) g.1.before_end f.1.passes g.1.passes)
