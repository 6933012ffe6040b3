-- Bytes written one after the other, and where they are found. Assumes nothing.
use mathlib.Core.Path.{◌≡◌, refl, sym, ap, ◌∙◌}
use mathlib.Core.List.{List, [], ◌∷◌, ◌++◌}
use Prim.Native.Nat.{ℕ, suc, ◌+◌, ◌≤◌}
use native.Mathlib.Nat.{add-zero}
use native.Mathlib.Omega.{arith}
use lib.ListN.{length, set, length-append}
use lib.Seq.{sets}
use Rattle.records.specs.Wrote.{Wrote}

pub sets-append : (xs ys l : List ℕ) (i : ℕ) → sets l i (xs ++ ys) ≡ sets (sets l i xs) (i + length xs) ys
sets-append [] ys l i = ap (λ k. sets l k ys) (sym (add-zero i))
sets-append (x ∷ xs) ys l i =
    sets-append xs ys (set l i x) (suc i) ∙ ap (λ k. sets (sets (set l i x) (suc i) xs) k ys) (let e : suc i + length xs ≡ i + suc (length xs) = omega arith in e)

pub nothing-wrote : (l : List ℕ) (i : ℕ) → Wrote l i [] l i
nothing-wrote l i = record { behind = sym (add-zero i); written = refl }

pub wrote_then : {l m r xs ys : List ℕ} {i j k : ℕ} → Wrote l i xs m j → Wrote m j ys r k → Wrote l i (xs ++ ys) r k
wrote_then {l} {m} {r} {xs} {ys} {i} {j} {k} a b = record {
  behind = let e : j ≡ i + length xs = a.behind in let f : k ≡ j + length ys = b.behind in omega (arith, length-append xs ys);
  written = b.written ∙ (λ x. sets (a.written x) (a.behind x) ys) ∙ sym (sets-append xs ys l i);
}

-- how far the place behind is
pub wrote-near : {l m t : List ℕ} {i j : ℕ} (n : ℕ) → Wrote l i t m j → length t ≤ n → j ≤ i + n
wrote-near n w h = let e = w.behind in omega arith
