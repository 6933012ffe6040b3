-- What the rules derive: its parts before bytes behind it, and its first byte. Assumes nothing.
use mathlib.Core.Path.{◌≡◌, refl, sym, ap, ◌∙◌}
use mathlib.Core.List.{List, [], ◌∷◌, ◌++◌, append_assoc}
use Prim.Native.Nat.{ℕ, suc, ◌^◌, ◌≤◌, ◌<◌}
use native.Mathlib.Omega.{arith}
use lib.ListN.{length}
use Rattle.records.specs.Bytes.{byte}
use Rattle.model.specs.Replay.{decimal}
use Rattle.guards.specs.Trees.{Tree}
use Rattle.guards.specs.Rules.{Derives, named, positive, negative, enclosed, negated, joined, chosen, tighter, before, behind}
use Rattle.guards.proofs.Numerals.{Leading, decimal-leading, digit-most}

pub joined-parts : (s o u r : List ℕ) → s ++ o ++ u ++ r ≡ s ++ (o ++ (u ++ r))
joined-parts s o u r = simp append_assoc

pub choice-parts : (s u w r : List ℕ) → s ++ (63 ∷ u) ++ (58 ∷ w) ++ r ≡ s ++ (63 ∷ u ++ (58 ∷ w ++ r))
choice-parts s u w r = simp append_assoc

-- ---- there is a first byte, and it is no `=`

pub record Begun (s : List ℕ) : Type 0 where
  pub first : ℕ
  pub others : List ℕ
  pub same : s ≡ first ∷ others
  pub other : first ≡ 61 → ⊥

by_first : (b : ℕ) (s : List ℕ) → (b ≡ 61 → ⊥) → Begun (b ∷ s)
by_first b s n = record { first = b; others = s; same = refl; other = n }

by_front : (s r : List ℕ) → Begun s → Begun (s ++ r)
by_front s r h = record { first = h.first; others = h.others ++ r; same = ap (λ u. u ++ r) h.same; other = h.other }

by-decimal : (n : ℕ) → n < 2 ^ 32 → Begun (decimal n)
by-decimal n l =
    let d : Leading n (decimal n) = decimal-leading n l in
    let most : d.first ≤ 57 = digit-most d.first d.digit in
    record { first = d.first; others = d.others; same = d.same; other = λ e. omega arith }

pub Derives-begun : {k : ℕ} {t : Tree} {s : List ℕ} → Derives k t s → Begun s
Derives-begun (named {v} h) = by_first 118 (decimal v) (λ e. omega arith)
Derives-begun (positive {n} h) = by-decimal n (omega arith)
Derives-begun (negative {n} h) = by_first 45 (decimal n) (λ e. omega arith)
Derives-begun (enclosed {s} h) = by_first 40 (s ++ (41 ∷ [])) (λ e. omega arith)
Derives-begun (negated {s} h) = by_first 33 s (λ e. omega arith)
Derives-begun (joined {s} h g) = by_front _ _ (by_front s _ (Derives-begun h))
Derives-begun (chosen {s} h g f) = by_front _ _ (by_front s _ (Derives-begun h))
Derives-begun (tighter l h) = Derives-begun h
Derives-begun (before {s} h) = by_first 32 s (λ e. omega arith)
Derives-begun (behind {s} h) = by_front s _ (Derives-begun h)

pub Begun-filled : (s : List ℕ) → Begun s → 1 ≤ length s
Begun-filled s h = let e : length s ≡ suc (length h.others) = ap length h.same in omega arith

pub Begun-other : (s r : List ℕ) → Begun s → byte (s ++ r) 0 ≡ 61 → ⊥
Begun-other s r h e = h.other (ap (λ u. byte (u ++ r) 0) (sym h.same) ∙ e)
