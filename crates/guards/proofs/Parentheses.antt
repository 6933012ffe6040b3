-- Of all lines of a tree its text has the fewest of every byte, so none of its parentheses can be left out. Assumes nothing.
use mathlib.Core.Path.{◌≡◌, refl, sym, ap, ◌∙◌, subst}
use mathlib.Core.Bool.{Bool, true, false, cond}
use mathlib.Core.List.{List, [], ◌∷◌, ◌++◌}
use Prim.Native.Nat.{ℕ, zero, suc, ◌+◌, ◌-◌, ◌≤◌, ◌<◌}
use Prim.Native.Char.{code}
use native.Mathlib.Omega.{arith}
use borrow.Author.Tests.{le-leb, lt-leb, leb-false}
use lib.Dec.{leb, eqb}
use lib.IntN.{pos, neg_ℤ}
use Rattle.prelude.specs.Lists.{count}
use Rattle.prelude.proofs.Numbers.{count-append}
use Rattle.records.specs.Refusal.{val}
use Rattle.model.specs.Replay.{decimal, signed_decimal}
use Rattle.guards.specs.Trees.{Binary, Tree, binary, binary_level, level}
use Rattle.guards.specs.Texts.{sign, text_of, text_in}
use Rattle.guards.specs.Grammar.{line_tree}
use Rattle.guards.specs.Rules.{Derives, named, positive, negative, enclosed, negated, joined, chosen, tighter, before, behind, Line, opens}
use Rattle.guards.proofs.Lines.{line_tree-correct}
use Rattle.guards.proofs.WrittenLines.{level-most}

-- ---- where the place takes the tree's level, its text stands bare

text_in-bare : (k : ℕ) (t : Tree) → level t ≤ k → text_in k t ≡ text_of t
text_in-bare k t l = ap (λ b. cond b (text_of t) (40 ∷ text_of t ++ (41 ∷ []))) (le-leb (level t) k l)

-- ---- the bytes that pass a test, in a text and in any line of its tree

module _ (p : ℕ → Bool) where
  abbrev one : ℕ → ℕ
  one b = count p (b ∷ [])

  enclosed-count : (s : List ℕ) → count p (40 ∷ s ++ (41 ∷ [])) ≡ one 40 + count p s + one 41
  enclosed-count s = count-append p (40 ∷ s) (41 ∷ []) ∙ ap (λ n. n + one 41) (count-append p (40 ∷ []) s)

  -- parentheses add to a text, and a looser place has them no sooner
  placed-least : (b : Bool) (s : List ℕ) → count p s ≤ count p (cond b s (40 ∷ s ++ (41 ∷ [])))
  placed-least true s = omega arith
  placed-least false s = omega (arith, enclosed-count s)

  placed-most : (b : Bool) (s : List ℕ) → count p (cond b s (40 ∷ s ++ (41 ∷ []))) ≤ one 40 + count p s + one 41
  placed-most true s = omega arith
  placed-most false s = omega (arith, enclosed-count s)

  looser-place : {j k : ℕ} (t : Tree) → j ≤ k → count p (text_in k t) ≤ count p (text_in j t)
  looser-place {j} {k} t l = go (leb (level t) k) refl
    where
      go : (b : Bool) → leb (level t) k ≡ b → count p (cond b (text_of t) (40 ∷ text_of t ++ (41 ∷ []))) ≤ count p (text_in j t)
      go true e = placed-least (leb (level t) j) (text_of t)
      go false e =
          let h : k < level t = leb-false (level t) k e in
          let f : text_in j t ≡ 40 ∷ text_of t ++ (41 ∷ []) = ap (λ b. cond b (text_of t) (40 ∷ text_of t ++ (41 ∷ []))) (lt-leb (level t) j (omega arith)) in
          omega (arith, ap (count p) f)

  front-count : (b : ℕ) (s u : List ℕ) → count p s ≤ count p u → count p (b ∷ s) ≤ count p (b ∷ u)
  front-count b s u h = omega (arith, count-append p (b ∷ []) s, count-append p (b ∷ []) u)

  constant-fewest : (n : ℕ) → count p (signed_decimal (neg_ℤ (pos n))) ≤ count p (45 ∷ decimal n)
  constant-fewest zero = omega (arith, count-append p (45 ∷ []) (decimal 0))
  constant-fewest (suc n) = omega arith

  joined-fewest : (o : Binary) (a b s u : List ℕ) → count p a ≤ count p s → count p b ≤ count p u → count p (a ++ sign o ++ b) ≤ count p (s ++ sign o ++ u)
  joined-fewest o a b s u h g = simp (count-append p) (omega arith)

  chosen-fewest : (t a b s u w : List ℕ) → count p t ≤ count p s → count p a ≤ count p u → count p b ≤ count p w → count p (t ++ (63 ∷ a) ++ (58 ∷ b)) ≤ count p (s ++ (63 ∷ u) ++ (58 ∷ w))
  chosen-fewest t a b s u w h g f =
      let i : count p (63 ∷ a) ≤ count p (63 ∷ u) = front-count 63 a u g in
      let j : count p (58 ∷ b) ≤ count p (58 ∷ w) = front-count 58 b w f in
      simp (count-append p) (omega arith)

  enclosed-fewest : (t : Tree) (s : List ℕ) → count p (text_of t) ≤ count p s → count p (text_in 0 t) ≤ count p (40 ∷ s ++ (41 ∷ []))
  enclosed-fewest t s h = omega (arith, placed-most (leb (level t) 0) (text_of t), enclosed-count s)

  -- a place for a choice takes every tree bare, and so does one for the tree's own level
  whole-fewest : (t : Tree) (s : List ℕ) → count p (text_in 7 t) ≤ count p s → count p (text_of t) ≤ count p s
  whole-fewest t s h = subst (λ u. count p u ≤ count p s) (text_in-bare 7 t (level-most t)) h

  own-fewest : (t : Tree) (s : List ℕ) → count p (text_of t) ≤ count p s → count p (text_in (level t) t) ≤ count p s
  own-fewest t s h = subst (λ u. count p u ≤ count p s) (sym (text_in-bare (level t) t (omega arith))) h

  pub Derives-fewest : {k : ℕ} {t : Tree} {s : List ℕ} → Derives k t s → count p (text_in k t) ≤ count p s
  unfolding text_of
  Derives-fewest (named h) = omega arith
  Derives-fewest (positive h) = omega arith
  Derives-fewest (negative {n} h) = constant-fewest n
  Derives-fewest (enclosed {t} {s} h) = enclosed-fewest t s (whole-fewest t s (Derives-fewest h))
  Derives-fewest (negated {t} {s} h) = front-count 33 (text_in 1 t) s (Derives-fewest h)
  Derives-fewest (joined {o} {a} {b} {s} {u} h g) =
      own-fewest (binary o a b) (s ++ sign o ++ u) (joined-fewest o (text_in (binary_level o) a) (text_in (binary_level o - 1) b) s u (Derives-fewest h) (Derives-fewest g))
  Derives-fewest (chosen {t} {a} {b} {s} {u} {w} h g f) =
      chosen-fewest (text_in 6 t) (text_of a) (text_of b) s u w (Derives-fewest h) (whole-fewest a u (Derives-fewest g)) (whole-fewest b w (Derives-fewest f))
  Derives-fewest (tighter {t} l h) = omega (arith, looser-place t l, Derives-fewest h)
  Derives-fewest (before {s} h) = omega (arith, count-append p (32 ∷ []) s, Derives-fewest h)
  Derives-fewest (behind {s} h) = omega (arith, count-append p s (32 ∷ []), Derives-fewest h)

  pub Line-fewest : (t : Tree) (s : List ℕ) → Line t s → count p (text_of t) ≤ count p s
  Line-fewest t s l = whole-fewest t s (Derives-fewest l.tree)

-- ---- "The writer puts parentheses only where leaving them out would change the tree"

pub text_of-fewest : (t : Tree) (s : List ℕ) → line_tree s ≡ val t → opens (text_of t) ≤ opens s
text_of-fewest t s e = Line-fewest (λ b. eqb b (code "(")) t s (line_tree-correct t s e)

opens-left : (a b c : List ℕ) → opens (a ++ (code "(" ∷ b) ++ (code ")" ∷ c)) ≡ suc (opens (a ++ b ++ c))
unfolding count
opens-left a b c =
    let p : ℕ → Bool = λ b. eqb b (code "(") in
    omega (arith, count-append p (a ++ (code "(" ∷ b)) (code ")" ∷ c), count-append p a (code "(" ∷ b), count-append p (a ++ b) c, count-append p a b)

-- without any of its pairs the line has another tree, or none
pub text_of-needed : (t : Tree) (a b c : List ℕ) → text_of t ≡ a ++ (code "(" ∷ b) ++ (code ")" ∷ c) → line_tree (a ++ b ++ c) ≡ val t → ⊥
text_of-needed t a b c e f = omega (arith, ap opens e, opens-left a b c, text_of-fewest t (a ++ b ++ c) f)
