-- The text that is written of a tree is a line of the rules, so it is read back. Assumes nothing.
use mathlib.Core.Path.{◌≡◌, refl}
use mathlib.Core.Bool.{Bool, true, false, cond, ◌&&◌}
use mathlib.Core.List.{List, [], ◌∷◌, ◌++◌}
use Prim.Native.Nat.{ℕ, suc, ◌-◌, ◌^◌, ◌≤◌, ◌<◌}
use native.Mathlib.Omega.{arith}
use borrow.Author.Tests.{ltb-true, leb-true}
use lib.Dec.{ltb, leb}
use lib.IntN.{ℤ, pos, negsuc}
use lib.ListN.{length}
use lib.Signed.{mag}
use Rattle.prelude.proofs.Counts.{and-true}
use Rattle.records.specs.Refusal.{val}
use Rattle.guards.specs.Trees.{Tree, constant, variable, negation, binary, choice, binary_level, level, is_writable}
use Rattle.guards.specs.Texts.{placed, text_of}
use Rattle.guards.specs.Grammar.{line_tree}
use Rattle.guards.specs.Rules.{Derives, named, positive, negative, enclosed, negated, joined, chosen, tighter, Line}
use Rattle.guards.proofs.Derived.{Begun-filled, Derives-begun}
use Rattle.guards.proofs.Steps.{Level, binary_level-within}
use Rattle.guards.proofs.Lines.{line_tree-complete}

pub level-most : (t : Tree) → level t ≤ 7
level-most (constant z) = omega arith
level-most (variable v) = omega arith
level-most (negation t) = omega arith
level-most (binary o a b) = let w : Level o = binary_level-within o in omega (arith, w.high)
level-most (choice t a b) = omega arith

placed-derived : (k : ℕ) (t : Tree) (s : List ℕ) → Derives (level t) t s → Derives k t (placed k (level t) s)
placed-derived k t s h = go (leb (level t) k) refl
  where
    go : (b : Bool) → leb (level t) k ≡ b → Derives k t (cond b s (40 ∷ s ++ (41 ∷ [])))
    go true e = tighter (leb-true (level t) k e) h
    go false e = tighter {j = 0} {k = k} (omega arith) (enclosed (tighter (level-most t) h))

constant-derived : (z : ℤ) → ltb (mag z) (2 ^ 31) ≡ true → Derives 0 (constant z) (text_of (constant z))
unfolding text_of
constant-derived (pos n) e = positive {n = n} (let l : n < 2 ^ 31 = ltb-true n (2 ^ 31) e in omega arith)
constant-derived (negsuc n) e = negative {n = suc n} (let l : n < 2 ^ 31 = ltb-true n (2 ^ 31) e in omega arith)

pub text_of-derived : (t : Tree) → is_writable t ≡ true → Derives (level t) t (text_of t)
unfolding text_of is_writable
text_of-derived (constant z) e = constant-derived z e
text_of-derived (variable v) e = named (leb-true v 63 e)
text_of-derived (negation t) e = negated (placed-derived 1 t (text_of t) (text_of-derived t e))
text_of-derived (binary o a b) e =
    let f : (is_writable a ≡ true) × (is_writable b ≡ true) = and-true (is_writable a) (is_writable b) e in
    joined (placed-derived (binary_level o) a (text_of a) (text_of-derived a f.0)) (placed-derived (binary_level o - 1) b (text_of b) (text_of-derived b f.1))
text_of-derived (choice t a b) e =
    let f : ((is_writable t && is_writable a) ≡ true) × (is_writable b ≡ true) = and-true (is_writable t && is_writable a) (is_writable b) e in
    let g : (is_writable t ≡ true) × (is_writable a ≡ true) = and-true (is_writable t) (is_writable a) f.0 in
    chosen (placed-derived 6 t (text_of t) (text_of-derived t g.0)) (tighter (level-most a) (text_of-derived a g.1)) (tighter (level-most b) (text_of-derived b f.1))

pub text_of-line : (t : Tree) → is_writable t ≡ true → length (text_of t) ≤ 256 → Line t (text_of t)
text_of-line t e h = let d : Derives (level t) t (text_of t) = text_of-derived t e in record { tree = tighter (level-most t) d; filled = Begun-filled (text_of t) (Derives-begun d); short = h }

-- "every written line that fits in 256 bytes is read back as its tree"
pub text_of-read : (t : Tree) → is_writable t ≡ true → length (text_of t) ≤ 256 → line_tree (text_of t) ≡ val t
text_of-read t e h = line_tree-complete t (text_of t) (text_of-line t e h)
