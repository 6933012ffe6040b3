-- A tree that a line is, by the rules, is one that a line can hold, and has no more nodes than the line has bytes. Assumes nothing.
use mathlib.Core.Path.{◌≡◌}
use mathlib.Core.Bool.{true, ◌&&◌}
use mathlib.Core.List.{List, [], ◌∷◌, ◌++◌}
use Prim.Native.Nat.{ℕ, zero, suc, ◌^◌, ◌≤◌, ◌<◌}
use native.Mathlib.Omega.{arith}
use borrow.Author.Tests.{lt-ltb, le-leb}
use lib.IntN.{pos, neg_ℤ}
use lib.ListN.{length, length-append}
use lib.Signed.{mag}
use Rattle.records.specs.Refusal.{val}
use Rattle.model.specs.Replay.{decimal}
use Rattle.arithmetic.specs.Operators.{sum, difference, product, quotient, remainder, equal, less, at_most}
use Rattle.guards.specs.Trees.{Binary, arithmetic, comparison, both, either, Tree, node_count, is_writable}
use Rattle.guards.specs.Texts.{sign}
use Rattle.guards.specs.Grammar.{line_tree}
use Rattle.guards.specs.Rules.{Derives, named, positive, negative, enclosed, negated, joined, chosen, tighter, before, behind, Line}
use Rattle.guards.proofs.Derived.{Begun-filled, Derives-begun}
use Rattle.guards.proofs.Lines.{line_tree-correct}

low : (n : ℕ) → n ≤ 2 ^ 31 → mag (neg_ℤ (pos n)) < 2 ^ 31
low zero l = omega arith
low (suc n) l = omega arith

pub Derives-writable : {k : ℕ} {t : Tree} {s : List ℕ} → Derives k t s → is_writable t ≡ true
unfolding is_writable
Derives-writable (named {v} h) = le-leb v 63 h
Derives-writable (positive {n} h) = lt-ltb n (2 ^ 31) (omega arith)
Derives-writable (negative {n} h) = lt-ltb (mag (neg_ℤ (pos n))) (2 ^ 31) (low n h)
Derives-writable (enclosed h) = Derives-writable h
Derives-writable (negated h) = Derives-writable h
Derives-writable (joined h g) = λ i. Derives-writable h i && Derives-writable g i
Derives-writable (chosen h g f) = λ i. Derives-writable h i && Derives-writable g i && Derives-writable f i
Derives-writable (tighter l h) = Derives-writable h
Derives-writable (before h) = Derives-writable h
Derives-writable (behind h) = Derives-writable h

sign-filled : (o : Binary) → 1 ≤ length (sign o)
sign-filled (arithmetic sum) = omega arith
sign-filled (arithmetic difference) = omega arith
sign-filled (arithmetic product) = omega arith
sign-filled (arithmetic quotient) = omega arith
sign-filled (arithmetic remainder) = omega arith
sign-filled (comparison equal) = omega arith
sign-filled (comparison less) = omega arith
sign-filled (comparison at_most) = omega arith
sign-filled both = omega arith
sign-filled either = omega arith

-- a leaf has a byte at least, and an operator one besides those of its operands
pub Derives-nodes : {k : ℕ} {t : Tree} {s : List ℕ} → Derives k t s → node_count t ≤ length s
unfolding node_count
Derives-nodes {s = s} (named {v} h) = omega arith
Derives-nodes {s = s} (positive {n} h) = Begun-filled (decimal n) (Derives-begun (positive {n = n} h))
Derives-nodes (negative {n} h) = omega arith
Derives-nodes (enclosed {t} {s} h) = let n : node_count t ≤ length s = Derives-nodes h in omega (arith, length-append (40 ∷ s) (41 ∷ []))
Derives-nodes (negated {t} {s} h) = let n : node_count t ≤ length s = Derives-nodes h in omega arith
Derives-nodes (joined {o} {a} {b} {s} {u} h g) =
    let n : node_count a ≤ length s = Derives-nodes h in
    let m : node_count b ≤ length u = Derives-nodes g in
    omega (arith, length-append (s ++ sign o) u, length-append s (sign o), sign-filled o)
Derives-nodes (chosen {t} {a} {b} {s} {u} {w} h g f) =
    let n : node_count t ≤ length s = Derives-nodes h in
    let m : node_count a ≤ length u = Derives-nodes g in
    let l : node_count b ≤ length w = Derives-nodes f in
    omega (arith, length-append (s ++ (63 ∷ u)) (58 ∷ w), length-append s (63 ∷ u))
Derives-nodes (tighter l h) = Derives-nodes h
Derives-nodes (before {k} {t} {s} h) = let n : node_count t ≤ length s = Derives-nodes h in omega arith
Derives-nodes (behind {k} {t} {s} h) = let n : node_count t ≤ length s = Derives-nodes h in omega (arith, length-append s (32 ∷ []))

pub line_tree-writable : (s : List ℕ) (t : Tree) → line_tree s ≡ val t → (is_writable t ≡ true) × (node_count t ≤ 256)
line_tree-writable s t e =
    let l : Line t s = line_tree-correct t s e in
    let n : node_count t ≤ length s = Derives-nodes l.tree in
    let m : length s ≤ 256 = l.short in
    (Derives-writable l.tree, omega arith)
