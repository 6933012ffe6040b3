-- Texts and their parts: how near each part ends, texts that are the same, and texts by the levels of their places. Assumes nothing.
use mathlib.Core.Path.{◌≡◌, sym, ap, ◌∙◌, subst}
use mathlib.Core.Bool.{cond}
use mathlib.Core.List.{List, [], ◌∷◌, ◌++◌}
use Prim.Native.Nat.{ℕ, ◌+◌, ◌≤◌, ◌<◌}
use native.Mathlib.Omega.{arith}
use borrow.Author.Tests.{le-leb, lt-leb}
use lib.IntN.{pos}
use lib.ListN.{length, length-append}
use Rattle.records.specs.Wrote.{Wrote}
use Rattle.lines.proofs.Digits.{decimal-one}
use Rattle.arithmetic.specs.Operators.{sum, difference, product, quotient, remainder}
use Rattle.guards.specs.Trees.{Tree, Binary, constant, variable, negation, binary, choice, arithmetic, comparison, both, either, binary_level, level}
use Rattle.guards.specs.Texts.{text_of, text_in}
use Rattle.guard_writer.specs.Operands.{Near}

pub near-left : {at : ℕ} (xs ys : List ℕ) → Near at (xs ++ ys) → Near at xs
near-left xs ys h = record { near = omega (arith, length-append xs ys) }

-- behind the first part the second is as near
pub near-then : {l m : List ℕ} {at j : ℕ} {xs : List ℕ} (ys : List ℕ) → Near at (xs ++ ys) → Wrote l at xs m j → Near j ys
near-then {l} {m} {at} {j} {xs} ys h w = let e : j ≡ at + length xs = w.behind in record { near = omega (arith, length-append xs ys) }

pub near-as : {at : ℕ} {xs ys : List ℕ} → Near at xs → xs ≡ ys → Near at ys
near-as {at} h e = subst (Near at) e h

pub wrote_as : {l m xs ys : List ℕ} {at j : ℕ} → Wrote l at xs m j → xs ≡ ys → Wrote l at ys m j
wrote_as {l} {m} {xs} {ys} {at} {j} w e = subst (λ t. Wrote l at t m j) e w

-- ---- 0, as an operand that is not lower, and an unknown operator, are written

pub zero-line : 48 ∷ [] ≡ text_of (constant (pos 0))
unfolding text_of
zero-line = sym (decimal-one 0 (omega arith))

-- ---- levels

pub levels : (o : Binary) → (1 ≤ binary_level o) × (binary_level o ≤ 7)
levels (arithmetic sum) = (omega arith, omega arith)
levels (arithmetic difference) = (omega arith, omega arith)
levels (arithmetic product) = (omega arith, omega arith)
levels (arithmetic quotient) = (omega arith, omega arith)
levels (arithmetic remainder) = (omega arith, omega arith)
levels (comparison o) = (omega arith, omega arith)
levels both = (omega arith, omega arith)
levels either = (omega arith, omega arith)

pub level-most : (t : Tree) → level t ≤ 7
level-most (constant z) = omega arith
level-most (variable v) = omega arith
level-most (negation t) = omega arith
level-most (binary o a b) = (levels o).1
level-most (choice t a b) = omega arith

pub bare : (k : ℕ) (t : Tree) → level t ≤ k → text_of t ≡ text_in k t
bare k t h = sym (ap (λ b. cond b (text_of t) (40 ∷ text_of t ++ (41 ∷ []))) (le-leb (level t) k h))

pub enclosed : (k : ℕ) (t : Tree) → k < level t → 40 ∷ text_of t ++ (41 ∷ []) ≡ text_in k t
enclosed k t h = sym (ap (λ b. cond b (text_of t) (40 ∷ text_of t ++ (41 ∷ []))) (lt-leb (level t) k h))

pub zero-text : (k : ℕ) → 48 ∷ [] ≡ text_in k (constant (pos 0))
zero-text k = zero-line ∙ bare k (constant (pos 0)) (omega arith)

-- a place that takes all
pub anywhere : (t : Tree) → text_in 7 t ≡ text_of t
anywhere t = sym (bare 7 t (level-most t))
