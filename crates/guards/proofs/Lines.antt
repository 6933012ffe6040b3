-- The lines that are read are those of the rules, each as its one tree. Assumes nothing.
use mathlib.Core.Path.{◌≡◌, refl, sym, ap, ◌∙◌, subst}
use mathlib.Core.Bool.{Bool, true, false, ◌||◌}
use mathlib.Core.List.{List, [], ◌∷◌, ◌++◌, append-nil}
use Prim.Native.Nat.{ℕ, ◌+◌, ◌*◌, ◌≤◌}
use native.Mathlib.Omega.{arith}
use borrow.Author.Tests.{ne_eqb, eqb-false, le-ltb, ltb-false}
use lib.Dec.{eqb, ltb}
use lib.ListN.{length}
use Rattle.prelude.proofs.Counts.{impossible}
use Rattle.records.specs.Refusal.{broken_line, val, ◌>>=◌, ◌>>◌, fault_if}
use Rattle.guards.specs.Trees.{Tree}
use Rattle.guards.specs.Grammar.{Read, unspaced, choice_at, line_tree, Grammar}
use Rattle.guards.specs.Rules.{Derives, Line}
use Rattle.guards.proofs.Readings.{Reads, End, no-operator}
use Rattle.guards.proofs.Complete.{Derives-complete}
use Rattle.guards.proofs.Values.{val_same, bound, passed}
use Rattle.guards.proofs.Fronts.{Front, Front-padded}
use Rattle.guards.proofs.Correct.{choice_at-correct}

-- ---- a line of the rules is read as its tree

line-end : End []
unfolding Grammar
line-end = record { next = no-operator 7 [] refl refl; bare = refl }

module _ (t : Tree) (s : List ℕ) (l : Line t s) where
  right-size : (eqb (length s) 0 || ltb 256 (length s)) ≡ false
  right-size = let filled : 1 ≤ length s = l.filled in rw (ne_eqb (length s) 0 (omega arith), le-ltb 256 (length s) l.short) refl

  pub line_tree-complete : line_tree s ≡ val t
  unfolding unspaced
  line_tree-complete =
      let e : s ++ [] ≡ s = append-nil s in
      let x : Reads t [] (choice_at (3 * length s + 3) (s ++ [])) = (Derives-complete l.tree).whole (3 * length s + 3) [] line-end (omega (arith, ap length e)) in
      ap (λ b. fault_if b broken_line >> (choice_at (3 * length s + 3) s >>= λ t. fault_if (ltb 0 (length (unspaced t.rest))) broken_line >> val t.got)) right-size
      ∙ ap (λ m. m >>= λ t. fault_if (ltb 0 (length (unspaced t.rest))) broken_line >> val t.got) (ap (choice_at (3 * length s + 3)) (sym e) ∙ x.out)
      ∙ ap (λ u. fault_if (ltb 0 (length u)) broken_line >> val t) x.same

-- ---- and only such lines are read

no_bytes : (s : List ℕ) → ltb 0 (length s) ≡ false → s ≡ []
no_bytes [] e = refl
no_bytes (b ∷ s) e = let h : length (b ∷ s) ≤ 0 = ltb-false 0 (length (b ∷ s)) e in absurd (omega arith)

sized : (n : ℕ) (b : Bool) → eqb n 0 ≡ b → (b || ltb 256 n) ≡ false → (1 ≤ n) × (n ≤ 256)
sized n true e f = impossible f
sized n false e f = let other : n ≡ 0 → ⊥ = eqb-false n 0 e in (omega (arith, other), ltb-false 256 n f)

pub line_tree-correct : (t : Tree) (s : List ℕ) → line_tree s ≡ val t → Line t s
line_tree-correct t s e =
    let f : ((eqb (length s) 0 || ltb 256 (length s)) ≡ false) × ((choice_at (3 * length s + 3) s >>= λ t. fault_if (ltb 0 (length (unspaced t.rest))) broken_line >> val t.got) ≡ val t) = passed (eqb (length s) 0 || ltb 256 (length s)) broken_line _ e in
    let n : (1 ≤ length s) × (length s ≤ 256) = sized (length s) (eqb (length s) 0) refl f.0 in
    bound (choice_at (3 * length s + 3) s) _ f.1 λ x g e.
    record { tree = all_of x g (passed (ltb 0 (length (unspaced x.rest))) broken_line (val x.got) e); filled = n.0; short = n.1 }
  where
    all_of : (x : Read Tree) → choice_at (3 * length s + 3) s ≡ val x → (ltb 0 (length (unspaced x.rest)) ≡ false) × (val x.got ≡ val t) → Derives 7 t s
    all_of x e f =
        let h : Front 7 x.got s (unspaced x.rest) = Front-padded (choice_at-correct (3 * length s + 3) s x e) in
        let g : s ≡ h.front = h.same ∙ ap (λ u. h.front ++ u) (no_bytes (unspaced x.rest) f.0) ∙ append-nil h.front in
        subst (λ u. Derives 7 u s) (val_same f.1) (subst (Derives 7 x.got) (sym g) h.tree)

-- so no line has two trees
pub Line-unique : (t u : Tree) (s : List ℕ) → Line t s → Line u s → t ≡ u
Line-unique t u s l m = val_same (sym (line_tree-complete t s l) ∙ line_tree-complete u s m)
