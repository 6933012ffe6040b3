-- The array of the edges as it is filled, edge by edge. Assumes nothing.
use mathlib.Core.Path.{◌≡◌, refl, sym, ◌∙◌, subst}
use mathlib.Core.Bool.{Bool, true, false}
use mathlib.Core.List.{List}
use Prim.Native.Nat.{ℕ, ◌+◌, ◌<◌}
use native.Mathlib.Omega.{arith}
use borrow.Author.Tests.{eqb-true, eqb-false}
use lib.Dec.{eqb}
use lib.ListN.{length, get_or, set, length-set}
use lib.Seq.{get_or-set_same, get_or-set_other}
use Rattle.model.specs.Limits.{most_edges}
use Rattle.paths.specs.declared.Edge.{Edge}
use Rattle.paths.specs.LedOf.{no_edge, IsEdge}

-- the array holds so many edges
pub record Held (s : List ℕ) (charts n : ℕ) (edges : List Edge) : Type 0 where
  pub room : length edges ≡ most_edges
  pub held : (e : ℕ) → e < n → IsEdge s charts e (get_or edges e no_edge)

pub held_more : (s : List ℕ) (charts n : ℕ) (edges : List Edge) (x : Edge) → n < most_edges → Held s charts n edges → IsEdge s charts n x → Held s charts (n + 1) (set edges n x)
held_more s charts n edges x h held is = record {
  room = length-set edges n x ∙ held.room;
  held = λ e l. go e l (eqb e n) refl;
}
  where
    go : (e : ℕ) → e < n + 1 → (b : Bool) → eqb e n ≡ b → IsEdge s charts e (get_or (set edges n x) e no_edge)
    go e l true q =
        subst (λ k. IsEdge s charts k (get_or (set edges n x) k no_edge)) (sym (eqb-true e n q)) (subst (IsEdge s charts n) (sym (get_or-set_same edges n x no_edge (omega (arith, held.room)))) is)
    go e l false q =
        let d : e ≡ n → ⊥ = eqb-false e n q in
        subst (IsEdge s charts e) (sym (get_or-set_other edges n e x no_edge d)) (held.held e (omega (arith, d)))
