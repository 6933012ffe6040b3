-- What actions and updates keep, and that a chart's three groups of actions, and its waiting ones, are the list of updates of its twin's edge. Assumes nothing.
use mathlib.Core.Path.{◌≡◌, refl, sym, ap, ◌∙◌, subst}
use mathlib.Core.Bool.{Bool, true, false, not, cond}
use mathlib.Core.List.{List, [], ◌∷◌, ◌++◌}
use Prim.Native.Nat.{ℕ}
use native.Mathlib.Omega.{arith}
use lib.Dec.{T, ltb, eqb, eqb→eq, ltb→lt, nltb→le}
use lib.IntN.{ℤ, pos}
use lib.ListN.{length, get_or, set, length-set}
use lib.Seq.{set_out, get_or-set_same, get_or-set_other}
use Rattle.records.specs.Refusal.{out_of_bounds, Out, val, fault, ◌>>=◌, ◌>>◌, fault_if, choose}
use Rattle.expressions.specs.Nodes.{Node, node_of}
use Rattle.expressions.specs.Values.{number}
use Rattle.prelude.specs.Owned.{of}
use Rattle.model.specs.Runs.{Variable, no_variable, in_bounds, World, set_var, set_events, raised, guard_holds, Deed, assign, raise, Action, deed, action, actions}
use Rattle.model.specs.ChartSet.{ChartSet, transition}
use Rattle.model.specs.Charts.{acted, due, waited}
use Rattle.model.specs.Translation.{from_transition, updates_of}
use Rattle.model.proofs.TranslationOrigins.{idle_for}
use Rattle.prelude.proofs.Bools.{of-true, not-not, not-false, eqb-ne}

-- The variables of a possible run: 64 places, each within its bounds. A place past the variables in use has the bounds 0 and 0.
pub record Valued (variables : List Variable) (vars : List ℤ) : Type 0 where
  pub room : length vars ≡ 64
  pub bounded : (v : ℕ) → T (in_bounds (get_or variables v no_variable) (get_or vars v (pos 0)))

set-valued : (variables : List Variable) (vars : List ℤ) (v : ℕ) (z : ℤ) → Valued variables vars → T (in_bounds (get_or variables v no_variable) z) → Valued variables (set vars v z)
set-valued variables vars v z h t = record { room = length-set vars v z ∙ h.room; bounded = λ u. go u (eqb u v) refl (ltb v (length vars)) refl }
  where
    go : (u : ℕ) (p : Bool) → eqb u v ≡ p → (o : Bool) → ltb v (length vars) ≡ o → T (in_bounds (get_or variables u no_variable) (get_or (set vars v z) u (pos 0)))
    go u false p o q = rw (get_or-set_other vars v u z (pos 0) (eqb-ne p)) (h.bounded u)
    go u true p true q =
        let e : u ≡ v = eqb→eq u v (of-true p) in
        rw (e, get_or-set_same vars v z (pos 0) (ltb→lt v (length vars) (of-true q))) t
    go u true p false q = rw (set_out vars v z (nltb→le v (length vars) (not-false q))) (h.bounded u)

-- what deeds leave as it was, and what it keeps true
abbrev pub Kept : List Variable → World → World → Type 0
Kept variables w w₁ = (w₁.cycles ≡ w.cycles) × (w₁.position ≡ w.position) × (Valued variables w.vars → Valued variables w₁.vars)

module _ (nodes : List Node) (variables : List Variable) where
  deed-kept : (d : Deed) (w w₁ : World) → deed nodes variables d w ≡ val w₁ → Kept variables w w₁
  deed-kept (raise x) w w₁ e = let q : set_events (raised x w.events) w ≡ w₁ = cc in (ap (λ z. z.cycles) (sym q), ap (λ z. z.position) (sym q), λ h. subst (λ z. Valued variables z.vars) q h)
  deed-kept (assign v n) w w₁ e = assigned (number (node_of nodes) w.vars n) e
    where
      within-bounds : (z : ℤ) (b : Bool) → not (in_bounds (get_or variables v no_variable) z) ≡ b → (fault_if b out_of_bounds >> val (set_var v z w)) ≡ val w₁ → Kept variables w w₁
      within-bounds z true i e = let o : ◌≡◌ {A = ℕ} 0 1 = cc in absurd (omega arith)
      within-bounds z false i e =
          let q : set_var v z w ≡ w₁ = cc in (
            ap (λ x. x.cycles) (sym q),
            ap (λ x. x.position) (sym q),
            λ h. subst (λ x. Valued variables x.vars) q (set-valued variables w.vars v z h (not-not (in_bounds (get_or variables v no_variable) z) (not-false i))),
          )

      assigned : (o : Out ℤ) → (o >>= λ z. fault_if (not (in_bounds (get_or variables v no_variable) z)) out_of_bounds >> val (set_var v z w)) ≡ val w₁ → Kept variables w w₁
      assigned (fault u) e = let o : ◌≡◌ {A = ℕ} 0 1 = cc in absurd (omega arith)
      assigned (val z) e = within-bounds z (not (in_bounds (get_or variables v no_variable) z)) refl e

  nothing-kept : (w w₁ : World) → w ≡ w₁ → Kept variables w w₁
  nothing-kept w w₁ q = (ap (λ z. z.cycles) (sym q), ap (λ z. z.position) (sym q), λ h. subst (λ z. Valued variables z.vars) q h)

  -- done or skipped
  action-kept : (a : Action) (w w₁ : World) → action nodes variables a w ≡ val w₁ → Kept variables w w₁
  action-kept a w w₁ e = guarded (guard_holds nodes w.vars a.guard) e
    where
      guarded : (o : Out Bool) → choose o (deed nodes variables a.deed w) (val w) ≡ val w₁ → Kept variables w w₁
      guarded (fault u) e = let o : ◌≡◌ {A = ℕ} 0 1 = cc in absurd (omega arith)
      guarded (val true) e = deed-kept a.deed w w₁ e
      guarded (val false) e = nothing-kept w w₁ cc

  pub actions-kept : (rest : List Action) (w w₁ : World) → actions nodes variables rest w ≡ val w₁ → Kept variables w w₁
  unfolding actions
  actions-kept [] w w₁ e = nothing-kept w w₁ cc
  actions-kept (a ∷ rest) w w₁ e = go (action nodes variables a w) refl (λ w'. actions-kept rest w' w₁) e
    where
      go : (o : Out World) → action nodes variables a w ≡ o → ((w' : World) → actions nodes variables rest w' ≡ val w₁ → Kept variables w' w₁) → (o >>= λ w'. actions nodes variables rest w') ≡ val w₁ → Kept variables w w₁
      go (fault u) q ih e = let o : ◌≡◌ {A = ℕ} 0 1 = cc in absurd (omega arith)
      go (val w') q ih e =
          let k : Kept variables w w' = action-kept a w w' q in
          let l : Kept variables w' w₁ = ih w' e in
          (l.0 ∙ k.0, l.1 ∙ k.1, λ h. l.2 (k.2 h))

  -- actions one list after the other
  pub actions-append : (xs ys : List Action) (w : World) → actions nodes variables (xs ++ ys) w ≡ (actions nodes variables xs w >>= λ w₁. actions nodes variables ys w₁)
  unfolding actions
  actions-append [] ys w = refl
  actions-append (x ∷ xs) ys w = go (action nodes variables x w) (λ w₁. actions-append xs ys w₁)
    where
      go : (o : Out World) → ((w₁ : World) → actions nodes variables (xs ++ ys) w₁ ≡ (actions nodes variables xs w₁ >>= λ w₂. actions nodes variables ys w₂)) →
          (o >>= λ w₁. actions nodes variables (xs ++ ys) w₁) ≡ ((o >>= λ w₁. actions nodes variables xs w₁) >>= λ w₂. actions nodes variables ys w₂)
      go (fault v) ih = refl
      go (val w₁) ih = ih w₁

-- what a chart does in three steps is what the twin's edge does in one list
pub acted-updates : (cs : ChartSet) (t : ℕ) (w : World) → acted cs t w ≡ actions cs.nodes cs.variables (updates_of cs (from_transition t)) w
acted-updates cs t w =
    sym (actions-append cs.nodes cs.variables (a ++ b) c w
    ∙ ap (λ o. o >>= λ z. actions cs.nodes cs.variables c z) (actions-append cs.nodes cs.variables a b w)
    ∙ go (actions cs.nodes cs.variables a w))
  where
    a : List Action
    a = of (transition cs t).source cs.exits

    b : List Action
    b = of t cs.transition_actions

    c : List Action
    c = of (transition cs t).target cs.entries

    go : (o : Out World) →
        ((o >>= λ y. actions cs.nodes cs.variables b y) >>= λ z. actions cs.nodes cs.variables c z)
        ≡ (o >>= λ y. (actions cs.nodes cs.variables b y >>= λ z. actions cs.nodes cs.variables c z))
    go (fault v) = refl
    go (val y) = refl

-- and what it does while it idles is what its idle edge does
pub waited-updates : (cs : ChartSet) (s age : ℕ) (w : World) → waited cs s age w ≡ actions cs.nodes cs.variables (updates_of cs (idle_for (due cs s age) s)) w
unfolding actions
waited-updates cs s age w = go (due cs s age)
  where
    go : (d : Bool) → cond d (actions cs.nodes cs.variables (of s cs.waiting_actions) w) (val w) ≡ actions cs.nodes cs.variables (updates_of cs (idle_for d s)) w
    go true = refl
    go false = refl
