-- What deeds keep, and resets of timers. Assumes nothing.
use mathlib.Core.Path.{◌≡◌, refl, ap, ◌∙◌}
use mathlib.Core.Bool.{Bool, true, false, not}
use mathlib.Core.List.{List, [], ◌∷◌}
use Prim.Native.Nat.{ℕ, ◌≤◌}
use native.Mathlib.Omega.{arith}
use borrow.Author.Tests.{ltb-true, ltb-false, eqb-true, eqb-false}
use lib.Dec.{ltb, eqb}
use lib.IntN.{ℤ}
use lib.ListN.{length, get_or, set, length-set, get_or-eq_default}
use lib.Seq.{get_or-set_same, get_or-set_other}
use Rattle.records.specs.Refusal.{out_of_bounds, Out, val, fault, ◌>>=◌, ◌>>◌, fault_if, choose}
use Rattle.expressions.specs.Nodes.{Node, node_of}
use Rattle.expressions.specs.Values.{number}
use Rattle.model.specs.Runs.{Variable, World, set_var, Deed, assign, raise, Action, deed, action, actions, guard_holds, in_bounds, no_variable}
use Rattle.machines.specs.Turns.{KeptWorld}

pub then-kept : (w : World) (o : Out World) (next : World → Out World) → KeptWorld w o → ((v : World) → KeptWorld v (next v)) → KeptWorld w (o >>= next)
then-kept w (fault f) next k h = tt
then-kept w (val v) next k h = go (next v) (h v)
  where
    go : (o : Out World) → KeptWorld v o → KeptWorld w o
    go (val u) e = (e.0 ∙ k.0, e.1 ∙ k.1)
    go (fault f) e = tt

module _ (nodes : List Node) (variables : List Variable) where
  deed-kept : (d : Deed) (w : World) → KeptWorld w (deed nodes variables d w)
  deed-kept (raise e) w = (refl, refl)
  deed-kept (assign v n) w = go (number (node_of nodes) w.vars n)
    where
      go : (o : Out ℤ) → KeptWorld w (o >>= λ z. fault_if (not (in_bounds (get_or variables v no_variable) z)) out_of_bounds >> val (set_var v z w))
      go (fault f) = tt
      go (val z) = by (not (in_bounds (get_or variables v no_variable) z))
        where
          by : (b : Bool) → KeptWorld w (fault_if b out_of_bounds >> val (set_var v z w))
          by true = tt
          by false = (refl, refl)

  action-kept : (a : Action) (w : World) → KeptWorld w (action nodes variables a w)
  action-kept a w = go (guard_holds nodes w.vars a.guard)
    where
      go : (o : Out Bool) → KeptWorld w (choose o (deed nodes variables a.deed w) (val w))
      go (val true) = deed-kept a.deed w
      go (val false) = (refl, refl)
      go (fault f) = tt

  pub actions-kept : (rest : List Action) (w : World) → KeptWorld w (actions nodes variables rest w)
  unfolding actions
  actions-kept [] w = (refl, refl)
  actions-kept (a ∷ rest) w = then-kept w (action nodes variables a w) (actions nodes variables rest) (action-kept a w) (actions-kept rest)

-- a timer that is set to 0 has not grown, and no other has
pub set-zero : (l : List ℕ) (c k : ℕ) → get_or (set l c 0) k 0 ≤ get_or l k 0
set-zero l c k = go (eqb k c) refl
  where
    same : (b : Bool) → ltb c (length l) ≡ b → get_or (set l c 0) c 0 ≡ 0
    same true e = get_or-set_same l c 0 0 (ltb-true c (length l) e)
    same false e = get_or-eq_default (set l c 0) 0 {n = c} (omega (arith, ltb-false c (length l) e, length-set l c 0))

    go : (b : Bool) → eqb k c ≡ b → get_or (set l c 0) k 0 ≤ get_or l k 0
    go true e = let z : get_or (set l c 0) k 0 ≡ 0 = ap (λ j. get_or (set l c 0) j 0) (eqb-true k c e) ∙ same (ltb c (length l)) refl in omega arith
    go false e = let z : get_or (set l c 0) k 0 ≡ get_or l k 0 = get_or-set_other l c k 0 0 (eqb-false k c e) in omega arith
