-- Check 12 by its clauses, of any machine. Assumes nothing.
use mathlib.Core.Path.{◌≡◌, refl, sym, ◌∙◌}
use mathlib.Core.Bool.{Bool, true, false, ◌&&◌}
use Prim.Native.Nat.{ℕ, zero, suc, ◌+◌, ◌≤◌, ◌<◌}
use native.Mathlib.Omega.{arith}
use borrow.Author.Tests.{eq-eqb, eqb-true, eqb-false}
use lib.Dec.{eqb}
use lib.ListN.{length}
use Rattle.prelude.specs.Lists.{all, from, upto}
use Rattle.prelude.proofs.Counts.{and-true}
use Rattle.model.specs.Runs.{Run, Machine, parts, all_places, places_possible, variables_possible, timers_possible, position_possible, count_possible, events_possible, unused_zero, possible, rest_zero, rest_zero_values}
use Rattle.machines.specs.Checks.{shared_possible}

-- a test of the numbers below n
all_from : (p : ℕ → Bool) (j n k : ℕ) → all p (from j n) ≡ true → j ≤ k → k < j + n → p k ≡ true
unfolding all from
all_from p j zero k t a b = absurd (omega arith)
all_from p j (suc n) k t a b = go (eqb j k) refl (λ l. all_from p (suc j) n k (and-true (p j) (all p (from (suc j) n)) t).1 l (omega arith))
  where
    go : (o : Bool) → eqb j k ≡ o → (suc j ≤ k → p k ≡ true) → p k ≡ true
    go true q ih = rw (sym (eqb-true j k q)) (and-true (p j) (all p (from (suc j) n)) t).0
    go false q ih = let d : j ≡ k → ⊥ = eqb-false j k q in ih (omega arith)

pub all-upto : (p : ℕ → Bool) (n k : ℕ) → all p (upto n) ≡ true → k < n → p k ≡ true
all-upto p n k t h = all_from p 0 n k t (omega arith) (omega arith)

-- what is shared, the timers in use, and the timers that are not
module _ (m : Machine) (r : Run) (at : length r.at ≡ 8) (timers : length r.timers ≡ m.timers_room) (vars : length r.world.vars ≡ 64) where
  room : all_places m r ≡ true
  room = λ i. eq-eqb (length r.at) 8 at i && eq-eqb (length r.timers) m.timers_room timers i && eq-eqb (length r.world.vars) 64 vars i

  pub possible-is : possible m r ≡ (shared_possible (parts m) m.homes m.variables r.at r.world && timers_possible m r && rest_zero m.timers_used r.timers)
  possible-is =
      (λ i. room i && places_possible (parts m) m.homes r.at && variables_possible m.variables r.world.vars && timers_possible m r && position_possible (parts m) r.world && count_possible r.world && events_possible r.world && unused_zero m r)
      ∙ ordered (places_possible (parts m) m.homes r.at) (variables_possible m.variables r.world.vars) (timers_possible m r) (position_possible (parts m) r.world) (count_possible r.world) (events_possible r.world) (rest_zero (parts m) r.at) (rest_zero m.timers_used r.timers) (rest_zero_values (length m.variables) r.world.vars)
    where
      last : (z t y : Bool) → (z && t && y) ≡ (z && y && t)
      last true true true = refl
      last true true false = refl
      last true false true = refl
      last true false false = refl
      last false t y = refl

      ordered : (p v t a c e z u y : Bool) → (true && p && v && t && a && c && e && (z && u && y)) ≡ (p && v && (a && c && e) && z && y && t && u)
      ordered false v t a c e z u y = refl
      ordered true false t a c e z u y = refl
      ordered true true t false c e z u y = by t
        where
          by : (t : Bool) → (t && false && c && e && (z && u && y)) ≡ false
          by true = refl
          by false = refl
      ordered true true t true false e z u y = by t
        where
          by : (t : Bool) → (t && true && false && e && (z && u && y)) ≡ false
          by true = refl
          by false = refl
      ordered true true t true true false z u y = by t
        where
          by : (t : Bool) → (t && true && true && false && (z && u && y)) ≡ false
          by true = refl
          by false = refl
      ordered true true true true true true z u y = last z u y ∙ by z y u
        where
          by : (z y u : Bool) → (z && y && u) ≡ (z && y && true && u)
          by true true u = refl
          by true false u = refl
          by false y u = refl
      ordered true true false true true true z u y = by z y
        where
          by : (z y : Bool) → false ≡ (z && y && false && u)
          by true true = refl
          by true false = refl
          by false y = refl
