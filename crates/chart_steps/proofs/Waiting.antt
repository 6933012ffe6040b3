-- Waiting actions by their keys: when they are due, and what they do. Assumes nothing.
use mathlib.Core.Path.{◌≡◌, refl, sym, ap, ◌∙◌}
use mathlib.Core.Logic.{inr}
use mathlib.Core.Bool.{Bool, true, false, not, cond, ◌&&◌, ◌||◌}
use mathlib.Core.List.{List, [], ◌∷◌, map}
use Prim.Native.Nat.{ℕ, ◌+◌, ◌-◌, ◌≤◌, ◌<◌}
use native.Mathlib.Nat.{sub-zero}
use native.Mathlib.Omega.{arith}
use borrow.Author.Tests.{eq-eqb, ne_eqb, eqb-true, ltb-true}
use lib.Dec.{ltb, eqb}
use lib.ListN.{take}
use Rattle.prelude.specs.Lists.{keep, all, any, from, upto, case_of}
use Rattle.prelude.specs.Owned.{of}
use Rattle.prelude.proofs.Maps.{keep-map, map-map, keep-keep, all_map, all_keep}
use Rattle.prelude.proofs.Counts.{and-true}
use Rattle.prelude.proofs.Numbers.{all-at}
use Rattle.records.specs.Refusal.{Out, val, fault, ◌>>=◌}
use Rattle.model.specs.Limits.{most_states}
use Rattle.model.specs.Runs.{World, actions}
use Rattle.model.specs.ChartSet.{read_charts, waits}
use Rattle.model.specs.Charts.{ticks, every_holds, due}
use Rattle.chart_records.specs.declared.Shape.{Shape}
use Rattle.chart_records.specs.Places.{place_at, action_at, wait_at}
use Rattle.chart_records.specs.Accepted.{Accepted}
use Rattle.chart_records.proofs.PlacesRead.{waits-are, most-actions}
use Rattle.machines.specs.Chains.{earliest}
use Rattle.machines.proofs.Chains.{remaining-is}
use Rattle.machines.proofs.ChainsEarliest.{keep-alike, one_found}
use Rattle.chart_steps.specs.Tables.{waiting_keys, empty_key, key_at, keyed, deeds_of, deeds_of_three}
use Rattle.chart_steps.proofs.Accepted.{owner-placed, waiting-owner, waits-tick}
use Rattle.chart_steps.proofs.TablesActions.{key-tells, key-within, of-key}

keep-none : (xs : List ℕ) → keep (λ t. false) xs ≡ []
unfolding keep
keep-none [] = refl
keep-none (x ∷ xs) = keep-none xs

module _ (s : List ℕ) (sh : Shape) (ok : Accepted s sh) where
  -- the waiting times of a state
  of-waits : (st : ℕ) → of st (read_charts s).waiting_times ≡ map (λ a. (wait_at s sh a).1) (keep (λ i. eqb (place_at s sh i) 4 && eqb (action_at s sh i).0 st) (upto sh.actions))
  of-waits st =
      ap (of st) (waits-are s sh ok.shape)
      ∙ ap (map (λ x. x.1)) (keep-map (wait_at s sh) (λ x. eqb x.0 st) (keep (λ i. eqb (place_at s sh i) 4) (upto sh.actions)))
      ∙ map-map (wait_at s sh) (λ x. x.1) (keep (λ i. eqb (action_at s sh i).0 st) (keep (λ i. eqb (place_at s sh i) 4) (upto sh.actions)))
      ∙ ap (map (λ a. (wait_at s sh a).1)) (keep-keep (λ i. eqb (place_at s sh i) 4) (λ i. eqb (action_at s sh i).0 st) (upto sh.actions))

  pub by_key : (st : ℕ) → st < most_states → of st (read_charts s).waiting_times ≡ map (λ a. (wait_at s sh a).1) (keep (keyed s sh (waiting_keys + st)) (upto sh.actions))
  unfolding case_of
  by_key st h =
      of-waits st
      ∙ ap (map (λ a. (wait_at s sh a).1))
      (keep-alike (λ i. eqb (place_at s sh i) 4 && eqb (action_at s sh i).0 st) (keyed s sh (waiting_keys + st)) 0 sh.actions
      (λ i a b. key-tells (place_at s sh i) (action_at s sh i).0 4 st (owner-placed s sh ok i (omega arith)) (inr (inr (inr (refl, h))))))

  -- none of a state that the set does not have
  pub waits-outside : (st : ℕ) → sh.states ≤ st → waits (read_charts s) st ≡ []
  waits-outside st h =
      ap (take 1)
      (of-waits st
      ∙ ap (map (λ a. (wait_at s sh a).1))
      (keep-alike (λ i. eqb (place_at s sh i) 4 && eqb (action_at s sh i).0 st) (λ i. false) 0 sh.actions (λ i a b. no i (omega arith) (eqb (place_at s sh i) 4) refl)
      ∙ keep-none (upto sh.actions)))
    where
      no : (i : ℕ) → i < sh.actions → (b : Bool) → eqb (place_at s sh i) 4 ≡ b → (b && eqb (action_at s sh i).0 st) ≡ false
      no i l true e = ne_eqb (action_at s sh i).0 st (λ d. omega (arith, waiting-owner s sh ok i l (eqb-true (place_at s sh i) 4 e)))
      no i l false e = refl

  -- the first action of the key tells the time
  pub waits-first : (st a : ℕ) → st < most_states → a ≡ earliest (keyed s sh (waiting_keys + st)) 0 sh.actions → waits (read_charts s) st ≡ cond (eqb a 65535) [] ((wait_at s sh a).1 ∷ [])
  waits-first st a h e =
      ap (take 1)
      (by_key st h
      ∙ ap (map (λ a. (wait_at s sh a).1))
      (ap (λ n. keep (keyed s sh (waiting_keys + st)) (upto n)) (sym (sub-zero sh.actions))
      ∙ remaining-is (keyed s sh (waiting_keys + st)) sh.actions (omega (arith, most-actions s sh ok.shape)) 0 a (e ∙ ap (earliest (keyed s sh (waiting_keys + st)) 0) (sym (sub-zero sh.actions)))))
      ∙ go (eqb a 65535) (keep (keyed s sh (waiting_keys + st)) (from (a + 1) (sh.actions - (a + 1))))
    where
      go : (b : Bool) (rest : List ℕ) → take 1 (map (λ a. (wait_at s sh a).1) (cond b [] (a ∷ rest))) ≡ cond b [] ((wait_at s sh a).1 ∷ [])
      go true rest = refl
      go false rest = refl

  pub due-outside : (st age : ℕ) → sh.states ≤ st → due (read_charts s) st age ≡ false
  unfolding any
  due-outside st age h = ap (any (λ ms. every_holds (ticks ms) age)) (waits-outside st h)

  module _ (st a age : ℕ) (h : st < most_states) (e : a ≡ earliest (keyed s sh (waiting_keys + st)) 0 sh.actions) where
    pub due-none : a ≡ 65535 → due (read_charts s) st age ≡ false
    unfolding any
    due-none d = ap (any (λ ms. every_holds (ticks ms) age)) (waits-first st a h e ∙ ap (λ b. cond b [] ((wait_at s sh a).1 ∷ [])) (eq-eqb a 65535 d))

    pub due-first : (a ≡ 65535 → ⊥) → every_holds (ticks (wait_at s sh a).1) age ≡ due (read_charts s) st age
    unfolding any
    due-first d = or-none (every_holds (ticks (wait_at s sh a).1) age) ∙ sym (ap (any (λ ms. every_holds (ticks ms) age)) (waits-first st a h e ∙ ap (λ b. cond b [] ((wait_at s sh a).1 ∷ [])) (ne_eqb a 65535 d)))
      where
        or-none : (b : Bool) → b ≡ (b || false)
        or-none true = refl
        or-none false = refl

  -- the first of the key is an action, and a waiting one
  pub first-waits : (st a : ℕ) → st < most_states → a ≡ earliest (keyed s sh (waiting_keys + st)) 0 sh.actions → (a ≡ 65535 → ⊥) → (a < sh.actions) × (place_at s sh a ≡ 4)
  unfolding case_of
  first-waits st a h e n =
      let e' : a ≡ earliest (keyed s sh (waiting_keys + st)) 0 (sh.actions - 0) = e ∙ ap (earliest (keyed s sh (waiting_keys + st)) 0) (sym (sub-zero sh.actions)) in
      let f = one_found (keyed s sh (waiting_keys + st)) 0 sh.actions (omega (arith, most-actions s sh ok.shape)) (λ d. n (e' ∙ d)) in
      let l : a < sh.actions = omega (arith, e', f.before_end) in
      let k : keyed s sh (waiting_keys + st) a ≡ true = ap (keyed s sh (waiting_keys + st)) e' ∙ f.passes in
      (l, eqb-true (place_at s sh a) 4 (and-true (eqb (place_at s sh a) 4) (eqb (action_at s sh a).0 st) (key-tells (place_at s sh a) (action_at s sh a).0 4 st (owner-placed s sh ok a l) (inr (inr (inr (refl, h)))) ∙ k)).0)

  -- a waiting action has a tick at least
  pub wait-ticks : (a : ℕ) → a < sh.actions → place_at s sh a ≡ 4 → 0 < ticks (wait_at s sh a).1
  wait-ticks a h p = ltb-true 0 (ticks (wait_at s sh a).1) (ap (λ b. not b || lasts a) (sym (eq-eqb (place_at s sh a) 4 p)) ∙ all-at (λ i. not (eqb (place_at s sh i) 4) || lasts i) sh.actions a h those)
    where
      lasts : ℕ → Bool
      lasts i = ltb 0 (ticks (wait_at s sh i).1)

      those : all (λ i. not (eqb (place_at s sh i) 4) || lasts i) (upto sh.actions) ≡ true
      those =
          sym (all_keep (λ i. eqb (place_at s sh i) 4) lasts (upto sh.actions))
          ∙ sym (all_map (wait_at s sh) (λ x. ltb 0 (ticks x.1)) (keep (λ i. eqb (place_at s sh i) 4) (upto sh.actions)))
          ∙ ap (all (λ x. ltb 0 (ticks x.1))) (sym (waits-are s sh ok.shape))
          ∙ waits-tick s sh ok

  -- ---- what they do

  empty-key : (w : World) → deeds_of s sh empty_key w ≡ val w
  unfolding actions
  empty-key w =
      ap (λ l. actions (read_charts s).nodes (read_charts s).variables (map (λ a. (action_at s sh a).1) l) w)
      (keep-alike (keyed s sh empty_key) (λ i. false) 0 sh.actions (λ i a b. ne_eqb (key_at s sh i) empty_key (λ d. omega (arith, key-within s sh ok i (omega arith)))) ∙ keep-none (upto sh.actions))

  pub waited-by-keys : (st : ℕ) → st < most_states → (w : World) → actions (read_charts s).nodes (read_charts s).variables (of st (read_charts s).waiting_actions) w ≡ deeds_of_three s sh (waiting_keys + st) empty_key empty_key w
  unfolding case_of
  waited-by-keys st h w =
      ap (λ l. actions (read_charts s).nodes (read_charts s).variables l w) (of-key s sh ok 4 st (inr (inr (inr (refl, h)))))
      ∙ sym (then-nothing (deeds_of s sh (waiting_keys + st) w))
    where
      then-nothing : (o : Out World) → (o >>= λ w₁. (deeds_of s sh empty_key w₁ >>= λ w₂. deeds_of s sh empty_key w₂)) ≡ o
      then-nothing (fault f) = refl
      then-nothing (val w₁) = ap (λ o. o >>= λ w₂. deeds_of s sh empty_key w₂) (empty-key w₁) ∙ empty-key w₁
