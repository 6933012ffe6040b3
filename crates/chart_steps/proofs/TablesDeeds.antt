-- The deeds of three keys, one key after the other: what is left of them as a loop goes along. Assumes nothing.
use mathlib.Core.Path.{◌≡◌, refl, sym, ap, ◌∙◌, subst}
use mathlib.Core.Bool.{Bool, true, false, cond}
use mathlib.Core.List.{List, [], ◌∷◌, map}
use Prim.Native.Nat.{ℕ, ◌+◌, ◌≤◌, ◌<◌}
use native.Mathlib.Omega.{arith}
use borrow.Author.Tests.{ne_eqb, eqb-true, eqb-false}
use lib.Dec.{eqb}
use lib.IntN.{ℤ}
use Rattle.prelude.specs.Lists.{keep, upto}
use Rattle.records.specs.Refusal.{Refusal, Out, val, fault, ◌>>=◌}
use Rattle.model.specs.Runs.{World, action, actions}
use Rattle.model.specs.ChartSet.{read_charts}
use Rattle.chart_records.specs.declared.Shape.{Shape}
use Rattle.chart_records.specs.Places.{action_at}
use Rattle.machines.specs.Worlds.{Moment, world_in}
use Rattle.chart_steps.specs.Tables.{keyed, deeds_of, deeds_of_three}

then-val : {A : Type 0} (o : Out A) → o ≡ (o >>= λ x. val x)
then-val (val x) = refl
then-val (fault w) = refl

module _ (s : List ℕ) (sh : Shape) (leaving crossing entering : ℕ) where
  -- the key at hand, once so many are done
  abbrev pub key_after : ℕ → ℕ
  key_after k = cond (eqb k 0) leaving (cond (eqb k 1) crossing entering)

  pub key-crossing : (k : ℕ) → k + 1 ≡ 1 → key_after (k + 1) ≡ crossing
  key-crossing k e = ap key_after e

  pub key-entering : (k : ℕ) → (k + 1 ≡ 1 → ⊥) → key_after (k + 1) ≡ entering
  key-entering k n = rw (ne_eqb (k + 1) 0 (λ e. absurd (omega arith)), ne_eqb (k + 1) 1 n)

  pub key-inside : (k n : ℕ) → leaving < n → crossing < n → entering < n → key_after k < n
  key-inside k n a b c = go (eqb k 0) (eqb k 1)
    where
      go : (x y : Bool) → cond x leaving (cond y crossing entering) < n
      go true y = a
      go false true = b
      go false false = c

  -- the deeds of the keys behind it
  abbrev pub behind : ℕ → World → Out World
  behind k w = cond (eqb k 0) (deeds_of s sh crossing w >>= λ w. deeds_of s sh entering w) (cond (eqb k 1) (deeds_of s sh entering w) (val w))

  abbrev deeds_in : List ℕ → World → Out World
  deeds_in rest w = actions (read_charts s).nodes (read_charts s).variables (map (λ a. (action_at s sh a).1) rest) w

  module _ (vars₀ : List ℤ) (events₀ : ℕ) where
    -- left to do: the deeds of the list, and those of the keys behind
    abbrev pub Left : ℕ → List ℕ → List ℤ → ℕ → Type 0
    Left k rest vars events = (m : Moment) → deeds_of_three s sh leaving crossing entering (world_in vars₀ events₀ m) ≡ (deeds_in rest (world_in vars events m) >>= behind k)

    pub left-start : (rest : List ℕ) → keep (keyed s sh leaving) (upto sh.actions) ≡ rest → Left 0 rest vars₀ events₀
    left-start rest e m = ap (λ l. deeds_in l (world_in vars₀ events₀ m) >>= behind 0) e

    module _ (k : ℕ) (rest : List ℕ) (vars : List ℤ) (events : ℕ) (left : Left k rest vars events) where
      -- a deed, and then the rest
      module _ (a : ℕ) (more : List ℕ) (one : rest ≡ a ∷ more) where
        first-deed : (m : Moment) → deeds_of_three s sh leaving crossing entering (world_in vars₀ events₀ m)
            ≡ ((action (read_charts s).nodes (read_charts s).variables (action_at s sh a).1 (world_in vars events m) >>= λ w. deeds_in more w) >>= behind k)
        unfolding actions
        first-deed m = left m ∙ ap (λ l. deeds_in l (world_in vars events m) >>= behind k) one

        pub left-fault : (w : Refusal) → ((m : Moment) → fault w ≡ action (read_charts s).nodes (read_charts s).variables (action_at s sh a).1 (world_in vars events m)) →
            (m : Moment) → fault w ≡ deeds_of_three s sh leaving crossing entering (world_in vars₀ events₀ m)
        left-fault w d m = ap (λ o. (o >>= λ w. deeds_in more w) >>= behind k) (d m) ∙ sym (first-deed m)

        pub left-more : (vars' : List ℤ) (events' : ℕ) →
            ((m : Moment) → val (world_in vars' events' m) ≡ action (read_charts s).nodes (read_charts s).variables (action_at s sh a).1 (world_in vars events m)) → Left k more vars' events'
        left-more vars' events' d m = first-deed m ∙ ap (λ o. (o >>= λ w. deeds_in more w) >>= behind k) (sym (d m))

      -- the last deed of a key is done
      module _ (none : rest ≡ []) where
        keys-left : (m : Moment) → deeds_of_three s sh leaving crossing entering (world_in vars₀ events₀ m) ≡ behind k (world_in vars events m)
        unfolding actions
        keys-left m = left m ∙ ap (λ l. deeds_in l (world_in vars events m) >>= behind k) none

        pub left-next : k ≤ 2 → (k ≡ 2 → ⊥) → (rest' : List ℕ) → keep (keyed s sh (key_after (k + 1))) (upto sh.actions) ≡ rest' → Left (k + 1) rest' vars events
        left-next h n rest' e m =
            keys-left m
            ∙ go (eqb k 0) refl
            ∙ ap (λ l. deeds_in l (world_in vars events m) >>= behind (k + 1)) e
          where
            w : World
            w = world_in vars events m

            go : (b : Bool) → eqb k 0 ≡ b → behind k w ≡ (deeds_of s sh (key_after (k + 1)) w >>= behind (k + 1))
            go true d = subst (λ j. behind j w ≡ (deeds_of s sh (key_after (j + 1)) w >>= behind (j + 1))) (sym (eqb-true k 0 d)) refl
            go false d =
                let one : k ≡ 1 = omega (arith, eqb-false k 0 d) in
                subst (λ j. behind j w ≡ (deeds_of s sh (key_after (j + 1)) w >>= behind (j + 1))) (sym one) (then-val (deeds_of s sh entering w))

        pub left-none : k ≡ 2 → (m : Moment) → val (world_in vars events m) ≡ deeds_of_three s sh leaving crossing entering (world_in vars₀ events₀ m)
        left-none e m = sym (keys-left m ∙ ap (λ j. behind j (world_in vars events m)) e)
