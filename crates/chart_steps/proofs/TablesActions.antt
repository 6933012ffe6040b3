-- The actions of an owner, by their key. Assumes nothing.
use mathlib.Core.Path.{◌≡◌, refl, sym, ap, ◌∙◌}
use mathlib.Core.Logic.{inl, inr}
use mathlib.Core.Bool.{Bool, true, false, ◌&&◌}
use mathlib.Core.List.{List, map}
use Prim.Native.Nat.{ℕ, ◌+◌, ◌<◌}
use native.Mathlib.Omega.{arith}
use lib.Dec.{eqb}
use borrow.Author.Tests.{eq-eqb, eqb-true}
use Rattle.prelude.specs.Lists.{keep, upto, case_of}
use Rattle.prelude.specs.Owned.{of}
use Rattle.model.specs.ChartSet.{read_actions}
use Rattle.chart_records.specs.declared.Shape.{Shape}
use Rattle.chart_records.specs.Places.{place_at, action_at}
use Rattle.chart_records.proofs.PlacesRead.{of-actions}
use Rattle.chart_records.specs.Accepted.{Accepted}
use Rattle.machines.specs.Chains.{Chained}
use Rattle.chart_steps.specs.Tables.{waiting_keys, empty_key, action_keys, key_for, key_at, keyed, HasActions, KeyedOwner}
use Rattle.machines.proofs.ChainsEarliest.{keep-alike}
use Rattle.chart_steps.proofs.Accepted.{owner-placed}

-- keys tell places and owners apart
key-entry : (p o : ℕ) → p ≡ 1 → key_for p o ≡ o
unfolding case_of
key-entry p o e = rw e

key-exit : (p o : ℕ) → p ≡ 2 → key_for p o ≡ 128 + o
unfolding case_of
key-exit p o e = rw e

key-transition : (p o : ℕ) → p ≡ 3 → key_for p o ≡ 256 + o
unfolding case_of
key-transition p o e = rw e

key-waiting : (p o : ℕ) → p ≡ 4 → key_for p o ≡ waiting_keys + o
unfolding case_of
key-waiting p o e = rw e

pub key-small : (p o : ℕ) → KeyedOwner p o → key_for p o < empty_key
key-small p o (inl x) = omega (arith, key-entry p o x.0, x.1)
key-small p o (inr (inl x)) = omega (arith, key-exit p o x.0, x.1)
key-small p o (inr (inr (inl x))) = omega (arith, key-transition p o x.0, x.1)
key-small p o (inr (inr (inr x))) = omega (arith, key-waiting p o x.0, x.1)

same : (p o q w : ℕ) → KeyedOwner p o → KeyedOwner q w → key_for p o ≡ key_for q w → (p ≡ q) × (o ≡ w)
same p o q w (inl x) (inl y) e = (omega (arith, x.0, y.0), omega (arith, key-entry p o x.0, key-entry q w y.0, e))
same p o q w (inl x) (inr (inl y)) e = absurd (omega (arith, key-entry p o x.0, key-exit q w y.0, x.1, y.1))
same p o q w (inl x) (inr (inr (inl y))) e = absurd (omega (arith, key-entry p o x.0, key-transition q w y.0, x.1, y.1))
same p o q w (inl x) (inr (inr (inr y))) e = absurd (omega (arith, key-entry p o x.0, key-waiting q w y.0, x.1, y.1))
same p o q w (inr (inl x)) (inl y) e = absurd (omega (arith, key-exit p o x.0, key-entry q w y.0, x.1, y.1))
same p o q w (inr (inl x)) (inr (inl y)) e = (omega (arith, x.0, y.0), omega (arith, key-exit p o x.0, key-exit q w y.0, e))
same p o q w (inr (inl x)) (inr (inr (inl y))) e = absurd (omega (arith, key-exit p o x.0, key-transition q w y.0, x.1, y.1))
same p o q w (inr (inl x)) (inr (inr (inr y))) e = absurd (omega (arith, key-exit p o x.0, key-waiting q w y.0, x.1, y.1))
same p o q w (inr (inr (inl x))) (inl y) e = absurd (omega (arith, key-transition p o x.0, key-entry q w y.0, x.1, y.1))
same p o q w (inr (inr (inl x))) (inr (inl y)) e = absurd (omega (arith, key-transition p o x.0, key-exit q w y.0, x.1, y.1))
same p o q w (inr (inr (inl x))) (inr (inr (inl y))) e = (omega (arith, x.0, y.0), omega (arith, key-transition p o x.0, key-transition q w y.0, e))
same p o q w (inr (inr (inl x))) (inr (inr (inr y))) e = absurd (omega (arith, key-transition p o x.0, key-waiting q w y.0, x.1, y.1))
same p o q w (inr (inr (inr x))) (inl y) e = absurd (omega (arith, key-waiting p o x.0, key-entry q w y.0, x.1, y.1))
same p o q w (inr (inr (inr x))) (inr (inl y)) e = absurd (omega (arith, key-waiting p o x.0, key-exit q w y.0, x.1, y.1))
same p o q w (inr (inr (inr x))) (inr (inr (inl y))) e = absurd (omega (arith, key-waiting p o x.0, key-transition q w y.0, x.1, y.1))
same p o q w (inr (inr (inr x))) (inr (inr (inr y))) e = (omega (arith, x.0, y.0), omega (arith, key-waiting p o x.0, key-waiting q w y.0, e))

pub key-tells : (p o q w : ℕ) → KeyedOwner p o → KeyedOwner q w → (eqb p q && eqb o w) ≡ eqb (key_for p o) (key_for q w)
key-tells p o q w x y = go (eqb (key_for p o) (key_for q w)) refl (eqb p q) refl (eqb o w) refl
  where
    go : (k : Bool) → eqb (key_for p o) (key_for q w) ≡ k → (a : Bool) → eqb p q ≡ a → (b : Bool) → eqb o w ≡ b → (a && b) ≡ k
    go true e a d b f =
        let z : (p ≡ q) × (o ≡ w) = same p o q w x y (eqb-true (key_for p o) (key_for q w) e) in
        rw (sym d ∙ eq-eqb p q z.0, sym f ∙ eq-eqb o w z.1)
    go false e false d b f = refl
    go false e true d false f = refl
    go false e true d true f =
        let n : eqb (key_for p o) (key_for q w) ≡ true = eq-eqb (key_for p o) (key_for q w) (λ i. key_for (eqb-true p q d i) (eqb-true o w f i)) in
        sym n ∙ e

module _ (s : List ℕ) (sh : Shape) (ok : Accepted s sh) where
  pub key-within : (a : ℕ) → a < sh.actions → key_at s sh a < empty_key
  key-within a h = key-small (place_at s sh a) (action_at s sh a).0 (owner-placed s sh ok a h)

  -- an action has a key, so all actions are in chains
  pub chained : (first next : List ℕ) → HasActions s sh first next → Chained (key_at s sh) action_keys sh.actions first next
  chained first next is = record { first_of = is.first_of; next_of = λ a h _. is.next_of a h }

  -- the deeds of an owner are those of its key
  pub of-key : (place owner : ℕ) → KeyedOwner place owner →
      of owner (read_actions place s) ≡ map (λ a. (action_at s sh a).1) (keep (keyed s sh (key_for place owner)) (upto sh.actions))
  of-key place owner x =
      of-actions s sh ok.shape place owner
      ∙ ap (map (λ a. (action_at s sh a).1))
      (keep-alike (λ i. eqb (place_at s sh i) place && eqb (action_at s sh i).0 owner) (keyed s sh (key_for place owner)) 0 sh.actions
      (λ i a b. key-tells (place_at s sh i) (action_at s sh i).0 place owner (owner-placed s sh ok i (omega arith)) x))
