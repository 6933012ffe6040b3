-- Waiting actions of a framed file, by their numbers. Assumes nothing.
use mathlib.Core.Path.{◌≡◌, refl, sym, ap, ◌∙◌}
use mathlib.Core.Bool.{Bool, true, false, not, ◌&&◌, ◌||◌}
use mathlib.Core.List.{List, map}
use Prim.Native.Nat.{ℕ, zero, suc, ◌<◌}
use native.Mathlib.Omega.{arith}
use borrow.Author.Tests.{lt-ltb, ltb-true, eq-eqb}
use lib.Dec.{ltb, eqb}
use lib.ListN.{take, replicate}
use Rattle.prelude.specs.Lists.{all, keep, upto}
use Rattle.prelude.specs.Owned.{of}
use Rattle.prelude.proofs.Counts.{and-true}
use Rattle.prelude.proofs.Maps.{all_map, all_keep}
use Rattle.prelude.proofs.Numbers.{all-at, all-by, all_both, both_true}
use Rattle.model.specs.Charts.{ticks}
use Rattle.model.specs.ChartSet.{read_charts}
use Rattle.model.specs.ChartFile.{all_named, ticking, all_ticking, wait_alike}
use Rattle.chart_records.specs.declared.Shape.{Shape}
use Rattle.chart_records.specs.Shape.{IsShape}
use Rattle.chart_records.specs.Places.{place_at, wait_at}
use Rattle.chart_records.proofs.PlacesRead.{length-homes, most-states, waits-are}
use Rattle.chart_checks.specs.Names.{action_named}
use Rattle.chart_checks.proofs.NamesFramed.{actions-known}
use Rattle.chart_files.specs.Waits.{fit_waits}
use Rattle.chart_files.proofs.WaitsAlike.{fit_is}

module _ (s : List ℕ) (sh : Shape) where
  abbrev pub waiting_at : ℕ → Bool
  waiting_at i = eqb (place_at s sh i) 4

module _ (s : List ℕ) (sh : Shape) (is : IsShape s sh) where
  -- a test of all of them
  pub all-waits : (p : ℕ × ℕ → Bool) → all p (read_charts s).waiting_times ≡ all (λ i. not (waiting_at s sh i) || p (wait_at s sh i)) (upto sh.actions)
  all-waits p =
      ap (all p) (waits-are s sh is)
      ∙ all_map (wait_at s sh) p (keep (waiting_at s sh) (upto sh.actions))
      ∙ all_keep (waiting_at s sh) (λ i. p (wait_at s sh i)) (upto sh.actions)

  module _ (named : all_named (read_charts s) ≡ true) where
    -- its state is one of so many
    owner-named : (i : ℕ) → i < sh.actions → (not (waiting_at s sh i) || ltb (wait_at s sh i).0 sh.states) ≡ true
    owner-named i h = at (place_at s sh i) (wait_at s sh i).0 _ (and-true _ _ (all-at (action_named s sh) sh.actions i h (actions-known s sh is named))).0
      where
        at : (p x : ℕ) (d : Bool) → (not (eqb p 1 || eqb p 2 || eqb p 4) || (ltb x sh.states && d)) ≡ true → (not (eqb p 4) || ltb x sh.states) ≡ true
        at p x d e = go (eqb p 4) (eqb p 1 || eqb p 2) e
          where
            go : (a b : Bool) → (not (b || a) || (ltb x sh.states && d)) ≡ true → (not a || ltb x sh.states) ≡ true
            go true true e = (and-true (ltb x sh.states) d e).0
            go true false e = (and-true (ltb x sh.states) d e).0
            go false b e = refl

    pub owner-below : (i : ℕ) → i < sh.actions → place_at s sh i ≡ 4 → (wait_at s sh i).0 < 128
    owner-below i h e =
        omega (arith, most-states s sh is, ltb-true (wait_at s sh i).0 sh.states (ap (λ b. not b || ltb (wait_at s sh i).0 sh.states) (sym (eq-eqb (place_at s sh i) 4 e)) ∙ owner-named i h))

    -- none that ticks has 0 milliseconds
    timed : (ms : ℕ) → ltb 0 (ticks ms) ≡ true → ltb 0 ms ≡ true
    timed zero e = e
    timed (suc ms) e = lt-ltb 0 (suc ms) (omega arith)

    module _ (ticks-known : all_ticking (read_charts s) ≡ true) where
      fine : all (λ x. ltb x.0 sh.states && ltb 0 x.1) (read_charts s).waiting_times ≡ true
      fine =
          all_both (λ x. ltb x.0 sh.states) (λ x. ltb 0 x.1) (read_charts s).waiting_times
          ∙ both_true
          (all-waits (λ x. ltb x.0 sh.states) ∙ all-by (λ i. not (waiting_at s sh i) || ltb (wait_at s sh i).0 sh.states) sh.actions owner-named)
          (all-waits (λ x. ltb 0 x.1) ∙ all-by (λ i. not (waiting_at s sh i) || ltb 0 (wait_at s sh i).1) sh.actions (λ i h. some (waiting_at s sh i) (wait_at s sh i).1 (all-at (λ i. not (waiting_at s sh i) || ltb 0 (ticks (wait_at s sh i).1)) sh.actions i h ticks-all)))
        where
          ticks-all : all (λ i. not (waiting_at s sh i) || ltb 0 (ticks (wait_at s sh i).1)) (upto sh.actions) ≡ true
          ticks-all = sym (all-waits (λ x. ltb 0 (ticks x.1))) ∙ (and-true (all (λ t. ticking t.trigger) (read_charts s).transitions) (all (λ x. ltb 0 (ticks x.1)) (read_charts s).waiting_times) ticks-known).1

          some : (b : Bool) (ms : ℕ) → (not b || ltb 0 (ticks ms)) ≡ true → (not b || ltb 0 ms) ≡ true
          some true ms e = timed ms e
          some false ms e = refl

      pub alike_is : wait_alike (read_charts s) ≡ fit_waits (replicate 128 0) (map (wait_at s sh) (keep (waiting_at s sh) (upto sh.actions)))
      alike_is =
          ap (λ n. all (λ t. all (λ ms. all (eqb ms) (take 1 (of t (read_charts s).waiting_times))) (of t (read_charts s).waiting_times)) (upto n)) (length-homes s sh is)
          ∙ fit_is sh.states (read_charts s).waiting_times (most-states s sh is) fine
          ∙ ap (fit_waits (replicate 128 0)) (waits-are s sh is)
