-- Clock numbers: how many clocks stand before a transition's own. Assumes nothing.
use mathlib.Core.Path.{◌≡◌, ap, ◌∙◌}
use mathlib.Core.Logic.{◌⊎◌, inl, inr}
use mathlib.Core.List.{List, [], ◌∷◌, map}
use Prim.Native.Nat.{ℕ, ◌+◌, ◌<◌}
use native.Mathlib.Omega.{arith}
use native.Mathlib.Numerals.{add-one}
use lib.ListN.{length, get_or, take, length-append, get_or-append}
use lib.Seq.{take-suc}
use Rattle.prelude.specs.Lists.{gather, upto}
use Rattle.prelude.proofs.Counts.{get_or-upto}
use Rattle.model.specs.ChartSet.{ChartSet, Transition, no_transition, transition}
use Rattle.model.specs.AutomataTable.{Clock, clock}
use Rattle.model.specs.Translation.{transition_count, clocks_of, clock_of, literal_trigger_of}
use Rattle.chart_records.specs.declared.fields.Trigger.{Trigger}
use Rattle.chart_records.specs.declared.fields.Trigger.TheVariants.{Always, Event, After, Every}
use Rattle.chart_records.specs.Parts.{trigger_for}
use Rattle.prelude.proofs.Lists.{gather_append}
use Rattle.prelude.proofs.Filled.{length_from}
use Rattle.twin_records.specs.Tables.{HasClocks}
use Rattle.prelude.proofs.Gathered.{gather_none, gather-one}

-- a trigger without a time has no clock
pub untimed : {x : Trigger} → (x ≡ Always) ⊎ ((e : ℕ) × (x ≡ Event e)) → clocks_of (trigger_for x) ≡ []
untimed (inl p) = ap (λ y. clocks_of (trigger_for y)) p
untimed (inr (e, p)) = ap (λ y. clocks_of (trigger_for y)) p

-- one with a time has one, which its literal reads
pub timed : {x : Trigger} (k : ℕ) → ((ms : ℕ) × (x ≡ After ms)) ⊎ ((ms : ℕ) × (x ≡ Every ms)) → map (λ _. k) (clocks_of (trigger_for x)) ≡ k ∷ []
timed k (inl (ms, p)) = ap (λ y. map (λ _. k) (clocks_of (trigger_for y))) p
timed k (inr (ms, p)) = ap (λ y. map (λ _. k) (clocks_of (trigger_for y))) p

module _ (cs : ChartSet) where
  pub timed-read : {x : Trigger} (t : ℕ) → ((ms : ℕ) × (x ≡ After ms)) ⊎ ((ms : ℕ) × (x ≡ Every ms)) → literal_trigger_of cs t (trigger_for x) ≡ clock (clock_of cs t)
  timed-read t (inl (ms, p)) = ap (λ y. literal_trigger_of cs t (trigger_for y)) p
  timed-read t (inr (ms, p)) = ap (λ y. literal_trigger_of cs t (trigger_for y)) p

  abbrev clocks_in : Transition → List Clock
  clocks_in x = clocks_of x.trigger

  pub clock-none : clock_of cs 0 ≡ 0
  clock-none = ap length (gather_none clocks_in)

  pub clock-more : (t : ℕ) → t < transition_count cs → clock_of cs (t + 1) ≡ clock_of cs t + length (clocks_of (transition cs t).trigger)
  clock-more t h =
      ap (λ l. length (gather clocks_in l)) (ap (λ n. take n cs.transitions) (add-one t) ∙ take-suc cs.transitions t no_transition h)
      ∙ ap length (gather_append clocks_in (take t cs.transitions) (transition cs t ∷ []))
      ∙ length-append (gather clocks_in (take t cs.transitions)) (gather clocks_in (transition cs t ∷ []))
      ∙ ap (λ l. clock_of cs t + length l) (gather-one clocks_in (transition cs t))

  -- a place of the table
  pub clock-at : (clocks : List ℕ) → HasClocks cs clocks → (t : ℕ) → t < transition_count cs → get_or clocks t 0 ≡ clock_of cs t
  clock-at clocks e t h =
      ap (λ l. get_or l t 0) e
      ∙ get_or-append (map (clock_of cs) (upto (transition_count cs))) _ 0 t (omega (arith, length_from (clock_of cs) 0 (transition_count cs)))
      ∙ get_or-upto (clock_of cs) 0 (transition_count cs) t h
