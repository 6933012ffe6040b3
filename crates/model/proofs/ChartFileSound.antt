-- An accepted chart set is sound: what the run side of demand 3 asks of a set. Assumes nothing.
use mathlib.Core.Path.{◌≡◌}
use mathlib.Core.Option.{none}
use mathlib.Core.List.{List}
use Prim.Native.Nat.{ℕ, ◌<◌}
use lib.Dec.{leb, ltb, eqb→eq, leb→le, ltb→lt}
use lib.ListN.{length, get_or}
use Rattle.model.specs.Owned.{home}
use Rattle.model.specs.Runs.{no_variable, in_bounds}
use Rattle.model.specs.ChartSet.{ChartSet, read_charts}
use Rattle.model.specs.ChartFile.{between, charts_refusal}
use Rattle.model.specs.AutomataTable.{no_clock, clock_at}
use Rattle.model.specs.Translation.{state_count, twin}
use Rattle.prelude.proofs.Bools.{and_left}
use Rattle.prelude.proofs.Lists.{all_get_d, all-get_or-or}
use Rattle.model.proofs.CorrespondenceStep.{Sound}
use Rattle.model.proofs.ChartFile.{charts-few, states-few, transitions-few, variables-few, transition-same-chart, target-in, priority-low, priority-high, priorities-differ, initial-named, initial-home, variables-ordered}
use Rattle.model.proofs.TranslationCounts.{clocks-few}
use Rattle.model.proofs.TranslationNames.{twin-ticks}

module _ (s : List ℕ) (ok : charts_refusal s ≡ none) where
  abbrev cs : ChartSet
  cs = read_charts s

  ticks-above : (k : ℕ) → k < length (twin cs).clocks → 0 < (clock_at (twin cs) k).ticks
  ticks-above k h =
      leb→le 1 (clock_at (twin cs) k).ticks
      (and_left (leb 1 (clock_at (twin cs) k).ticks) (leb (clock_at (twin cs) k).ticks 36_000) (all_get_d (λ c. between 1 36_000 c.ticks) (twin cs).clocks no_clock k (twin-ticks s ok) h))

  pub sound : Sound cs
  sound = record {
    charts_fit = charts-few s ok;
    states_fit = states-few s ok;
    transitions_fit = transitions-few s ok;
    variables_fit = variables-few s ok;
    clocks_fit = clocks-few s ok;
    ticking = ticks-above;
    same_chart = transition-same-chart s ok;
    targets = target-in s ok;
    ranks = λ t h. (priority-low s ok t h, priority-high s ok t h);
    differ = priorities-differ s ok;
    initials = λ c h. (
      ltb→lt (get_or cs.initial c 0) (state_count cs) (all_get_d (λ z. ltb z (state_count cs)) cs.initial 0 c (initial-named s ok) h),
      eqb→eq (home cs.homes (get_or cs.initial c 0)) c (initial-home s ok c h),
    );
    starts = λ v. all-get_or-or (λ v. in_bounds v v.start) cs.variables no_variable v (variables-ordered s ok) tt;
  }
