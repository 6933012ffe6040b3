-- A loop that plays a cycle for each four bytes of its input prints the replay. Assumes nothing.
use mathlib.Core.Path.{◌≡◌, refl, sym, ap, ◌∙◌}
use mathlib.Core.Option.{none}
use mathlib.Core.Bool.{Bool, true, false, cond}
use mathlib.Core.List.{List, [], ◌∷◌}
use Prim.Native.Nat.{ℕ, zero, suc, ◌/◌, ◌≤◌, ◌<◌}
use native.Mathlib.Omega.{arith}
use borrow.Author.Tests.{ltb-true, ltb-false}
use lib.Dec.{ltb}
use lib.ListN.{length, drop, length-drop}
use Rattle.records.specs.Bytes.{four}
use Rattle.model.specs.Runs.{Run, Machine, start, whole_cycle, trace, ended}
use Rattle.model.specs.ChartSet.{ChartSet, read_charts}
use Rattle.model.specs.Charts.{charts}
use Rattle.model.specs.ChartFile.{charts_refusal}
use Rattle.model.specs.AutomataTable.{read_automata}
use Rattle.model.specs.Automata.{automata}
use Rattle.model.specs.AutomataFile.{automata_refusal}
use Rattle.model.specs.Replay.{next, cut_masks, masks, replayed, unless_ended, replay}
use Rattle.lines.specs.Text.{trace_text}
use Rattle.lines.proofs.Texts.{trace-text}
use Rattle.replays.specs.Loop.{nothing, looped, played, twin_replay}

module _ (m : Machine) where
  -- a replay of as many masks as whole ones fit, the first apart
  none_left : (input : List ℕ) (r : Run) → length input < 4 → played m (masks input) r ≡ nothing
  unfolding cut_masks played
  none_left input r h = ap (λ n. played m (cut_masks n input) r) (let z : length input / 4 ≡ 0 = omega arith in z)

  one_more : (input : List ℕ) (r : Run) → 4 ≤ length input →
      played m (masks input) r
      ≡ next (trace_text m (trace m (whole_cycle (four input 0)) r)) (ended r (trace m (whole_cycle (four input 0)) r)) (played m (masks (drop 4 input)))
  unfolding cut_masks played
  one_more input r h =
      ap (λ n. played m (cut_masks n input) r) (let z : length input / 4 ≡ suc (length (drop 4 input) / 4) = omega (arith, length-drop 4 input) in z)

  -- a turn of the loop, by the test of what is left
  module _ (k : ℕ) (input : List ℕ) (r : Run) (rest : 4 ≤ length input → (q : Run) → looped m k (drop 4 input) q ≡ played m (masks (drop 4 input)) q) where
    by-test : (b : Bool) → ltb (length input) 4 ≡ b →
        cond b nothing
        (next (trace_text m (trace m (whole_cycle (four input 0)) r)) (ended r (trace m (whole_cycle (four input 0)) r)) (looped m k (drop 4 input)))
        ≡ played m (masks input) r
    by-test true e = sym (none_left input r (ltb-true (length input) 4 e))
    by-test false e =
        let l : 4 ≤ length input = ltb-false (length input) 4 e in
        (λ i. next (trace_text m (trace m (whole_cycle (four input 0)) r)) (ended r (trace m (whole_cycle (four input 0)) r)) (λ q. rest l q i)) ∙ sym (one_more input r l)

    one_turn : looped m (suc k) input r ≡ played m (masks input) r
    unfolding looped
    one_turn = by-test (ltb (length input) 4) refl

  pub looped-masks : (k : ℕ) (input : List ℕ) (r : Run) → length input / 4 ≤ k → looped m k input r ≡ played m (masks input) r
  unfolding looped
  looped-masks zero input r h = sym (none_left input r (omega arith))
  looped-masks (suc k) input r h = one_turn k input r (λ l q. looped-masks k (drop 4 input) q (omega (arith, length-drop 4 input)))

-- of chart sets it is the model's
pub played-charts : (cs : ChartSet) (ms : List ℕ) (r : Run) → played (charts cs) ms r ≡ replayed cs ms r
unfolding played replayed
played-charts cs [] r = refl
played-charts cs (mask ∷ rest) r =
    let t = trace (charts cs) (whole_cycle mask) r in
    λ i. next (trace-text cs t i) (ended r t) (λ q. played-charts cs rest q i)

-- of a file that is not refused, from a fresh run
pub looped-replay : (s input : List ℕ) (k : ℕ) → charts_refusal s ≡ none → length input / 4 ≤ k → looped (charts (read_charts s)) k input (start (charts (read_charts s))) ≡ replay s input
looped-replay s input k e h =
    looped-masks (charts (read_charts s)) k input (start (charts (read_charts s))) h
    ∙ played-charts (read_charts s) (masks input) (start (charts (read_charts s)))
    ∙ sym (ap (λ w. unless_ended w (replayed (read_charts s) (masks input) (start (charts (read_charts s))))) e)

pub looped-twin : (s input : List ℕ) (k : ℕ) → automata_refusal s ≡ none → length input / 4 ≤ k →
    looped (automata (read_automata s)) k input (start (automata (read_automata s))) ≡ twin_replay s input
looped-twin s input k e h =
    looped-masks (automata (read_automata s)) k input (start (automata (read_automata s))) h
    ∙ sym (ap (λ w. unless_ended w (played (automata (read_automata s)) (masks input) (start (automata (read_automata s))))) e)
