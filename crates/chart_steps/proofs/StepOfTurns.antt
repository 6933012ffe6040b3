-- The turns of charts, one after the other: as a loop takes them, one alone, and the turns of a cycle. Assumes nothing.
use mathlib.Core.Path.{◌≡◌, sym, ap, ◌∙◌}
use mathlib.Core.List.{List}
use Prim.Native.Nat.{ℕ, suc, ◌+◌, ◌-◌, ◌≤◌, ◌<◌}
use native.Mathlib.Omega.{arith}
use lib.IntN.{ℤ}
use Rattle.records.specs.Refusal.{Out, val, ◌>>=◌}
use Rattle.model.specs.Runs.{Run, Answer, moved}
use Rattle.model.specs.ChartSet.{ChartSet}
use Rattle.model.specs.Charts.{chart_step}
use Rattle.machines.specs.Worlds.{Moment, moment, onward, run_in}
use Rattle.chart_steps.specs.StepOf.{moved_by, chart_turns}
use Rattle.chart_steps.proofs.StepOf.{moved_value, moved-fault}

abbrev pub onwards : Answer × Run → Answer × Run
onwards y = (y.0, moved y.1)

-- ---- as a loop takes them

module _ (cs : ChartSet) where
  turns_more : (chart to : ℕ) (x : Answer × Run) → chart < to →
      chart_turns cs chart (to - chart) x ≡ (chart_step cs chart x.1 >>= λ y. chart_turns cs (chart + 1) (to - (chart + 1)) (onwards y))
  unfolding chart_turns
  turns_more chart to x h = ap (λ k. chart_turns cs chart k x) (let z : to - chart ≡ suc (to - (chart + 1)) = omega arith in z)

  turns-none : (chart to : ℕ) (x : Answer × Run) → to ≤ chart → chart_turns cs chart (to - chart) x ≡ val x
  unfolding chart_turns
  turns-none chart to x h = ap (λ k. chart_turns cs chart k x) (let z : to - chart ≡ 0 = omega arith in z)

  module _ (from to : ℕ) (answer₀ : Answer) (states₀ ages₀ : List ℕ) (vars₀ : List ℤ) (events₀ : ℕ) where
    abbrev whole : Moment → Out (Answer × Run)
    whole m = chart_turns cs from (to - from) (answer₀, run_in states₀ ages₀ vars₀ events₀ m)

    -- left to take: the turns from a chart on
    abbrev pub LeftTurns : ℕ → Answer → List ℕ → List ℕ → List ℤ → ℕ → Type 0
    LeftTurns chart answer states ages vars events = (m : Moment) → whole m ≡ chart_turns cs chart (to - chart) (answer, run_in states ages vars events (onward (chart - from) m))

    pub left-all : LeftTurns from answer₀ states₀ ages₀ vars₀ events₀
    left-all m = ap (λ n. chart_turns cs from (to - from) (answer₀, run_in states₀ ages₀ vars₀ events₀ (moment n m.cycles))) (let z : m.position ≡ m.position + (from - from) = omega arith in z)

    module _ (chart : ℕ) (answer : Answer) (states ages : List ℕ) (vars : List ℤ) (events : ℕ) (left : LeftTurns chart answer states ages vars events) where
      -- a turn that was taken in place
      module _ (code : ℕ) (answer' : Answer) (states' ages' : List ℕ) (vars' : List ℤ)
          (step : (m : Moment) → moved_by code answer' states' ages' vars' m ≡ chart_step cs chart (run_in states ages vars events m)) (h : chart < to) where
        one_turn : (m : Moment) → whole m
            ≡ (moved_by code answer' states' ages' vars' (onward (chart - from) m) >>= λ y. chart_turns cs (chart + 1) (to - (chart + 1)) (onwards y))
        one_turn m =
            left m
            ∙ turns_more chart to (answer, run_in states ages vars events (onward (chart - from) m)) h
            ∙ ap (λ o. o >>= λ y. chart_turns cs (chart + 1) (to - (chart + 1)) (onwards y)) (sym (step (onward (chart - from) m)))

        pub left-more : from ≤ chart → code ≤ 4_294_967_295 → LeftTurns (chart + 1) answer' states' ages' vars' code
        left-more l v m =
            one_turn m
            ∙ ap (λ o. o >>= λ y. chart_turns cs (chart + 1) (to - (chart + 1)) (onwards y)) (moved_value code answer' states' ages' vars' (onward (chart - from) m) v)
            ∙ ap (λ n. chart_turns cs (chart + 1) (to - (chart + 1)) (answer', run_in states' ages' vars' code (moment n m.cycles))) (let z : m.position + (chart - from) + 1 ≡ m.position + (chart + 1 - from) = omega arith in z)

        pub left-fault : 4_294_967_295 < code → (m n : Moment) → moved_by code answer' states' ages' vars' n ≡ whole m
        left-fault v m n =
            moved-fault code answer' states' ages' vars' n v
            ∙ sym
            (one_turn m
            ∙ ap (λ o. o >>= λ y. chart_turns cs (chart + 1) (to - (chart + 1)) (onwards y)) (moved-fault code answer' states' ages' vars' (onward (chart - from) m) v))

      pub left-none : chart ≡ to → events ≤ 4_294_967_295 → (m : Moment) → moved_by events answer states ages vars (onward (to - from) m) ≡ whole m
      left-none e v m =
          moved_value events answer states ages vars (onward (to - from) m) v
          ∙ ap (λ n. val (answer, run_in states ages vars events (onward (n - from) m))) (sym e)
          ∙ sym (left m ∙ turns-none chart to (answer, run_in states ages vars events (onward (chart - from) m)) (omega arith))

-- ---- one alone

module _ (cs : ChartSet) (chart : ℕ) (answer₀ : Answer) (r : Run) (code : ℕ) (answer : Answer) (states ages : List ℕ) (vars : List ℤ) (m : Moment)
    (turned : moved_by code answer states ages vars (onward (chart + 1 - chart) m) ≡ chart_turns cs chart (chart + 1 - chart) (answer₀, r)) where
  one-step : moved_by code answer states ages vars (onward (chart + 1 - chart) m) ≡ (chart_step cs chart r >>= λ y. val (onwards y))
  unfolding chart_turns
  one-step = turned ∙ ap (λ k. chart_turns cs chart k (answer₀, r)) (let z : chart + 1 - chart ≡ 1 = omega arith in z)

  pub alone-turn : moved_by code answer states ages vars (onward 1 m) ≡ (chart_step cs chart r >>= λ y. val (onwards y))
  alone-turn = ap (λ k. moved_by code answer states ages vars (onward k m)) (let z : 1 ≡ chart + 1 - chart = omega arith in z) ∙ one-step
