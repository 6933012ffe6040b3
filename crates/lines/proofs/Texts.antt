-- The text of a line: the model's, and its length. Assumes nothing.
use mathlib.Core.Path.{◌≡◌, refl, ap, ◌∙◌}
use mathlib.Core.List.{List, [], ◌∷◌, ◌++◌, append-nil}
use Prim.Native.Nat.{ℕ, suc, ◌+◌, ◌*◌, ◌^◌, ◌≤◌, ◌<◌}
use native.Mathlib.Numerals.{add-one}
use native.Mathlib.Omega.{arith}
use lib.ListN.{length, get_or, take, length-append}
use lib.Seq.{take-suc}
use lib.IntN.{ℤ, pos}
use lib.Signed.{mag}
use Rattle.prelude.specs.Lists.{gather}
use Rattle.model.specs.ChartSet.{ChartSet}
use Rattle.model.specs.Runs.{Run, Answer, taken, idle, time, Trace, done, stopped, turned}
use Rattle.model.specs.Charts.{charts}
use Rattle.model.specs.Replay.{decimal, signed_decimal, chosen, space, feed, turn_lines, trace_lines}
use Rattle.prelude.proofs.Lists.{gather_append}
use Rattle.lines.specs.Text.{variables_text, line_text, turn_text, trace_text}
use Rattle.lines.proofs.Digits.{length-decimal, length-signed16}

-- ---- variables

pub variables-none : variables_text [] ≡ []
unfolding gather
variables-none = refl

pub variables-one : (z : ℤ) → variables_text (z ∷ []) ≡ space ∷ signed_decimal z
unfolding gather
variables-one z = append-nil (space ∷ signed_decimal z)

pub variables-more : (vs : List ℤ) (k : ℕ) → k < length vs → variables_text (take (k + 1) vs) ≡ variables_text (take k vs) ++ (space ∷ signed_decimal (get_or vs k (pos 0)))
variables-more vs k h =
    ap variables_text (ap (λ n. take n vs) (add-one k) ∙ take-suc vs k (pos 0) h)
    ∙ gather_append (λ v. space ∷ signed_decimal v) (take k vs) (get_or vs k (pos 0) ∷ [])
    ∙ ap (λ t. variables_text (take k vs) ++ t) (variables-one (get_or vs k (pos 0)))

-- ---- a line

-- of chart sets the text is the model's
turn-text : (cs : ChartSet) (r₀ : Run) (a : Answer) (r₁ : Run) → turn_text (charts cs) r₀ a r₁ ≡ turn_lines cs r₀ a r₁
turn-text cs r₀ (taken t) r₁ = refl
turn-text cs r₀ idle r₁ = refl
turn-text cs r₀ time r₁ = refl

pub trace-text : (cs : ChartSet) (t : Trace) → trace_text (charts cs) t ≡ trace_lines cs t
unfolding trace_text trace_lines
trace-text cs done = refl
trace-text cs (stopped w) = refl
trace-text cs (turned r₀ a r₁ t) = λ i. turn-text cs r₀ a r₁ i ++ trace-text cs t i

length-variables : (vs : List ℤ) → ((k : ℕ) → k < length vs → mag (get_or vs k (pos 0)) < 2 ^ 15) → length (variables_text vs) ≤ 7 * length vs
unfolding gather
length-variables [] low = omega arith
length-variables (v ∷ vs) low =
    let here : length (signed_decimal v) ≤ 6 = length-signed16 v (low 0 (omega arith)) in
    let rest : length (variables_text vs) ≤ 7 * length vs = length-variables vs (λ k h. low (suc k) (omega arith)) in
    omega (arith, length-append (space ∷ signed_decimal v) (variables_text vs))

-- a line of numbers in their types' ranges, and at most 64 variables, fits 482 bytes
module _ (cycle chart : ℕ) (a : Answer) (state : ℕ) (vs : List ℤ) where
  pub length-line :
      cycle < 2 ^ 32 → chart < 2 ^ 32 → length (chosen a) ≤ 5 → state < 2 ^ 16 → length vs ≤ 64 → ((k : ℕ) → k < length vs → mag (get_or vs k (pos 0)) < 2 ^ 15)
      → length (line_text cycle chart a state vs) ≤ 482
  length-line h₁ h₂ h₃ h₄ h₅ low =
      let l₁ : length (decimal cycle) ≤ 10 = length-decimal 9 cycle (omega arith) (omega arith) in
      let l₂ : length (decimal chart) ≤ 10 = length-decimal 9 chart (omega arith) (omega arith) in
      let l₄ : length (decimal state) ≤ 5 = length-decimal 4 state (omega arith) (omega arith) in
      let l₅ : length (variables_text vs) ≤ 7 * length vs = length-variables vs low in
      let t₁ = decimal cycle in
      let t₂ = t₁ ++ (space ∷ decimal chart) in
      let t₃ = t₂ ++ (space ∷ chosen a) in
      let t₄ = t₃ ++ (space ∷ decimal state) in
      let t₅ = t₄ ++ variables_text vs in
      omega (arith, length-append t₁ (space ∷ decimal chart), length-append t₂ (space ∷ chosen a), length-append t₃ (space ∷ decimal state), length-append t₄ (variables_text vs), length-append t₅ (feed ∷ []))
