-- The answers of a chart's turn, as the model's outcomes. Assumes nothing: these are definitions.
use Rattle.std.proofs.Math.Option.{Option, some, none}
use Rattle.std.specs.Prelude.{Bool, false, cond, List, ℕ, zero, suc, ◌+◌, ◌≤◌, ◌<◌, eqb, ℤ, set, Option as declared-option, None, Some}
use Rattle.records.specs.Refusal.{Out, val, ◌>>=◌}
use Rattle.model.specs.Runs.{World, Run, Answer, taken, idle, moved}
use Rattle.model.specs.ChartSet.{ChartSet}
use Rattle.model.specs.Charts.{chart_step}
use Rattle.machines.specs.Worlds.{Moment, coded, IsCode, run_in}

-- the first transition that holds, if one does, as one number: 65,535 stands for none
abbrev pub choice_by : ℕ → Out (Option ℕ)
choice_by code = coded code >>= λ t. val (cond (eqb t 65535) none (some t))

-- a transition chosen is one of so many
pub record ChoiceOf (n code : ℕ) : Type 0 where
  pub exact : IsCode code
  pub small : code ≤ 4_294_967_295 → code ≤ 65535
  pub known : code < 65535 → code < n

-- a place of a row that names none does not hold
abbrev pub slot_holds : (ℕ → Out Bool) → ℕ → Out Bool
slot_holds f t = cond (eqb t 65535) (val false) (f t)

-- the run in which a chart has entered a state
abbrev pub entered : Run → ℕ → ℕ → World → Run
entered r chart target w = record { at = set r.at chart target; timers = set r.timers chart 0; world = w }

-- ---- in place

-- what a turn chose
abbrev pub answer_by : declared-option ℕ → Answer
answer_by None = idle
answer_by (Some t) = taken t

-- turns, from the events after them as one number, the last one's answer, and the places after them
abbrev pub moved_by : ℕ → Answer → List ℕ → List ℕ → List ℤ → Moment → Out (Answer × Run)
moved_by code answer states ages vars m = coded code >>= λ events. val (answer, run_in states ages vars events m)

-- The turns of so many charts, from one on: what the last of them answers, or what was answered before, and the run after them.
unfoldable pub chart_turns : ChartSet → ℕ → ℕ → Answer × Run → Out (Answer × Run)
chart_turns cs chart zero x = val x
chart_turns cs chart (suc n) x = chart_step cs chart x.1 >>= λ y. chart_turns cs (chart + 1) n (y.0, moved y.1)
