-- A cycle of an accepted set, turn by turn. Assumes nothing.
use mathlib.Core.Path.{◌≡◌, ap}
use mathlib.Core.Logic.{◌⊎◌, inl, inr}
use mathlib.Core.List.{List}
use Prim.Native.Nat.{ℕ, ◌+◌, ◌-◌, ◌≤◌, ◌<◌}
use native.Mathlib.Omega.{arith}
use Rattle.records.specs.Refusal.{Refusal, val, fault}
use Rattle.model.specs.Outcome.{settled}
use Rattle.model.specs.Runs as M
use Rattle.model.specs.ChartSet.{read_charts}
use Rattle.model.specs.Charts.{charts}
use Rattle.model.proofs.ChecksKept.{NotTime}
use Rattle.model.proofs.ChecksKeptBySteps.{steady-charts}
use Rattle.model.proofs.ChartFileSound.{sound}
use Rattle.chart_records.proofs.PlacesRead.{length-initial}
use Rattle.chart_records.specs.declared.Shape.{Shape}
use Rattle.answers.specs.declared.Answer.{Answer}
use Rattle.answers.specs.declared.Answer.TheVariants.{Taken, Idle, Time}
use Rattle.answers.specs.Answers.{answer_of}
use Rattle.machines.proofs.TurnsCycle as B
use Rattle.chart_runs.specs.declared.Run.{Run}
use Rattle.charts.specs.declared.turns.Turned.{Turned}
use Rattle.chart_records.specs.Accepted.{Accepted}
use Rattle.chart_runs.specs.RunOf.{run_of}
use Rattle.charts.specs.TurnOf.{turn_of}

-- an answer that is no fault, no refusal and not time's
pub record PartTurn (x : Answer) : Type 0 where
  pub answer : M.Answer
  pub is : answer_of x ≡ val answer
  pub not_time : NotTime answer

pub part-turn : (x : Answer) → ((t : ℕ) × (x ≡ Taken t)) ⊎ (x ≡ Idle) → PartTurn x
part-turn x (inl e) = record { answer = M.taken e.0; is = ap answer_of e.1; not_time = tt }
part-turn x (inr e) = record { answer = M.idle; is = ap answer_of e; not_time = tt }

-- a turn of the present run, by what it answered
module _ (s : List ℕ) (sh : Shape) (ok : Accepted s sh) (given : ℕ) (present : Run) (t : Turned) (is : turn_of t ≡ settled (run_of present) (M.turn (charts (read_charts s)) given (run_of present))) where
  pub goes_on : PartTurn t.answer → M.cycle (charts (read_charts s)) given (run_of present) ≡ M.cycle (charts (read_charts s)) 0 (run_of t.run)
  goes_on p = B.goes_on (charts (read_charts s)) (steady-charts (read_charts s) (sound s ok.unrefused)) given (run_of present) (turn_of t) is p.answer p.is p.not_time

  pub nearer : PartTurn t.answer → sh.charts + 2 - t.run.position < sh.charts + 2 - present.position
  nearer p =
      let m = B.moves-on (charts (read_charts s)) (steady-charts (read_charts s) (sound s ok.unrefused)) given (run_of present) (turn_of t) is p.answer p.is p.not_time in
      let l : present.position ≤ M.parts (charts (read_charts s)) = m.0 in
      let e : t.run.position ≡ present.position + 1 = m.1 in
      omega (arith, e, l, length-initial s sh ok.shape)

  pub ends : t.answer ≡ Time → M.cycle (charts (read_charts s)) given (run_of present) ≡ val (tt, run_of t.run)
  ends e = B.ends-at-time (charts (read_charts s)) (steady-charts (read_charts s) (sound s ok.unrefused)) given (run_of present) (turn_of t) is (ap answer_of e)

  pub fails : (w : Refusal) → answer_of t.answer ≡ fault w → M.cycle (charts (read_charts s)) given (run_of present) ≡ fault w
  fails = B.ends-in-fault (charts (read_charts s)) (steady-charts (read_charts s) (sound s ok.unrefused)) given (run_of present) (turn_of t) is
