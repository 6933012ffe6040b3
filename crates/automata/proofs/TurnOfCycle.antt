-- A cycle of an accepted table, turn by turn. Assumes nothing.
use mathlib.Core.Path.{◌≡◌, ap}
use mathlib.Core.Logic.{◌⊎◌, inl, inr}
use mathlib.Core.List.{List}
use Prim.Native.Nat.{ℕ, ◌+◌, ◌-◌, ◌<◌}
use native.Mathlib.Omega.{arith}
use Rattle.records.specs.Refusal.{Refusal, val, fault}
use Rattle.model.specs.Outcome.{settled}
use Rattle.model.specs.Runs as M
use Rattle.model.specs.AutomataTable.{read_automata}
use Rattle.model.specs.Automata.{automata}
use Rattle.model.proofs.ChecksKept.{NotTime, Steady}
use Rattle.model.proofs.ChecksKeptBySteps.{steady-automata, sound-table}
use Rattle.answers.specs.declared.Answer.{Answer}
use Rattle.answers.specs.declared.Answer.TheVariants.{Taken, Idle, Time}
use Rattle.answers.specs.Answers.{answer_of}
use Rattle.automata_records.specs.declared.Shape.{Shape}
use Rattle.automata_records.specs.Accepted.{Accepted}
use Rattle.machines.proofs.TurnsCycle as B
use Rattle.automata.specs.declared.runs.Run.{Run}
use Rattle.automata.specs.declared.turns.Turned.{Turned}
use Rattle.automata.specs.RunOf.{run_of}
use Rattle.automata.specs.TurnOf.{turn_of}

-- an answer that is no fault, no refusal and not time's
pub record PartTurn (x : Answer) : Type 0 where
  pub answer : M.Answer
  pub is : answer_of x ≡ val answer
  pub not_time : NotTime answer

pub part-turn : (x : Answer) → ((e : ℕ) × (x ≡ Taken e)) ⊎ (x ≡ Idle) → PartTurn x
part-turn x (inl e) = record { answer = M.taken e.0; is = ap answer_of e.1; not_time = tt }
part-turn x (inr e) = record { answer = M.idle; is = ap answer_of e; not_time = tt }

-- a turn of the present run, by what it answered
module _ (s : List ℕ) (sh : Shape) (ok : Accepted s sh) (given : ℕ) (present : Run) (t : Turned) (is : turn_of t ≡ settled (run_of present) (M.turn (automata (read_automata s)) given (run_of present))) where
  abbrev m : M.Machine
  m = automata (read_automata s)

  steady : Steady m
  steady = steady-automata (read_automata s) (sound-table s ok.unrefused)

  pub goes_on : PartTurn t.answer → M.cycle (automata (read_automata s)) given (run_of present) ≡ M.cycle (automata (read_automata s)) 0 (run_of t.run)
  goes_on p = B.goes_on m steady given (run_of present) (turn_of t) is p.answer p.is p.not_time

  pub nearer : PartTurn t.answer → M.parts (automata (read_automata s)) + 2 - t.run.position < M.parts (automata (read_automata s)) + 2 - present.position
  nearer p = let f = B.moves-on m steady given (run_of present) (turn_of t) is p.answer p.is p.not_time in omega (arith, f.0, f.1)

  pub ends : t.answer ≡ Time → M.cycle (automata (read_automata s)) given (run_of present) ≡ val (tt, run_of t.run)
  ends e = B.ends-at-time m steady given (run_of present) (turn_of t) is (ap answer_of e)

  pub fails : (w : Refusal) → answer_of t.answer ≡ fault w → M.cycle (automata (read_automata s)) given (run_of present) ≡ fault w
  fails = B.ends-in-fault m steady given (run_of present) (turn_of t) is
