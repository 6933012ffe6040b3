-- What turns and cycles answer, as outcomes of the model's calls. Assumes nothing: these are definitions.
use Rattle.std.specs.Prelude.{List, ◌≡◌, ℕ, ◌≤◌, ◌<◌, length, Result, Ok, Err}
use Rattle.records.specs.Refusal.{Out, val, ◌>>=◌}
use Rattle.records.specs.RefusalOf.{out_of}
use Rattle.model.specs.Outcome.{Outcome}
use Rattle.model.specs.Runs as M
use Rattle.answers.specs.Answers.{reason_of, answer_of, ending_of}
use Rattle.machines.specs.Turns as R
use Rattle.answers.specs.declared.Answer.{Answer}
use Rattle.answers.specs.declared.Reason.{Reason}
use Rattle.answers.specs.declared.Stop.{Stop}
use Rattle.automata_records.specs.declared.Shape.{Shape}
use Rattle.timings.specs.Growth.{most_top}
use Rattle.automata.specs.declared.turns.Turned.{Turned}
use Rattle.automata.specs.declared.cycles.Called.{Called}
use Rattle.automata.specs.RunOf.{ClocksPossible, run_of}

-- a turn's answer, and a cycle's, with the lent run afterwards
abbrev pub turn_of : Turned → Outcome M.Answer M.Run
turn_of t = record { answer = answer_of t.answer; lent = run_of t.run }

abbrev pub called_of : Called → Outcome (Unit {0}) M.Run
called_of t = record { answer = ending_of t.answer; lent = run_of t.run }

-- the same by the run in the places after it; of a fault nothing is told of them
abbrev pub taken_of : Answer → M.Run → Out (M.Answer × M.Run)
taken_of a r = answer_of a >>= λ x. val (x, r)

abbrev pub ended_of : Result (Unit {0}) Stop → M.Run → Out (Unit {0} × M.Run)
ended_of e r = ending_of e >>= λ x. val (x, r)

-- of so many clocks none is over the highest top
abbrev pub clock_possible_at : Shape → ℕ → ℕ → ℕ → Type 0
clock_possible_at sh cycles k x = k < sh.clocks → x ≤ most_top

-- A run in the midst of a cycle: its position is one of the automata's or time's, and time can pass.
abbrev pub Ready : Shape → M.Run → Type 0
Ready sh r = R.Ready sh.automata (clock_possible_at sh) r

-- ---- turns in place, by the run in the places after them

-- the automata's turns, after which time passes
abbrev pub progress_of : M.Machine → Result (Unit {0}) Reason → M.Run → Out M.Run
progress_of m p r = out_of reason_of p >>= λ _. val (M.time_passed m r)

-- of a cycle's clocks before time passes: as many as before, and there is room to grow
abbrev pub ClocksLeft : ℕ → List ℕ → Result (Unit {0}) Reason → List ℕ → Type 0
ClocksLeft count clocks₀ (Ok _) clocks = (length clocks ≡ length clocks₀) × ClocksPossible count clocks
ClocksLeft count clocks₀ (Err w) clocks = Unit

-- a whole cycle
abbrev pub cycled_of : Result (Unit {0}) Reason → M.Run → Out M.Run
cycled_of p r = out_of reason_of p >>= λ _. val r
