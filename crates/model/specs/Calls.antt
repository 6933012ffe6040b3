-- The calls, closed: from the file's bytes, the call and everything lent to the answer and everything lent afterwards. Assumes nothing: these are
-- definitions.
use Rattle.std.proofs.Math.Option.{Option}
use Rattle.std.specs.Prelude.{List, ℕ, ℤ, pos, neg_ℤ}
use Rattle.records.specs.Refusal.{Refusal, refusal_number, Out, val, fault, unless_refused}
use Rattle.model.specs.Outcome.{Outcome, settled}
use Rattle.model.specs.Runs.{Run, Machine, start, turn, cycle, Answer, taken, idle, time, Call, Trace, unless_stopped, trace}
use Rattle.model.specs.ChartSet.{read_charts}
use Rattle.model.specs.Charts.{charts}
use Rattle.model.specs.ChartFile.{charts_refusal}
use Rattle.model.specs.AutomataTable.{read_automata}
use Rattle.model.specs.Automata.{automata}
use Rattle.model.specs.AutomataFile.{automata_refusal}

-- of a file: why it is refused, if it is, and the machine that it describes
pub record Format : Type 0 where
  pub refusal : List ℕ → Option Refusal
  pub machine : List ℕ → Machine

abbrev pub chart_sets : Format
chart_sets = record { refusal = charts_refusal; machine = λ s. charts (read_charts s) }

abbrev pub automata_tables : Format
automata_tables = record { refusal = automata_refusal; machine = λ s. automata (read_automata s) }

module _ (f : Format) (s : List ℕ) where
  -- whether the file is accepted
  abbrev pub check : Out (Unit {0})
  check = unless_refused (f.refusal s) (val tt)

  -- a lent run becomes a fresh one
  abbrev pub start_call : Run → Outcome (Unit {0}) Run
  start_call r = settled r (unless_refused (f.refusal s) (val (tt, start (f.machine s))))

  -- "a call takes one turn, or a cycle"; "a cycle's answer is only that it is done"
  abbrev pub turn_call : ℕ → Run → Outcome Answer Run
  turn_call given r = settled r (unless_refused (f.refusal s) (turn (f.machine s) given r))

  abbrev pub cycle_call : ℕ → Run → Outcome (Unit {0}) Run
  cycle_call given r = settled r (unless_refused (f.refusal s) (cycle (f.machine s) given r))

  -- every turn of a call
  abbrev pub call_trace : Call → Run → Trace
  call_trace c r = unless_stopped check (trace (f.machine s) c r)

-- ---- numbers of answers: a refusal is minus its number

abbrev pub numbered : {A : Type 0} → (A → ℕ) → Out A → ℤ
numbered code (val a) = pos (code a)
numbered code (fault w) = neg_ℤ (pos (refusal_number w))

-- a turn's answer: the transition or edge taken, 65,534 where the chart idled, 65,535 where time passed
abbrev pub answer_code : Answer → ℕ
answer_code (taken t) = t
answer_code idle = 65534
answer_code time = 65535
