-- The line of a part's turn by its answer. Assumes nothing: these are definitions.
use Rattle.std.specs.Prelude.{List, [], ℕ, ℤ}
use Rattle.records.specs.Refusal.{Out, val, fault}
use Rattle.model.specs.Runs.{Answer, taken, idle, time}
use Rattle.lines.specs.Text.{line_text}

-- time has no line, nor has a turn that is not taken
abbrev pub answer_text : (cycle part : ℕ) → Out Answer → (place : ℕ) → List ℤ → List ℕ
answer_text cycle part (val (taken t)) place variables = line_text cycle part (taken t) place variables
answer_text cycle part (val idle) place variables = line_text cycle part idle place variables
answer_text cycle part (val time) place variables = []
answer_text cycle part (fault w) place variables = []
