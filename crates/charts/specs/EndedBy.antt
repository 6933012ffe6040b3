-- The answers of a cycle in place, as the model's outcomes. Assumes nothing: these are definitions.
use Rattle.std.specs.Prelude.{ℕ, Result}
use Rattle.records.specs.RefusalOf.{out_of}
use Rattle.records.specs.Refusal.{Out, val, ◌>>=◌, ◌>>◌}
use Rattle.model.specs.Runs.{Run}
use Rattle.answers.specs.declared.Reason.{Reason}
use Rattle.answers.specs.Answers.{reason_of}
use Rattle.machines.specs.Worlds.{coded}

-- a cycle, from the events after the charts' turns as one number, and the run that it leaves
abbrev pub ended_by : ℕ → Run → Out Run
ended_by code r = coded code >>= λ events. val r

-- a cycle, from the run that it leaves
abbrev pub ran_to : Result (Unit {0}) Reason → Run → Out Run
ran_to o r = out_of reason_of o >> val r
