-- What a cycle of automata played with its lines answers, in the model's words. Assumes nothing: these are definitions.
use Rattle.model.specs.Outcome.{Outcome}
use Rattle.model.specs.Runs.{Run}
use Rattle.answers.specs.Answers.{ending_of}
use Rattle.automata.specs.RunOf.{run_of}
use Rattle.replays.specs.declared.twins.ReplayedCycle.{ReplayedCycle}

-- how the cycle ended, and the lent run afterwards
abbrev pub replayed_cycle_of : ReplayedCycle → Outcome (Unit {0}) Run
replayed_cycle_of p = record { answer = ending_of p.answer; lent = run_of p.run }
