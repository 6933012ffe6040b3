use mathlib.Core.Path.{sym, ap, ◌∙◌}
use Rattle.records.specs.RefusalOf.{refusal_of}
use Rattle.model.specs.Outcome.{settled}
use Rattle.answers.specs.Answers.{reason_of, answer_of}
use Rattle.automata.specs.RunOf.{run_of}
use Rattle.automata.proofs.TurnOfCycle.{part-turn, goes_on, nearer, ends, fails}
use Rattle.automata.proofs.cycles.turns_of_cycle.Goals as goal

pub loop-present-smaller : goal.loop-present-smaller
loop-present-smaller c =
    nearer c.args.s.now c.args.shape c.requires.accepted c.loop-present.given c.loop-present.present c.turn-turned.result c.turn-turned.ensures (part-turn c.turn-turned.result.answer c.in-Taken.is)

pub loop-present-preserved : goal.loop-present-preserved
loop-present-preserved c =
    c.loop-present.invariant
    ∙ goes_on c.args.s.now c.args.shape c.requires.accepted c.loop-present.given c.loop-present.present c.turn-turned.result c.turn-turned.ensures (part-turn c.turn-turned.result.answer c.in-Taken.is)

pub returns-in-Time : goal.returns-in-Time
returns-in-Time c =
    sym (ap (settled (run_of c.args.run)) (c.loop-present.invariant ∙ ends c.args.s.now c.args.shape c.requires.accepted c.loop-present.given c.loop-present.present c.turn-turned.result c.turn-turned.ensures c.in-Time.is))

pub returns-in-Fault : goal.returns-in-Fault
returns-in-Fault c =
    sym (ap (settled (run_of c.args.run)) (c.loop-present.invariant ∙ fails c.args.s.now c.args.shape c.requires.accepted c.loop-present.given c.loop-present.present c.turn-turned.result c.turn-turned.ensures (reason_of c.in-Fault.w) (ap answer_of c.in-Fault.is)))

pub returns-in-Refused : goal.returns-in-Refused
returns-in-Refused c =
    sym (ap (settled (run_of c.args.run)) (c.loop-present.invariant ∙ fails c.args.s.now c.args.shape c.requires.accepted c.loop-present.given c.loop-present.present c.turn-turned.result c.turn-turned.ensures (refusal_of c.in-Refused.w) (ap answer_of c.in-Refused.is)))
