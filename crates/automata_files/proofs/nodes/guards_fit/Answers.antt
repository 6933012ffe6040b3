use Rattle.std.proofs.Common.{rules, tests, refl}
use Rattle.expressions.specs.Nodes.{node_at}
use Rattle.prelude.proofs.Ranges.{all_upto}
use Rattle.chart_checks.specs.Used.{truths}
use Rattle.automata_records.specs.Places.{node_part}
use Rattle.automata_records.specs.Structure.{guard_at}
use Rattle.automata_files.proofs.nodes.guards_fit.Goals as goal

pub returns : goal.returns
returns c =
    all_upto (λ x. truths (node_at (node_part c.args.s.now c.args.shape)) (guard_at c.args.s.now c.args.shape x)) c.args.shape.literals _ _ _ c.all.ensures.ran refl (λ x b q k. search (rules, tests))
