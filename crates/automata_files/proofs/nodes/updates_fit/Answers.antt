use Rattle.std.proofs.Common.{◌&&◌, rules, tests, refl}
use Rattle.expressions.specs.Nodes.{node_at}
use Rattle.prelude.proofs.Ranges.{all_upto}
use Rattle.chart_checks.specs.Used.{truths, numbers}
use Rattle.automata_records.specs.Places.{node_part}
use Rattle.automata_records.specs.Structure.{condition_at, assigned_at}
use Rattle.automata_files.proofs.nodes.updates_fit.Goals as goal

pub returns : goal.returns
returns c =
    let s = c.args.s.now in
    let sh = c.args.shape in
    let node = node_at (node_part s sh) in
    all_upto (λ u. truths node (condition_at s sh u) && numbers node (assigned_at s sh u)) sh.updates _ _ _ c.all.ensures.ran refl (λ x b q k. search (rules, tests))
