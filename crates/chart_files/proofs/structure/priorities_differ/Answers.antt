use mathlib.Core.Path.{sym, ap, ◌∙◌}
use mathlib.Core.List.{map}
use Prim.Native.Nat.{◌*◌}
use native.Mathlib.Omega.{arith}
use Rattle.prelude.specs.Lists.{upto}
use Rattle.chart_files.specs.Tallies.{none_above}
use Rattle.chart_checks.proofs.InCode.{priority-in-code}
use Rattle.chart_files.specs.Structure.{pair_at}
use Rattle.chart_records.proofs.PlacesRead.{most-states}
use Rattle.chart_files.proofs.StructureFramed.{priorities-is}
use Rattle.chart_files.proofs.Tallies.{take-zeros, length-zeros}
use Rattle.chart_files.proofs.structure.priorities_differ.Goals as goal

pub slice_bounds-seen-end : goal.slice_bounds-seen-end
slice_bounds-seen-end c =
    omega (arith, most-states c.args.s.now c.args.shape c.requires.0)

pub slice_bounds-pairs_within-end : goal.slice_bounds-pairs_within-end
slice_bounds-pairs_within-end c =
    length-zeros (16 * c.args.shape.states) 2048 (omega (arith, most-states c.args.s.now c.args.shape c.requires.0))

pub returns : goal.returns
returns c =
    let s = c.args.s.now in
    c.pairs_within.ensures.0
    ∙ ap (λ l. none_above 1 l (map (pair_at s c.args.shape) (upto c.args.shape.transitions))) (take-zeros (16 * c.args.shape.states) 2048 (omega (arith, most-states s c.args.shape c.requires.0)))
    ∙ sym (priorities-is s c.args.shape c.requires.0 (priority-in-code s c.args.shape c.requires.0 c.requires.1))
