use mathlib.Core.Path.{sym, ap, ◌∙◌}
use mathlib.Core.List.{map}
use Prim.Native.Nat.{◌+◌}
use native.Mathlib.Omega.{arith}
use Rattle.prelude.specs.Lists.{upto}
use Rattle.chart_files.specs.Tallies.{none_above}
use Rattle.chart_files.specs.Structure.{owner_at}
use Rattle.chart_records.proofs.PlacesRead.{most-states, most-transitions}
use Rattle.chart_checks.proofs.NamesFramed.{actions-known}
use Rattle.chart_files.proofs.StructureFramed.{owners-is}
use Rattle.chart_files.proofs.Tallies.{take-zeros, length-zeros}
use Rattle.chart_files.proofs.structure.owners_act.Goals as goal

pub slice_bounds-counts-end : goal.slice_bounds-counts-end
slice_bounds-counts-end c =
    omega (arith, most-states c.args.s.now c.args.shape c.requires.0, most-transitions c.args.s.now c.args.shape c.requires.0)

pub slice_bounds-owners_within-end : goal.slice_bounds-owners_within-end
slice_bounds-owners_within-end c =
    length-zeros (c.args.shape.states + c.args.shape.transitions) 384
    (omega (arith, most-states c.args.s.now c.args.shape c.requires.0, most-transitions c.args.s.now c.args.shape c.requires.0))

pub returns : goal.returns
returns c =
    let s = c.args.s.now in
    let sh = c.args.shape in
    c.owners_within.ensures.0
    ∙ ap (λ l. none_above 8 l (map (owner_at s sh) (upto sh.actions)))
    (take-zeros (sh.states + sh.transitions) 384 (omega (arith, most-states s sh c.requires.0, most-transitions s sh c.requires.0)))
    ∙ sym (owners-is s sh c.requires.0 c.requires.1 (actions-known s sh c.requires.0 c.requires.2))
