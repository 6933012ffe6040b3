use native.Mathlib.Omega.{arith}
use Rattle.automata_records.proofs.PlacesRead.{inside}
use Rattle.automata_records.proofs.fields.node_records.Goals as goal

pub slice_bounds-result-end : goal.slice_bounds-result-end
slice_bounds-result-end c =
    omega (arith, inside c.args.s.now c.args.shape c.requires)
