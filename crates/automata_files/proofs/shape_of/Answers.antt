use Rattle.std.proofs.Common.{◌≡◌, rules}
use Rattle.std.specs.Prelude.{Ok}
use Rattle.automata_files.proofs.ShapeFramed.{shaped}
use Rattle.automata_files.proofs.shape_of.Goals as goal

pub returns : goal.returns
returns c =
    let framed : c.frame_of-framed.result ≡ Ok c.in_ok-counts.field-0 = search rules in
    shaped _ _ c.frame_of-framed.ensures _ framed
