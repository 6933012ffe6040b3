use Rattle.std.proofs.Common.{arith}
use Rattle.chart_files.proofs.ShapeChecked.{accepted}
use Rattle.chart_files.proofs.check_framed.Goals as goal

pub returns : goal.returns
returns c =
    accepted c.args.s.now c.requires.framed (grind arith) (grind arith) (grind arith) (grind arith) (grind arith) (grind arith) c.args.shape c.requires (grind arith)
