use mathlib.Core.Path.{sym, ◌∙◌}
use native.Mathlib.Omega.{arith}
use lib.ListN.{get_or-eq_default}
use Rattle.model.specs.ChartSet.{read_charts}
use Rattle.chart_records.proofs.PlacesRead.{home-is, length-homes}
use Rattle.chart_files.proofs.structure.chart_of.Goals as goal

pub returns-then-state-shape : goal.returns-then-state-shape
returns-then-state-shape c =
    c.home_of.ensures ∙ sym (home-is c.args.s.now c.args.shape c.requires c.args.state c.if-state-shape.true)

pub returns-else-state-shape : goal.returns-else-state-shape
returns-else-state-shape c =
    sym (get_or-eq_default (read_charts c.args.s.now).homes 0 (omega (arith, length-homes c.args.s.now c.args.shape c.requires, c.if-state-shape.false)))
