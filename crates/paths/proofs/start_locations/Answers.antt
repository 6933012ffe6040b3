use mathlib.Core.Path.{◌∙◌}
use Prim.Native.Nat.{◌-◌}
use lib.ListN.{length, take, replicate}
use lib.Seq.{take_at}
use Rattle.model.specs.ChartSet.{read_charts}
use Rattle.chart_records.proofs.PlacesRead.{length-initial}
use Rattle.paths.proofs.start_locations.Goals as goal

pub returns : goal.returns
returns c =
    let a = c.args in
    let s = a.s.now in
    let sh = a.shape in
    let is = c.requires.shape in
    (λ i. record { locations = take sh.charts (c.start-run.ensures i).at; position = 1; cycles = 0 })
    ∙ (λ i. record { locations = take_at (read_charts s).initial (replicate (8 - length (read_charts s).initial) 0) sh.charts (length-initial s sh is) i; position = 1; cycles = 0 })
