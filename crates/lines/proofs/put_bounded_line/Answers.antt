use native.Mathlib.Omega.{arith}
use Rattle.records.proofs.Wrote.{wrote_then, wrote-near}
use Rattle.lines.proofs.put_bounded_line.Goals as goal

pub returns : goal.returns
returns c =
    let head = c.put_head-variables_at.ensures in
    let variables = c.put_variables-feed_at.ensures in
    let feed = c.put_char.ensures in
    (wrote_then (wrote_then head.0 variables.0) feed, omega (arith, head.1, variables.1, wrote-near 1 feed (omega arith)))
