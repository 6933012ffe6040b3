use native.Mathlib.Omega.{arith}
use Rattle.records.proofs.Wrote.{wrote_then}
use Rattle.messages.proofs.texts.put_three.Goals as goal

pub returns : goal.returns
returns c =
    let first = c.put_counted-b_at.ensures in
    let second = c.put_counted-c_at.ensures in
    let third = c.put_counted.ensures in
    (wrote_then (wrote_then first.0 second.0) third.0, omega (arith, first.1, second.1, third.1))
