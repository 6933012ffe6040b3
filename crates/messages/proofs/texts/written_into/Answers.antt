use native.Mathlib.Omega.{arith}
use Rattle.records.proofs.Wrote.{wrote_then}
use Rattle.messages.proofs.texts.written_into.Goals as goal

pub returns : goal.returns
returns c =
    let word = c.put_text-size_at.ensures in
    let size = c.put_counted-next.ensures in
    let counts = c.put_table.ensures in
    let all = wrote_then (wrote_then word size.0) counts.0 in
    ((omega (arith, all.behind), all.written), omega (arith, word.behind, size.1, counts.1))
