use native.Mathlib.Omega.{arith}
use borrow.Author.Rules.{rules}
use Rattle.twin_records.proofs.TextsWritten.{sets-part}
use Rattle.twin_records.proofs.writing.put_whole.Goals as goal

pub returns : goal.returns
returns c =
    let a = c.args in
    sets-part a.out.now a.bytes _ a.at _ c.copy_from_slice.ensures.after (search rules) (omega arith)
