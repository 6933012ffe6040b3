use mathlib.Core.Path.{◌≡◌, sym}
use native.Mathlib.Omega.{arith}
use borrow.Author.Rules.{rules}
use lib.ListN.{length}
use Rattle.records.proofs.Fields.{sets-past}
use Rattle.twin_records.proofs.writing.put_record.Goals as goal

pub returns-else-at-out : goal.returns-else-at-out
returns-else-at-out c =
    let a = c.args in
    let long : length a.bytes ≡ 16 = search rules in
    record {
      wrote = record { behind = omega arith; written = sym (sets-past a.bytes a.out.now a.at c.if-at-out.false) };
      near = omega arith;
    }
