use mathlib.Core.Path.{◌≡◌}
use mathlib.Core.List.{List, map}
use Prim.Native.Nat.{ℕ}
use Rattle.std.specs.Prelude.{Option}
use Rattle.records.specs.Bytes.{kind}
use Rattle.records.proofs.Records.{rest}
use Rattle.file_kinds.specs.LongFiles.{last_kind, last_kind_in}
use Rattle.file_kinds.proofs.last_kind.Given as goal

unfoldable pub left : List ℕ → ℕ → ℕ → Option ℕ
left s last i = last_kind last (map kind (rest s i))

abbrev pub invariant-loop-i : goal.invariant-loop-i
invariant-loop-i l = last_kind_in l.s l.fn.before ≡ left l.s l.last l.i
