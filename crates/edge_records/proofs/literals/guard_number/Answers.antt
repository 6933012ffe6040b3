use mathlib.Core.Path.{◌≡◌, refl, ap, ◌∙◌}
use Prim.Native.Nat.{ℕ}
use Rattle.std.specs.Prelude.{Option, Some, None, unwrap_or}
use Rattle.records.specs.Bytes.{bytes2}
use Rattle.model.specs.AutomataTable.{write_guard}
use Rattle.chart_records.specs.Parts.{guard_for}
use Rattle.edge_records.proofs.literals.guard_number.Goals as goal

number-of : (g : Option ℕ) → bytes2 (unwrap_or g 65535) ≡ write_guard (guard_for g)
number-of None = refl
number-of (Some n) = refl

pub returns : goal.returns
returns c = ap bytes2 c.unwrap_or.ensures ∙ number-of c.args.guard
