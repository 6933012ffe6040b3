-- Rows that were written had room. Assumes nothing.
use mathlib.Core.Path.{◌≡◌, refl, sym, ap, ◌∙◌, subst}
use mathlib.Core.Bool.{Bool, true, false}
use mathlib.Core.Option.{Option, some, none}
use mathlib.Core.List.{List, ◌++◌}
use Prim.Native.Nat.{ℕ, ◌*◌, ◌/◌, ◌≤◌}
use native.Mathlib.Omega.{arith}
use borrow.Author.Tests.{ltb-false}
use lib.Dec.{ltb}
use lib.ListN.{length, drop}
use Rattle.std.specs.Prelude.{Result, Ok}
use Rattle.records.specs.declared.refusals.Refusal as R
use Rattle.records.specs.Refusal.{Refusal, short_rows, Out, val, fault, ◌>>=◌, ◌>>◌, fault_if, unless_refused}
use Rattle.model.specs.Outcome.{settled}
use Rattle.model.specs.ChartSet.{read_charts}
use Rattle.model.specs.ChartFile.{charts_refusal}
use Rattle.model.specs.PathBack.{Row, walk_start, led_back, row_words, rows_written, path_back}
use Rattle.paths.specs.LedOf.{answer_of, led_of}

abbrev row_count : Out ℕ → ℕ
row_count (val n) = n
row_count (fault w) = 0

of-rows : (rows : List Row) (lent : List ℕ) (b : Bool) → ltb (length lent / 3) (length rows) ≡ b
    → 3 * row_count (settled lent (fault_if b short_rows >> val (length rows, row_words rows ++ drop (3 * length rows) lent))).answer ≤ length lent
of-rows rows lent true e = omega arith
of-rows rows lent false e = let h : length rows ≤ length lent / 3 = ltb-false (length lent / 3) (length rows) e in omega arith

of-path : (lent : List ℕ) (w : Option Refusal) (o : Out (List Row)) → 3 * row_count (settled lent (unless_refused w (o >>= λ rows. rows_written rows lent))).answer ≤ length lent
of-path lent (some w) o = omega arith
of-path lent none (fault w) = omega arith
of-path lent none (val rows) = of-rows rows lent (ltb (length lent / 3) (length rows)) refl

pub room : (s path lent after : List ℕ) (r : Result ℕ R.Refusal) → led_of r after ≡ path_back s path lent → (n : ℕ) → r ≡ Ok n → 3 * n ≤ length lent
room s path lent after r e n is =
    subst (λ k. 3 * k ≤ length lent) (ap (λ o. row_count o.answer) (sym e) ∙ ap (λ x. row_count (answer_of x)) is)
    (of-path lent (charts_refusal s) (led_back (read_charts s) path (walk_start (read_charts s))))
