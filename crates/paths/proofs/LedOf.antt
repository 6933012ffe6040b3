-- What a path comes to, from the count of its rows. Assumes nothing.
use mathlib.Core.Path.{◌≡◌, refl, sym, ap, ◌∙◌}
use mathlib.Core.Bool.{Bool, true, false, cond}
use mathlib.Core.List.{List, ◌++◌}
use Prim.Native.Nat.{ℕ, ◌+◌, ◌*◌, ◌/◌, ◌≤◌, ◌<◌}
use native.Mathlib.Omega.{arith}
use borrow.Author.Tests.{lt-ltb, le-ltb}
use lib.Dec.{ltb}
use lib.ListN.{length, drop}
use lib.Seq.{sets, sets-eq}
use Rattle.records.specs.Refusal.{broken_path, short_rows, val, fault, ◌>>=◌, ◌>>◌, fault_if}
use Rattle.model.specs.Outcome.{settled}
use Rattle.model.specs.ChartSet.{ChartSet}
use Rattle.model.specs.PathBack.{Row, walk_start, led_back, row_words, rows_written}
use Rattle.paths.specs.Along.{all_fit, rows_along}
use Rattle.paths.specs.LedOf.{counted, led}
use Rattle.paths.proofs.Along.{led-is}
use Rattle.paths.proofs.AlongFollowed.{length-words}

module _ (cs : ChartSet) (path lent : List ℕ) where
  abbrev fit : Bool
  fit = all_fit cs path (walk_start cs)

  abbrev all_rows : List Row
  all_rows = rows_along cs path (walk_start cs)

  by-fit : (b : Bool) → fit ≡ b → led cs path lent ≡ settled lent (cond b (val all_rows) (fault broken_path) >>= λ rows. rows_written rows lent)
  by-fit b e = ap (λ o. settled lent (o >>= λ rows. rows_written rows lent)) (led-is cs path (walk_start cs) ∙ ap (λ y. cond y (val all_rows) (fault broken_path)) e)

  counted-by : (b : Bool) → fit ≡ b → counted (led_back cs path (walk_start cs)) ≡ counted (cond b (val all_rows) (fault broken_path))
  counted-by b e = ap counted (led-is cs path (walk_start cs) ∙ ap (λ y. cond y (val all_rows) (fault broken_path)) e)

  -- so many rows, and all steps fit
  pub led-many : (n : ℕ) → val n ≡ counted (led_back cs path (walk_start cs)) → (fit ≡ true) × (n ≡ length all_rows)
  led-many n h = go fit refl
    where
      go : (b : Bool) → fit ≡ b → (fit ≡ true) × (n ≡ length all_rows)
      go true e = let z : val n ≡ val (length all_rows) = h ∙ counted-by true e in (e, cc)
      go false e = let z : val n ≡ fault broken_path = h ∙ counted-by false e in let y : ◌≡◌ {A = ℕ} 0 1 = cc in absurd (omega arith)

  module _ (n : ℕ) (f : fit ≡ true) (many : n ≡ length all_rows) where
    by-room : (b : Bool) → ltb (length lent / 3) (length all_rows) ≡ b → led cs path lent ≡ settled lent (fault_if b short_rows >> val (length all_rows, row_words all_rows ++ drop (3 * length all_rows) lent))
    by-room b e = by-fit true f ∙ ap (λ y. settled lent (fault_if y short_rows >> val (length all_rows, row_words all_rows ++ drop (3 * length all_rows) lent))) e

    pub led-room : n ≤ length lent / 3 → 3 * length all_rows ≤ length lent
    led-room h = omega arith

    pub led-written : n ≤ length lent / 3 → led cs path lent ≡ record { answer = val n; lent = sets lent 0 (row_words all_rows) }
    led-written h =
        by-room false (le-ltb (length lent / 3) (length all_rows) (omega arith))
        ∙ (λ i. record { answer = val (sym many i); lent = written i })
      where
        written : row_words all_rows ++ drop (3 * length all_rows) lent ≡ sets lent 0 (row_words all_rows)
        written =
            let l : length (row_words all_rows) ≡ 3 * length all_rows = length-words all_rows in
            let k : 0 + length (row_words all_rows) ≡ 3 * length all_rows = omega arith in
            sym (sets-eq (row_words all_rows) lent 0 (omega (arith, led-room h)) ∙ ap (λ j. row_words all_rows ++ drop j lent) k)
