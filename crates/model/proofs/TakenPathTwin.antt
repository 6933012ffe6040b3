-- The closing theorem of paths: for every accepted set and every list of calls, the path that its twin takes leads back to what the charts did. Assumes nothing.
use mathlib.Core.Path.{◌≡◌}
use mathlib.Core.Option.{none}
use mathlib.Core.List.{List}
use Prim.Native.Nat.{ℕ}
use lib.Dec.{T, ltb}
use Rattle.prelude.specs.Lists.{all}
use Rattle.records.specs.Refusal.{val}
use Rattle.model.specs.Outcome.{settled}
use Rattle.model.specs.Runs.{Call, start}
use Rattle.model.specs.ChartSet.{read_charts}
use Rattle.model.specs.Charts.{charts}
use Rattle.model.specs.ChartFile.{charts_refusal}
use Rattle.model.specs.AutomataTable.{read_automata}
use Rattle.model.specs.Automata.{automata}
use Rattle.model.specs.Translation.{twin_bytes}
use Rattle.model.specs.PathBack.{walk_start, led_back, rows_written, path_back}
use Rattle.model.specs.TakenPath.{taken_path, taken_rows}
use Rattle.model.proofs.TranslationWritten.{twin-back}
use Rattle.model.proofs.TranslationAccepted.{twin-accepted}
use Rattle.model.proofs.TakenPath.{taken_path-led_back, taken_path-path_back}

module _ (s : List ℕ) (bytes : T (all (λ b. ltb b 256) s)) (ok : charts_refusal s ≡ none) (calls : List Call) where
  -- the path of the twin's calls from a fresh run, and the rows of the charts' same calls from theirs
  abbrev pub twin_path : List ℕ
  twin_path = taken_path (twin_bytes s) calls (start (automata (read_automata (twin_bytes s))))

  pub twin_path-led_back : led_back (read_charts s) twin_path (walk_start (read_charts s)) ≡ val (taken_rows s calls (start (charts (read_charts s))))
  twin_path-led_back = taken_path-led_back s ok (twin_bytes s) (twin-back s bytes ok) (twin-accepted s bytes ok) calls

  pub twin_path-path_back : (lent : List ℕ) → path_back s twin_path lent ≡ settled lent (rows_written (taken_rows s calls (start (charts (read_charts s)))) lent)
  twin_path-path_back lent = taken_path-path_back s ok (twin_bytes s) (twin-back s bytes ok) (twin-accepted s bytes ok) calls lent
