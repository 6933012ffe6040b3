-- Examples of the checks before a turn, 12 to 14: each clause of 12 by a run that breaks it alone. Assumes nothing.
use mathlib.Core.Path.{◌≡◌, refl}
use mathlib.Core.List.{List, [], ◌∷◌}
use Prim.Native.Nat.{ℕ}
use lib.ListN.{replicate, set}
use lib.IntN.{ℤ, pos, negsuc}
use Rattle.model.specs.Runs.{Run}
use Rattle.model.specs.Translation.{twin_bytes, Translation}
use Rattle.model.specs.AutomataFile.{AutomataFile}
use Rattle.model.specs.Calls.{chart_sets, automata_tables, turn_call, numbered, answer_code}
use Rattle.records.proofs.Tables.{Agree}
use Rattle.examples.proofs.ExampleSets.{timing, waiting, run}

abbrev turn : (given : ℕ) → Run → ℤ
turn given r = numbered answer_code (turn_call chart_sets timing given r).answer

abbrev one : ℤ → List ℤ
one v = v ∷ []

abbrev checks : List (ℤ × ℤ)
checks =
    -- possible runs: the first chart idles, the second takes transition 4, time passes
    (turn 1 (run (1 ∷ 4 ∷ []) (2 ∷ 2 ∷ []) (one (pos 1)) 0 1 2), pos 65534)
    ∷ (turn 0 (run (1 ∷ 4 ∷ []) (2 ∷ 2 ∷ []) (one (pos 1)) 1 2 2), pos 4)
    ∷ (turn 0 (run (1 ∷ 4 ∷ []) (0 ∷ 2 ∷ []) (one (pos 100)) 1 3 999_999), pos 65535)
    -- 12: a state of another chart, no state, a variable too high and too low, an age over the count
    ∷ (turn 0 (run (4 ∷ 4 ∷ []) (2 ∷ 2 ∷ []) (one (pos 1)) 0 1 2), negsuc 11)
    ∷ (turn 0 (run (9 ∷ 4 ∷ []) (2 ∷ 2 ∷ []) (one (pos 1)) 0 1 2), negsuc 11)
    ∷ (turn 0 (run (1 ∷ 4 ∷ []) (2 ∷ 2 ∷ []) (one (pos 101)) 0 1 2), negsuc 11)
    ∷ (turn 0 (run (1 ∷ 4 ∷ []) (2 ∷ 2 ∷ []) (one (negsuc 0)) 0 1 2), negsuc 11)
    ∷ (turn 0 (run (1 ∷ 4 ∷ []) (2 ∷ 3 ∷ []) (one (pos 1)) 0 1 2), negsuc 11)
    -- position 0, position over n + 1
    ∷ (turn 0 (run (1 ∷ 4 ∷ []) (2 ∷ 2 ∷ []) (one (pos 1)) 0 0 2), negsuc 11)
    ∷ (turn 0 (run (1 ∷ 4 ∷ []) (2 ∷ 2 ∷ []) (one (pos 1)) 0 4 2), negsuc 11)
    -- count over 1,000,000, or past position 1 over 999,999
    ∷ (turn 0 (run (1 ∷ 4 ∷ []) (2 ∷ 2 ∷ []) (one (pos 1)) 0 1 1_000_001), negsuc 11)
    ∷ (turn 0 (run (1 ∷ 4 ∷ []) (2 ∷ 2 ∷ []) (one (pos 1)) 0 2 1_000_000), negsuc 11)
    -- events at position 1
    ∷ (turn 0 (run (1 ∷ 4 ∷ []) (2 ∷ 2 ∷ []) (one (pos 1)) 1 1 2), negsuc 11)
    -- unused places of states, ages and variables
    ∷ (turn 0 (record { at = 1 ∷ 4 ∷ 1 ∷ replicate 5 0; timers = replicate 8 0; world = (run [] [] (one (pos 1)) 0 1 2).world }), negsuc 11)
    ∷ (turn 0 (record { at = 1 ∷ 4 ∷ replicate 6 0; timers = 0 ∷ 0 ∷ 1 ∷ replicate 5 0; world = (run [] [] (one (pos 1)) 0 1 2).world }), negsuc 11)
    ∷ (turn 0 (run (1 ∷ 4 ∷ []) (2 ∷ 2 ∷ []) (pos 1 ∷ pos 1 ∷ []) 0 1 2), negsuc 11)
    -- places missing
    ∷ (turn 0 (record { at = 1 ∷ 4 ∷ []; timers = replicate 8 0; world = (run [] [] (one (pos 1)) 0 1 2).world }), negsuc 11)
    -- 13, 14
    ∷ (turn 1 (run (1 ∷ 4 ∷ []) (2 ∷ 2 ∷ []) (one (pos 1)) 0 2 2), negsuc 12)
    ∷ (turn 0 (run (1 ∷ 4 ∷ []) (2 ∷ 2 ∷ []) (one (pos 1)) 0 1 1_000_000), negsuc 13)
    -- 12 before 13 and before 14
    ∷ (turn 1 (run (1 ∷ 4 ∷ []) (2 ∷ 2 ∷ []) (one (pos 101)) 0 2 2), negsuc 11)
    ∷ (turn 0 (run (1 ∷ 4 ∷ []) (2 ∷ 2 ∷ []) (one (pos 101)) 0 1 1_000_000), negsuc 11)
    ∷ []

check-examples : Agree checks
unfolding Translation
check-examples =
    (refl, (refl, (refl, (refl, (refl, (refl, (refl, (refl, (refl, (refl, (refl, (refl, (refl, (refl, (refl, (refl, (refl, (refl, (refl, (refl, (refl, tt)))))))))))))))))))))

-- a refused call leaves the run as it was
refused-kept : let r = run (1 ∷ 4 ∷ []) (2 ∷ 2 ∷ []) (one (pos 101)) 0 1 2 in (turn_call chart_sets timing 0 r).lent ≡ r
unfolding Translation
refused-kept = refl

-- ---- clocks: the twin of `waiting` has one, after 3 ticks

abbrev clocked : ℕ → Run
clocked x = record {
  at = 2 ∷ replicate 7 0;
  timers = x ∷ replicate 383 0;
  world = record { vars = replicate 64 (pos 0); events = 0; position = 1; cycles = 9 };
}

abbrev twin_turn : Run → ℤ
twin_turn r = numbered answer_code (turn_call automata_tables (twin_bytes (waiting 300)) 0 r).answer

abbrev clocks : List (ℤ × ℤ)
clocks =
    -- below ticks the idle edge opens, at ticks, its top, the other; over it the run is impossible, and so it is with a clock that is not in use
    (twin_turn (clocked 2), pos 5)
    ∷ (twin_turn (clocked 3), pos 2)
    ∷ (twin_turn (clocked 4), negsuc 11)
    ∷ (twin_turn (record { at = (clocked 0).at; timers = set (clocked 0).timers 1 1; world = (clocked 0).world }), negsuc 11)
    ∷ []

clock-examples : Agree clocks
unfolding Translation AutomataFile
clock-examples = (refl, (refl, (refl, (refl, tt))))
