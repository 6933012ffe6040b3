-- Examples of actions with a condition (request 4), from bytes: turns, the twin's updates, and the refusals of a guard. Assumes nothing.
use mathlib.Core.Path.{◌≡◌, refl}
use mathlib.Core.List.{List, [], ◌∷◌, ◌++◌}
use Prim.Native.Nat.{ℕ}
use lib.ListN.{drop}
use Rattle.prelude.specs.Lists.{gather}
use Rattle.model.specs.AutomataFile.{AutomataFile}
use Rattle.model.specs.Translation.{twin_bytes, Translation}
use Rattle.model.specs.Replay.{Replay}
use Rattle.records.proofs.Tables.{Agree}
use Rattle.expressions.proofs.ExampleNodes.{rec16, constant, read, binary}
use Rattle.examples.proofs.ExampleSets.{chart, state, freely, on_event, variable, action, guarded}
use Rattle.examples.proofs.ExampleFiles.{edited, refused, refused_table, printed, lines}

-- ---- sets

-- one chart that goes from state 1 to itself in each cycle, with these actions on the way; a variable from 0 to 1,000, start 0
abbrev looping : List ℕ → List ℕ
looping rest = chart 0 ++ state 0 ++ state 0 ++ freely 1 0 1 ++ freely 1 1 1 ++ variable 0 1_000 0 ++ rest

-- where 0 < v, v := 50; v := v + 1; where 0 < v, v := v * 10
abbrev conditional : List ℕ
conditional =
    looping
    ((constant 0 ++ read 0 ++ binary 17 0 1) ++ constant 50 ++ (read 0 ++ constant 1 ++ binary 3 4 5) ++ (constant 0 ++ read 0 ++ binary 17 7 8) ++ (read 0 ++ constant 10 ++ binary 5 10 11)
    ++ guarded 2 3 1 1 0 3 ++ action 3 1 1 0 6 ++ guarded 9 3 1 1 0 12)

-- v := 5; where 1 / (v − 5) = 0, raise event 3
abbrev faulting_guard : List ℕ
faulting_guard =
    looping
    (constant 5 ++ (constant 1 ++ (read 0 ++ constant 5 ++ binary 4 2 3) ++ binary 6 1 4 ++ constant 0 ++ binary 16 5 6)
    ++ action 3 1 1 0 0 ++ guarded 7 3 1 2 3 0)

-- where v < 0, v := 1 / 0, and v := −1; these numbers are not worked out
abbrev skipped : List ℕ
skipped =
    looping
    ((read 0 ++ constant 0 ++ binary 17 0 1) ++ (constant 1 ++ constant 0 ++ binary 6 3 4) ++ (read 0 ++ constant 0 ++ binary 17 6 7) ++ constant 0xffff_ffff
    ++ guarded 2 3 1 1 0 5 ++ guarded 8 3 1 1 0 9)

-- Two charts: leaving 1 adds 1 to v, entering 1 raises event 3 where v = 2; the second chart goes on by event 3.
abbrev entering : List ℕ
entering =
    chart 0 ++ chart 2 ++ state 0 ++ state 0 ++ state 1 ++ state 1 ++ state 1
    ++ freely 1 0 1 ++ freely 1 1 1 ++ freely 1 2 3 ++ on_event 1 3 4 3
    ++ variable 0 9 0
    ++ (read 0 ++ constant 1 ++ binary 3 0 1) ++ (read 0 ++ constant 2 ++ binary 16 3 4)
    ++ guarded 5 1 1 2 3 0 ++ action 2 1 1 0 2

-- an action that raises an event, with a number for a guard
abbrev number_guard : List ℕ
number_guard = looping (constant 1 ++ guarded 0 3 1 2 3 0)

-- ---- turns

abbrev replays : List (List ℕ × List ℕ)
replays =
    -- false, then true in one sequence: the third action sees what the second assigned; in the next cycle the first is done too
    (printed conditional (0 ∷ 0 ∷ 0 ∷ []), lines 0 "0 0 0 1 0\n1 0 1 1 10\n2 0 1 1 510\n")
    -- a guard's fault is the turn's
    ∷ (printed faulting_guard (0 ∷ 0 ∷ []), lines 16 "0 0 0 1 0\n")
    -- an action that is skipped works out no number
    ∷ (printed skipped (0 ∷ 0 ∷ []), lines 0 "0 0 0 1 0\n1 0 1 1 0\n")
    -- an entry action that raises, after the exit action: in cycle 2 alone
    ∷ (
      printed entering (0 ∷ 0 ∷ 0 ∷ 0 ∷ []),
      lines 0 "0 0 0 1 0\n0 1 2 3 0\n1 0 1 1 1\n1 1 - 3 1\n2 0 1 1 2\n2 1 3 4 2\n3 0 1 1 3\n3 1 - 4 3\n",
    )
    ∷ []

guarded-turns : Agree replays
unfolding Replay
guarded-turns = (refl, (refl, (refl, (refl, tt))))

-- ---- the twin carries the guards

abbrev updates : List (List ℕ)
updates = (40 ∷ 1 ∷ 1 ∷ 0 ∷ 0 ∷ 0 ∷ 3 ∷ 0 ∷ 3 ∷ []) ∷ (40 ∷ 1 ∷ 1 ∷ 0 ∷ 0 ∷ 0 ∷ 6 ∷ []) ∷ (40 ∷ 1 ∷ 1 ∷ 0 ∷ 0 ∷ 0 ∷ 12 ∷ 0 ∷ 10 ∷ []) ∷ []

twin-updates : drop 400 (twin_bytes conditional) ≡ gather rec16 updates
unfolding Translation
twin-updates = refl

-- ---- refusals

abbrev files : List (ℕ × ℕ)
files =
    (refused conditional, 0)
    -- 4: bytes 10 and 15; 8-9 are named under every code
    ∷ (refused (edited conditional ((314, 1) ∷ [])), 4)
    ∷ (refused (edited conditional ((319, 1) ∷ [])), 4)
    ∷ (refused (edited conditional ((308, 3) ∷ [])), 5)
    ∷ (refused (edited conditional ((305, 9) ∷ [])), 5)
    -- 6: one past the last node, a high byte, and FF FF, which is 65,534
    ∷ (refused (edited conditional ((312, 13) ∷ [])), 8)
    ∷ (refused (edited conditional ((312, 14) ∷ [])), 6)
    ∷ (refused (edited conditional ((313, 1) ∷ [])), 6)
    ∷ (refused (edited conditional ((312, 255) ∷ (313, 255) ∷ [])), 6)
    -- 8: a guard that another action has too, one that is nobody's, a number
    ∷ (refused (edited conditional ((312, 10) ∷ [])), 8)
    ∷ (refused (edited conditional ((312, 0) ∷ [])), 8)
    ∷ (refused number_guard, 8)
    ∷ []

guard-files : Agree files
unfolding Replay
guard-files = (refl, (refl, (refl, (refl, (refl, (refl, (refl, (refl, (refl, (refl, (refl, (refl, tt))))))))))))

abbrev edited_twin : List (ℕ × ℕ) → List ℕ
edited_twin = edited (twin_bytes conditional)

abbrev tables : List (ℕ × ℕ)
tables =
    (refused_table (edited_twin []), 0)
    -- two updates may share a guard
    ∷ (refused_table (edited_twin ((408, 10) ∷ [])), 0)
    -- an unnamed byte; a guard that names nothing; a number
    ∷ (refused_table (edited_twin ((410, 1) ∷ [])), 11)
    ∷ (refused_table (edited_twin ((408, 14) ∷ [])), 11)
    ∷ (refused_table (edited_twin ((408, 13) ∷ [])), 11)
    ∷ []

guard-tables : Agree tables
unfolding Translation AutomataFile
guard-tables = (refl, (refl, (refl, (refl, (refl, tt)))))
