-- Examples of actions while waiting (request 4), from bytes: turns, the twin record for record and its path, and the refusals. Assumes nothing.
use mathlib.Core.Path.{◌≡◌, refl}
use mathlib.Core.List.{List, [], ◌∷◌, ◌++◌, map}
use Prim.Native.Nat.{ℕ}
use lib.ListN.{replicate}
use Rattle.prelude.specs.Lists.{gather}
use Rattle.model.specs.Runs.{whole_cycle}
use Rattle.model.specs.AutomataFile.{AutomataFile}
use Rattle.model.specs.Translation.{twin_bytes, Translation}
use Rattle.model.specs.PathBack.{path_back, PathBack}
use Rattle.model.specs.Calls.{chart_sets, automata_tables, start_call, turn_call}
use Rattle.model.specs.TakenPath.{taken_path, TakenPath}
use Rattle.model.specs.Replay.{Replay}
use Rattle.records.proofs.Tables.{Agree}
use Rattle.expressions.proofs.ExampleNodes.{rec16, constant, read, binary}
use Rattle.examples.proofs.ExampleSets.{blank, run, chart, state, freely, on_event, variable, action, while_idle}
use Rattle.examples.proofs.ExampleFiles.{copies, edited, refused, printed, lines}

-- ---- sets

-- Two charts. Every 200 ms in state 1: v := v + 1; v := v * 2; raise event 3. Event 0 leads from 1 to 2, event 1 back. The second chart goes between 4 and 5 by event 3.
abbrev idling : List ℕ
idling =
    chart 0 ++ chart 3 ++ state 0 ++ state 0 ++ state 0 ++ state 1 ++ state 1 ++ state 1
    ++ freely 1 0 1 ++ on_event 1 1 2 0 ++ on_event 1 2 1 1 ++ freely 1 3 4 ++ on_event 1 4 5 3 ++ on_event 1 5 4 3
    ++ variable 0 1_000 0
    ++ (read 0 ++ constant 1 ++ binary 3 0 1) ++ (read 0 ++ constant 2 ++ binary 5 3 4)
    ++ while_idle 200 1 1 0 2 ++ while_idle 200 1 1 0 5 ++ while_idle 200 1 2 3 0

-- one state after the initial one, which event 0 enters anew, with these actions
abbrev resting : List ℕ → List ℕ
resting actions = chart 0 ++ state 0 ++ state 0 ++ freely 1 0 1 ++ on_event 1 1 1 0 ++ actions

-- raise event 3 in state 1, every so many milliseconds
abbrev every : ℕ → List ℕ
every ms = while_idle ms 1 2 3 0

-- ---- turns

abbrev replays : List (List ℕ × List ℕ)
replays =
    -- Entered in cycle 0, due at age 2, in cycle 2: the second action sees the first, the second chart the event; the answer is idle. Not due at age 3. Entered anew in
    -- cycle 4, due in cycle 6.
    (
      printed idling (0 ∷ 0 ∷ 0 ∷ 1 ∷ 2 ∷ 0 ∷ 0 ∷ []),
      lines 0
          "0 0 0 1 0\n0 1 3 4 0\n1 0 - 1 0\n1 1 - 4 0\n2 0 - 1 2\n2 1 4 5 2\n3 0 1 2 2\n3 1 - 5 2\n4 0 2 1 2\n4 1 - 5 2\n5 0 - 1 2\n5 1 - 5 2\n6 0 - 1 6\n6 1 5 4 6\n",
    )
    -- a transition that is taken leaves no waiting action done in that turn
    ∷ (printed idling (0 ∷ 0 ∷ 1 ∷ []), lines 0 "0 0 0 1 0\n0 1 3 4 0\n1 0 - 1 0\n1 1 - 4 0\n2 0 1 2 0\n2 1 - 4 0\n")
    -- at each multiple, the age going on
    ∷ (
      printed idling (0 ∷ 0 ∷ 0 ∷ 0 ∷ 0 ∷ []),
      lines 0 "0 0 0 1 0\n0 1 3 4 0\n1 0 - 1 0\n1 1 - 4 0\n2 0 - 1 2\n2 1 4 5 2\n3 0 - 1 2\n3 1 - 5 2\n4 0 - 1 6\n4 1 5 4 6\n",
    )
    ∷ []

waiting-turns : Agree replays
unfolding Replay
waiting-turns = (refl, (refl, (refl, tt)))

-- the events after the first chart's turn in state 1, at this age: event 3 is bit 3
abbrev raised_at : (age : ℕ) → ℕ
raised_at age = (turn_call chart_sets idling 0 (run (1 ∷ 4 ∷ []) (age ∷ []) [] 0 1 9)).lent.world.events

-- nothing is due at age 0
abbrev ages : List (ℕ × ℕ)
ages = (raised_at 0, 0) ∷ (raised_at 1, 0) ∷ (raised_at 2, 8) ∷ (raised_at 3, 0) ∷ (raised_at 4, 8) ∷ []

due-ages : Agree ages
unfolding Replay
due-ages = (refl, (refl, (refl, (refl, (refl, tt)))))

-- ---- the twin

-- 250 ms are 2 ticks; edge 3 is the due one of state 1, edge 4 the other
abbrev resting_twin : List (List ℕ)
resting_twin =
    (33 ∷ 0 ∷ [])
    ∷ (34 ∷ 0 ∷ [])
    ∷ (34 ∷ 0 ∷ [])
    ∷ (35 ∷ 0 ∷ 0 ∷ 0 ∷ 1 ∷ [])
    ∷ (35 ∷ 0 ∷ 1 ∷ 0 ∷ 1 ∷ [])
    ∷ (35 ∷ 0 ∷ 0 ∷ 0 ∷ 0 ∷ 0 ∷ 1 ∷ [])
    ∷ (35 ∷ 0 ∷ 1 ∷ 0 ∷ 1 ∷ 0 ∷ 1 ∷ [])
    ∷ (35 ∷ 0 ∷ 1 ∷ 0 ∷ 1 ∷ 0 ∷ 1 ∷ [])
    ∷ (36 ∷ 1 ∷ 0 ∷ 0 ∷ 0 ∷ 0 ∷ 0 ∷ 0 ∷ 255 ∷ 255 ∷ [])
    ∷ (36 ∷ 1 ∷ 1 ∷ 0 ∷ 1 ∷ 0 ∷ 0 ∷ 0 ∷ 255 ∷ 255 ∷ [])
    ∷ (36 ∷ 2 ∷ 2 ∷ 0 ∷ 0 ∷ 0 ∷ 0 ∷ 0 ∷ 255 ∷ 255 ∷ [])
    ∷ (36 ∷ 2 ∷ 3 ∷ 0 ∷ 1 ∷ 0 ∷ 0 ∷ 0 ∷ 255 ∷ 255 ∷ [])
    ∷ (36 ∷ 1 ∷ 3 ∷ 0 ∷ 2 ∷ 0 ∷ 0 ∷ 0 ∷ 255 ∷ 255 ∷ [])
    ∷ (36 ∷ 2 ∷ 4 ∷ 0 ∷ 1 ∷ 0 ∷ 0 ∷ 0 ∷ 255 ∷ 255 ∷ [])
    ∷ (36 ∷ 2 ∷ 4 ∷ 0 ∷ 2 ∷ 0 ∷ 0 ∷ 0 ∷ 255 ∷ 255 ∷ [])
    ∷ (37 ∷ 3 ∷ 2 ∷ [])
    ∷ (40 ∷ 2 ∷ 3 ∷ 0 ∷ 3 ∷ [])
    ∷ (41 ∷ 0 ∷ 0 ∷ 0 ∷ 0 ∷ [])
    ∷ (41 ∷ 0 ∷ 1 ∷ 0 ∷ 0 ∷ [])
    ∷ []

twin-records : twin_bytes (resting (every 250)) ≡ gather rec16 resting_twin
unfolding Translation
twin-records = refl

-- Entered in cycle 0, due in cycle 2, entered anew in cycle 3, due in cycle 5: its clock was reset.
twin-path :
    taken_path (twin_bytes (resting (every 250))) (map whole_cycle (0 ∷ 0 ∷ 0 ∷ 1 ∷ 0 ∷ 0 ∷ 0 ∷ [])) (start_call automata_tables (twin_bytes (resting (every 250))) blank).lent
    ≡ 0 ∷ 65535 ∷ 4 ∷ 65535 ∷ 3 ∷ 65535 ∷ 1 ∷ 65535 ∷ 4 ∷ 65535 ∷ 3 ∷ 65535 ∷ 4 ∷ 65535 ∷ []
unfolding PathBack TakenPath AutomataFile
twin-path = refl

-- due and not-due edges give no row, at any age
path-rows : (path_back (resting (every 250)) (0 ∷ 65535 ∷ 3 ∷ 65535 ∷ 4 ∷ 65535 ∷ 1 ∷ []) (replicate 7 9)).lent ≡ 0 ∷ 0 ∷ 0 ∷ 3 ∷ 0 ∷ 1 ∷ 9 ∷ []
unfolding PathBack
path-rows = refl

-- ---- refusals

abbrev files : List (ℕ × ℕ)
files =
    (refused idling, 0)
    -- 5: the range of milliseconds
    ∷ (refused (resting (every 0)), 5)
    ∷ (refused (resting (every 3_600_000)), 0)
    ∷ (refused (resting (every 3_600_001)), 5)
    -- 6: the owner is a state
    ∷ (refused (resting (while_idle 200 2 2 3 0)), 6)
    -- 7: eight of a state, with entry and exit actions; an initial state may have them
    ∷ (refused (resting (copies 8 (every 200))), 0)
    ∷ (refused (resting (copies 9 (every 200))), 7)
    ∷ (refused (resting (copies 4 (action 1 1 2 3 0) ++ copies 4 (every 200))), 0)
    ∷ (refused (resting (copies 4 (action 2 1 2 3 0) ++ copies 5 (every 200))), 7)
    ∷ (refused (resting (while_idle 200 0 2 3 0)), 0)
    -- 8: a node that a waiting action assigns is used by it
    ∷ (refused (chart 0 ++ state 0 ++ state 0 ++ freely 1 0 1 ++ variable 0 9 0 ++ constant 1 ++ while_idle 200 1 1 0 0), 0)
    ∷ (refused (chart 0 ++ state 0 ++ state 0 ++ freely 1 0 1 ++ variable 0 9 0 ++ constant 1 ++ while_idle 200 1 1 0 0 ++ action 3 0 1 0 0), 8)
    -- 9: rounded as timing triggers are
    ∷ (refused (resting (every 49)), 9)
    ∷ (refused (resting (every 50)), 9)
    ∷ (refused (resting (every 51)), 0)
    -- 25 compares milliseconds, not ticks, after 9; of one state alone
    ∷ (refused (resting (every 200 ++ every 200)), 0)
    ∷ (refused (resting (every 200 ++ every 201)), 25)
    ∷ (refused (resting (every 200 ++ every 200 ++ every 100)), 25)
    ∷ (refused (resting (every 49 ++ every 200)), 9)
    ∷ (refused (resting (every 200 ++ while_idle 201 0 2 3 0)), 0)
    ∷ []

waiting-files : Agree files
unfolding Replay
waiting-files = (refl, (refl, (refl, (refl, (refl, (refl, (refl, (refl, (refl, (refl, (refl, (refl, (refl, (refl, (refl, (refl, (refl, (refl, (refl, (refl, tt))))))))))))))))))))
