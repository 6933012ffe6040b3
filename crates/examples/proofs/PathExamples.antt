-- Examples of the twin's turns and of paths led back, on the zero-watch set. Assumes nothing.
use mathlib.Core.Path.{◌≡◌, refl}
use mathlib.Core.List.{List, [], ◌∷◌, ◌++◌, map}
use Prim.Native.Nat.{ℕ}
use lib.ListN.{replicate, take}
use lib.IntN.{ℤ, pos, negsuc}
use Rattle.model.specs.Runs.{Run, Call, one_turn, whole_cycle}
use Rattle.model.specs.Translation.{twin_bytes, translate}
use Rattle.model.specs.PathBack.{row_words, path_back, PathBack}
use Rattle.model.specs.AutomataFile.{AutomataFile}
use Rattle.model.specs.Calls.{chart_sets, automata_tables, start_call, cycle_call, numbered}
use Rattle.model.specs.TakenPath.{taken_path, taken_rows, TakenPath}
use Rattle.records.proofs.Tables.{Agree}
use Rattle.examples.proofs.ExampleSets.{blank, zero_watch, waiting, held_back, raising}

-- ---- the twin's own path, and the set's rows

-- of calls from fresh runs
abbrev path_by : List ℕ → List Call → List ℕ
path_by s calls = let t = twin_bytes s in taken_path t calls (start_call automata_tables t blank).lent

abbrev rows_by : List ℕ → List Call → List ℕ
rows_by s calls = row_words (taken_rows s calls (start_call chart_sets s blank).lent)

-- a cycle for each mask
abbrev path_of : List ℕ → List ℕ → List ℕ
path_of s masks = path_by s (map whole_cycle masks)

-- the first clock after a cycle for each mask
abbrev clock_after : List ℕ → List ℕ → Run → List ℕ
clock_after t [] r = take 1 r.timers
clock_after t (mask ∷ masks) r = clock_after t masks (cycle_call automata_tables t mask r).lent

abbrev clock : List ℕ → List ℕ → List ℕ
clock s masks = let t = twin_bytes s in clock_after t masks (start_call automata_tables t blank).lent

abbrev paths : List (List ℕ × List ℕ)
paths =
    -- the edges of the five lines; the last is state 1's idle edge
    (path_of zero_watch (0 ∷ 1 ∷ 1 ∷ 2 ∷ 0 ∷ []), 0 ∷ 65535 ∷ 2 ∷ 65535 ∷ 1 ∷ 65535 ∷ 3 ∷ 65535 ∷ 5 ∷ 65535 ∷ [])
    -- entered in cycle 4, after 3 fires in cycle 7
    ∷ (
      path_of (waiting 300) (0 ∷ 0 ∷ 0 ∷ 0 ∷ 1 ∷ 0 ∷ 0 ∷ 0 ∷ []),
      0 ∷ 65535 ∷ 4 ∷ 65535 ∷ 4 ∷ 65535 ∷ 4 ∷ 65535 ∷ 1 ∷ 65535 ∷ 5 ∷ 65535 ∷ 5 ∷ 65535 ∷ 2 ∷ 65535 ∷ [],
    )
    -- with a guard that is false then and true one cycle later it fires in cycle 8
    ∷ (
      path_of held_back (0 ∷ 0 ∷ 0 ∷ 0 ∷ 1 ∷ 0 ∷ 0 ∷ 2 ∷ 0 ∷ []),
      0 ∷ 3 ∷ 65535 ∷ 6 ∷ 10 ∷ 65535 ∷ 6 ∷ 10 ∷ 65535 ∷ 6 ∷ 10 ∷ 65535 ∷ 1 ∷ 10 ∷ 65535 ∷ 7 ∷ 10 ∷ 65535 ∷ 7 ∷ 10 ∷ 65535 ∷ 7 ∷ 4 ∷ 65535 ∷ 2 ∷ 10 ∷ 65535 ∷ [],
    )
    -- its clock grows up to 3, is set to 0 where state 2 is entered, and grows by 1 at the cycle's end
    ∷ (clock (waiting 300) (0 ∷ 0 ∷ []), 2 ∷ [])
    ∷ (clock (waiting 300) (0 ∷ 0 ∷ 0 ∷ 0 ∷ 0 ∷ 0 ∷ []), 3 ∷ [])
    ∷ (clock (waiting 300) (0 ∷ 0 ∷ 0 ∷ 0 ∷ 1 ∷ []), 1 ∷ [])
    ∷ []

twin-examples : Agree paths
unfolding PathBack TakenPath AutomataFile
twin-examples = (refl, (refl, (refl, (refl, (refl, (refl, tt))))))

abbrev rows : List (List ℕ × List ℕ)
rows =
    -- cycle, chart and transition of the five lines; the last one idles
    (rows_by zero_watch (map whole_cycle (0 ∷ 1 ∷ 1 ∷ 2 ∷ 0 ∷ [])), 0 ∷ 0 ∷ 0 ∷ 1 ∷ 0 ∷ 2 ∷ 2 ∷ 0 ∷ 1 ∷ 3 ∷ 0 ∷ 3 ∷ [])
    -- 13: a refused call adds nothing to either
    ∷ (rows_by raising (one_turn 0 ∷ one_turn 1 ∷ one_turn 0 ∷ []), 0 ∷ 0 ∷ 0 ∷ 0 ∷ 1 ∷ 2 ∷ [])
    ∷ (path_by raising (one_turn 0 ∷ one_turn 1 ∷ one_turn 0 ∷ one_turn 0 ∷ []), 0 ∷ 2 ∷ 65535 ∷ [])
    ∷ []

row-examples : Agree rows
unfolding PathBack TakenPath AutomataFile
row-examples = (refl, (refl, (refl, tt)))

-- ---- paths led back: the answer's number, and the rows afterwards

abbrev back : List ℕ → List ℕ → List ℕ → List ℤ
back s path lent = let o = path_back s path lent in numbered (λ n. n) o.answer ∷ map pos o.lent

abbrev sevens : ℕ → List ℕ
sevens n = replicate n 7

abbrev said : ℤ → List ℕ → List ℤ
said answer rows = answer ∷ map pos rows

abbrev backs : List (List ℤ × List ℤ)
backs =
    -- four rows; the idle edge and time give none, and words beyond are kept
    (
      back zero_watch (0 ∷ 65535 ∷ 2 ∷ 65535 ∷ 1 ∷ 65535 ∷ 3 ∷ 65535 ∷ 5 ∷ 65535 ∷ []) (sevens 14),
      said (pos 4) (0 ∷ 0 ∷ 0 ∷ 1 ∷ 0 ∷ 2 ∷ 2 ∷ 0 ∷ 1 ∷ 3 ∷ 0 ∷ 3 ∷ 7 ∷ 7 ∷ []),
    )
    -- it may stop anywhere
    ∷ (back zero_watch [] [], said (pos 0) [])
    ∷ (back zero_watch (0 ∷ []) (sevens 3), said (pos 1) (0 ∷ 0 ∷ 0 ∷ []))
    -- the chart of a row
    ∷ (back raising (0 ∷ 2 ∷ []) (sevens 6), said (pos 2) (0 ∷ 0 ∷ 0 ∷ 0 ∷ 1 ∷ 2 ∷ []))
    -- 21: one word short
    ∷ (back zero_watch (0 ∷ []) (sevens 2), said (negsuc 20) (7 ∷ 7 ∷ []))
    -- 20: no edge; time too early; an edge where time must pass; not where the automaton stands; another automaton's turn; before 21
    ∷ (back zero_watch (7 ∷ []) (sevens 3), said (negsuc 19) (7 ∷ 7 ∷ 7 ∷ []))
    ∷ (back zero_watch (65535 ∷ []) (sevens 3), said (negsuc 19) (7 ∷ 7 ∷ 7 ∷ []))
    ∷ (back zero_watch (0 ∷ 2 ∷ []) (sevens 3), said (negsuc 19) (7 ∷ 7 ∷ 7 ∷ []))
    ∷ (back zero_watch (0 ∷ 65535 ∷ 3 ∷ []) (sevens 3), said (negsuc 19) (7 ∷ 7 ∷ 7 ∷ []))
    ∷ (back raising (2 ∷ []) (sevens 3), said (negsuc 19) (7 ∷ 7 ∷ 7 ∷ []))
    ∷ (back zero_watch (0 ∷ 0 ∷ []) [], said (negsuc 19) [])
    -- a refused set comes first
    ∷ (back (1 ∷ []) (7 ∷ []) [], said (negsuc 0) [])
    ∷ []

back-examples : Agree backs
unfolding PathBack AutomataFile
back-examples = (refl, (refl, (refl, (refl, (refl, (refl, (refl, (refl, (refl, (refl, (refl, (refl, tt))))))))))))

-- ---- the translation's records and bytes beyond them

kept-beyond : (translate zero_watch (sevens 483)).lent ≡ twin_bytes zero_watch ++ sevens 3
unfolding PathBack
kept-beyond = refl
