-- Boundary rows of values, runs, calls and paths: what an error in one number or clause of the definitions would change, and the other examples would let
-- pass. Assumes nothing.
use mathlib.Core.Path.{refl}
use mathlib.Core.Bool.{Bool, true, false}
use mathlib.Core.Option.{some, none}
use mathlib.Core.List.{List, [], ◌∷◌, ◌++◌, map}
use Prim.Native.Nat.{ℕ, ◌-◌}
use Prim.Native.String.{String}
use lib.ListN.{length, replicate, set, take}
use lib.IntN.{ℤ, pos, negsuc}
use Rattle.prelude.specs.Lists.{padded}
use Rattle.records.specs.Refusal.{Out, val, zero_ticks, out_of_bounds}
use Rattle.expressions.specs.Nodes.{node_at}
use Rattle.expressions.specs.Values.{number, truth}
use Rattle.model.specs.Outcome.{Outcome}
use Rattle.model.specs.Runs.{Run}
use Rattle.model.specs.ChartSet.{read_charts}
use Rattle.model.specs.Charts.{ticks}
use Rattle.model.specs.AutomataTable.{read_automata}
use Rattle.model.specs.AutomataFile.{AutomataFile}
use Rattle.model.specs.Translation.{twin_bytes, translate, Translation}
use Rattle.model.specs.PathBack.{led_back, PathBack}
use Rattle.model.specs.Calls.{Format, chart_sets, automata_tables, start_call, turn_call, cycle_call, numbered, answer_code}
use Rattle.model.specs.Replay.{Replayed, replay, Replay}
use Rattle.records.proofs.Tables.{Agree}
use Rattle.expressions.proofs.ExampleNodes.{constant, binary}
use Rattle.examples.proofs.ExampleSets.{ascii, input_of, zero_watch, waiting, raising, timing, alternating, paired, run}
use Rattle.examples.proofs.ExampleFiles.{edited, edited_clocks}

-- ---- values

-- an operator on two constants; −1, −2, .. by their codes
abbrev number_on : (operator a b : ℕ) → Out ℤ
number_on o a b = number (node_at (constant a ++ constant b ++ binary o 0 1)) [] 2

abbrev truth_on : (operator a b : ℕ) → Out Bool
truth_on o a b = truth (node_at (constant a ++ constant b ++ binary o 0 1)) [] 2

abbrev minus : ℕ → ℕ
minus n = 0x1_0000_0000 - n

-- node 2 is true, node 5 is false; then an operator on two of them
abbrev truth_of : (operator a b : ℕ) → Out Bool
truth_of o a b = truth (node_at (constant 1 ++ constant 2 ++ binary 17 0 1 ++ constant 2 ++ constant 1 ++ binary 17 3 4 ++ binary o a b)) [] 6

abbrev numbers : List (Out ℤ × Out ℤ)
numbers =
    -- two negative operands
    (number_on 3 (minus 2) (minus 3), val (negsuc 4))
    ∷ (number_on 4 (minus 2) (minus 3), val (pos 1))
    ∷ (number_on 5 (minus 2) (minus 3), val (pos 6))
    ∷ (number_on 6 (minus 7) (minus 2), val (pos 3))
    ∷ (number_on 7 (minus 7) (minus 2), val (negsuc 0))
    ∷ []

number-rows : Agree numbers
unfolding Replay
number-rows = (refl, (refl, (refl, (refl, (refl, tt)))))

abbrev truths : List (Out Bool × Out Bool)
truths =
    -- at most of a smaller one; at most, less and equal of negative operands
    (truth_on 18 1 2, val true)
    ∷ (truth_on 18 (minus 2) (minus 1), val true)
    ∷ (truth_on 18 (minus 1) (minus 2), val false)
    ∷ (truth_on 17 (minus 2) (minus 1), val true)
    ∷ (truth_on 17 (minus 1) (minus 2), val false)
    ∷ (truth_on 16 (minus 1) (minus 1), val true)
    ∷ (truth_on 16 (minus 1) (minus 2), val false)
    -- not false; true and false; false or true
    ∷ (truth_of 19 5 0, val true)
    ∷ (truth_of 20 2 5, val false)
    ∷ (truth_of 21 5 2, val true)
    ∷ []

truth-rows : Agree truths
unfolding Replay
truth-rows = (refl, (refl, (refl, (refl, (refl, (refl, (refl, (refl, (refl, (refl, tt))))))))))

-- ---- the replay

abbrev lines : String → Replayed
lines t = record { text = ascii t; end = none }

abbrev replays : List (Replayed × Replayed)
replays =
    -- every variable is printed, with its sign; two actions of one owner go in file order, in each group
    (replay (paired 0 9 65436) (input_of (0 ∷ 0 ∷ 0 ∷ [])), lines "0 0 0 1 1 -3\n1 0 1 2 1 -20\n2 0 - 2 1 -20\n")
    -- the second variable's own range: −15 to −1, and −20 is assigned
    ∷ (replay (paired 65436 100 65521) (input_of (0 ∷ 0 ∷ 0 ∷ [])), record { text = ascii "0 0 0 1 1 -3\n"; end = some out_of_bounds })
    -- states of two charts alternate
    ∷ (replay alternating (input_of (0 ∷ 0 ∷ [])), lines "0 0 0 2 1 -3\n0 1 1 3 1 -3\n1 0 - 2 1 -3\n1 1 - 3 1 -3\n")
    -- a mask has four bytes: event 31
    ∷ (replay (edited zero_watch ((103, 31) ∷ [])) (input_of (0 ∷ 0x8000_0000 ∷ [])), lines "0 0 0 1 1\n1 0 2 1 -1\n")
    -- a partial mask ends it
    ∷ (replay zero_watch (input_of (0 ∷ []) ++ (1 ∷ 0 ∷ 0 ∷ [])), lines "0 0 0 1 1\n")
    ∷ (replay zero_watch (1 ∷ []), lines "")
    -- a refused file has no line
    ∷ (replay (waiting 49) (input_of (0 ∷ [])), record { text = []; end = some zero_ticks })
    ∷ []

replay-rows : Agree replays
unfolding Replay
replay-rows = (refl, (refl, (refl, (refl, (refl, (refl, (refl, tt)))))))

-- ---- calls: the answer's number; then of the run position, count, events, and the first two states, timers and variables

abbrev shown : ℤ → Run → List ℤ
shown answer r =
    answer ∷ map pos (r.world.position ∷ r.world.cycles ∷ r.world.events ∷ take 2 r.at ++ take 2 r.timers) ++ take 2 r.world.vars

abbrev turned : Format → List ℕ → (given : ℕ) → Run → List ℤ
turned f s given r = let o = turn_call f s given r in shown (numbered answer_code o.answer) o.lent

abbrev done : Outcome (Unit {0}) Run → List ℤ
done o = shown (numbered (λ _. 0) o.answer) o.lent

abbrev cycled : (given : ℕ) → Run → List ℤ
cycled given r = done (cycle_call chart_sets raising given r)

-- `raising` in its second cycle, its first chart before and after its turn
abbrev before : (position cycles : ℕ) → Run
before position cycles = run (1 ∷ 4 ∷ []) (1 ∷ 1 ∷ []) [] 0 position cycles

abbrev past : (position : ℕ) → Run
past position = run (2 ∷ 4 ∷ []) (0 ∷ 1 ∷ []) [] 8 position 1

-- a run that is possible for no table, and one that is fresh for many, in fitting places
abbrev odd : Run
odd = run (3 ∷ 3 ∷ []) (7 ∷ 7 ∷ []) (pos 7 ∷ pos 7 ∷ []) 7 7 7

abbrev fresh : (clocks : ℕ) → Run
fresh clocks = record { at = replicate 8 0; timers = replicate clocks 0; world = (run [] [] [] 0 1 0).world }

abbrev refused_table : List ℕ
refused_table = edited_clocks ((290, 0) ∷ [])

abbrev translated : List ℕ → (room : ℕ) → List ℤ
translated s room = let o = translate s (replicate room 7) in numbered (λ n. n) o.answer ∷ map pos o.lent

abbrev calls : List (List ℤ × List ℤ)
calls =
    -- a cycle takes the turns that are left: from position 1, 2 (with and without the event), 3
    (cycled 0 (before 1 1), shown (pos 0) (run (2 ∷ 5 ∷ []) (1 ∷ 1 ∷ []) [] 0 1 2))
    ∷ (cycled 0 (past 2), shown (pos 0) (run (2 ∷ 5 ∷ []) (1 ∷ 1 ∷ []) [] 0 1 2))
    ∷ (cycled 0 (before 2 1), shown (pos 0) (run (1 ∷ 4 ∷ []) (2 ∷ 2 ∷ []) [] 0 1 2))
    ∷ (cycled 0 (past 3), shown (pos 0) (run (2 ∷ 4 ∷ []) (1 ∷ 2 ∷ []) [] 0 1 2))
    -- 12 on a cycle; 13 at n + 1, and on a cycle from 2 and from n + 1; 14 on a cycle, and the last cycle
    ∷ (cycled 0 (past 4), shown (negsuc 11) (past 4))
    ∷ (turned chart_sets raising 1 (past 3), shown (negsuc 12) (past 3))
    ∷ (cycled 1 (past 2), shown (negsuc 12) (past 2))
    ∷ (cycled 1 (past 3), shown (negsuc 12) (past 3))
    ∷ (cycled 0 (before 1 1_000_000), shown (negsuc 13) (before 1 1_000_000))
    ∷ (cycled 0 (before 1 999_999), shown (pos 0) (run (2 ∷ 5 ∷ []) (1 ∷ 1 ∷ []) [] 0 1 1_000_000))
    -- a refused file in start, turn, cycle and translation
    ∷ (done (start_call chart_sets (waiting 49) odd), shown (negsuc 8) odd)
    ∷ (turned chart_sets (waiting 49) 0 (fresh 8), shown (negsuc 8) (fresh 8))
    ∷ (done (cycle_call chart_sets (waiting 49) 0 (fresh 8)), shown (negsuc 8) (fresh 8))
    ∷ (done (start_call automata_tables refused_table odd), shown (negsuc 10) odd)
    ∷ (turned automata_tables refused_table 0 (fresh 384), shown (negsuc 10) (fresh 384))
    ∷ (done (cycle_call automata_tables refused_table 0 (fresh 384)), shown (negsuc 10) (fresh 384))
    ∷ (translated (waiting 49) 3, negsuc 8 ∷ replicate 3 (pos 7))
    ∷ (translated (waiting 49) 320, negsuc 8 ∷ replicate 320 (pos 7))
    -- a start: second part, second variable, both formats
    ∷ (done (start_call chart_sets alternating odd), shown (pos 0) (run (0 ∷ 1 ∷ []) [] (pos 1 ∷ negsuc 2 ∷ []) 0 1 0))
    ∷ (done (start_call automata_tables (twin_bytes alternating) odd), shown (pos 0) (run (0 ∷ 1 ∷ []) [] (pos 1 ∷ negsuc 2 ∷ []) 0 1 0))
    ∷ []

call_rows : Agree calls
unfolding PathBack AutomataFile
call_rows = (refl, (refl, (refl, (refl, (refl, (refl, (refl, (refl, (refl, (refl, (refl, (refl, (refl, (refl, (refl, (refl, (refl, (refl, (refl, (refl, tt))))))))))))))))))))

-- ---- 12

abbrev turn : List ℕ → Run → ℤ
turn s r = numbered answer_code (turn_call chart_sets s 0 r).answer

-- a possible run of `timing`, with other places
abbrev places : (at timers : List ℕ) (vars : List ℤ) → Run
places at timers vars = record { at = at; timers = timers; world = record { vars = vars; events = 0; position = 1; cycles = 2 } }

abbrev ats : List ℕ
ats = padded 8 0 (1 ∷ 4 ∷ [])

-- `paired` in state 1 with these variables
abbrev holding : List ℤ → ℤ
holding vars = turn (paired 0 9 65436) (run (1 ∷ []) [] vars 0 1 0)

-- the twin of `alternating` in locations 2 and 3, with these clocks and with this second variable
abbrev twin_run : List ℕ → ℤ → Run
twin_run clocks v = record { at = padded 8 0 (2 ∷ 3 ∷ []); timers = padded 384 0 clocks; world = (run [] [] (pos 1 ∷ v ∷ []) 0 1 0).world }

abbrev twin_turn : List ℕ → ℤ → ℤ
twin_turn clocks v = numbered answer_code (turn_call automata_tables (twin_bytes alternating) 0 (twin_run clocks v)).answer

abbrev checks : List (ℤ × ℤ)
checks =
    (turn timing (places ats (replicate 8 0) (replicate 64 (pos 0))), pos 65534)
    -- the second chart's state is of the first, or none; the first chart's age
    ∷ (turn timing (places (set ats 1 1) (replicate 8 0) (replicate 64 (pos 0))), negsuc 11)
    ∷ (turn timing (places (set ats 1 9) (replicate 8 0) (replicate 64 (pos 0))), negsuc 11)
    ∷ (turn timing (places ats (set (replicate 8 0) 0 3) (replicate 64 (pos 0))), negsuc 11)
    -- the last unused state, age, variable
    ∷ (turn timing (places (set ats 7 1) (replicate 8 0) (replicate 64 (pos 0))), negsuc 11)
    ∷ (turn timing (places ats (set (replicate 8 0) 7 1) (replicate 64 (pos 0))), negsuc 11)
    ∷ (turn timing (places ats (replicate 8 0) (set (replicate 64 (pos 0)) 63 (negsuc 0))), negsuc 11)
    -- a place too few, a place too many
    ∷ (turn timing (places ats (replicate 7 0) (replicate 64 (pos 0))), negsuc 11)
    ∷ (turn timing (places ats (replicate 8 0) (replicate 63 (pos 0))), negsuc 11)
    ∷ (turn timing (places (ats ++ (0 ∷ [])) (replicate 8 0) (replicate 64 (pos 0))), negsuc 11)
    ∷ (turn timing (places ats (replicate 9 0) (replicate 64 (pos 0))), negsuc 11)
    ∷ (turn timing (places ats (replicate 8 0) (replicate 65 (pos 0))), negsuc 11)
    -- the second variable at its ends and past them
    ∷ (holding (pos 1 ∷ negsuc 2 ∷ []), pos 1)
    ∷ (holding (pos 1 ∷ negsuc 99 ∷ []), negsuc 16)
    ∷ (holding (pos 1 ∷ negsuc 100 ∷ []), negsuc 11)
    ∷ (holding (pos 1 ∷ pos 0 ∷ []), negsuc 11)
    -- clocks at their tops and over them, after and every; the last unused one; the second variable
    ∷ (twin_turn (5 ∷ 36_000 ∷ []) (negsuc 0), pos 3)
    ∷ (twin_turn (6 ∷ 36_000 ∷ []) (negsuc 0), negsuc 11)
    ∷ (twin_turn (5 ∷ 36_001 ∷ []) (negsuc 0), negsuc 11)
    ∷ (twin_turn (replicate 383 0 ++ (1 ∷ [])) (negsuc 0), negsuc 11)
    ∷ (twin_turn [] (negsuc 9), pos 6)
    ∷ (twin_turn [] (negsuc 10), negsuc 11)
    ∷ (twin_turn [] (pos 0), negsuc 11)
    ∷ []

check-rows : Agree checks
unfolding PathBack AutomataFile
check-rows = (refl, (refl, (refl, (refl, (refl, (refl, (refl, (refl, (refl, (refl, (refl, (refl, (refl, (refl, (refl, (refl, (refl, (refl, (refl, (refl, (refl, (refl, (refl, tt)))))))))))))))))))))))

-- ---- after: state 2 of `waiting` is left after its milliseconds

abbrev aged : (ms age : ℕ) → ℤ
aged ms age = turn (waiting ms) (run (2 ∷ []) (age ∷ []) [] 0 1 36_000)

abbrev dues : List (ℤ × ℤ)
dues =
    (aged 300 2, pos 65534)
    ∷ (aged 300 3, pos 2)
    ∷ (aged 300 4, pos 2)
    ∷ (aged 300 36_000, pos 2)
    -- exact halves: 2 ticks and 4
    ∷ (aged 250 1, pos 65534)
    ∷ (aged 250 2, pos 2)
    ∷ (aged 350 3, pos 65534)
    ∷ (aged 350 4, pos 2)
    ∷ []

due-rows : Agree dues
unfolding PathBack AutomataFile
due-rows = (refl, (refl, (refl, (refl, (refl, (refl, (refl, (refl, tt))))))))

-- ---- rounding: the ticks of a time, and those of the clock that the twin of `waiting` has for it

abbrev twin_ticks : (ms : ℕ) → List ℕ
twin_ticks ms = map (λ c. c.ticks) (read_automata (twin_bytes (waiting ms))).clocks

abbrev rounded : List (List ℕ × List ℕ)
rounded =
    (ticks 50 ∷ [], 0 ∷ [])
    ∷ (ticks 51 ∷ twin_ticks 51, 1 ∷ 1 ∷ [])
    ∷ (ticks 149 ∷ twin_ticks 149, 1 ∷ 1 ∷ [])
    ∷ (ticks 150 ∷ twin_ticks 150, 2 ∷ 2 ∷ [])
    ∷ (ticks 249 ∷ twin_ticks 249, 2 ∷ 2 ∷ [])
    ∷ (ticks 250 ∷ twin_ticks 250, 2 ∷ 2 ∷ [])
    ∷ (ticks 251 ∷ twin_ticks 251, 3 ∷ 3 ∷ [])
    ∷ (ticks 350 ∷ twin_ticks 350, 4 ∷ 4 ∷ [])
    ∷ (ticks 3_599_950 ∷ twin_ticks 3_599_950, 36_000 ∷ 36_000 ∷ [])
    ∷ (ticks 3_600_000 ∷ twin_ticks 3_600_000, 36_000 ∷ 36_000 ∷ [])
    ∷ []

tick-rows : Agree rounded
unfolding Translation
tick-rows = (refl, (refl, (refl, (refl, (refl, (refl, (refl, (refl, (refl, (refl, tt))))))))))

-- ---- 20: the path's 1,000,000 cycles

-- a path of the zero-watch set, from the end of a cycle on
abbrev back_from : (cycles : ℕ) → List ℕ → ℤ
back_from cycles path = numbered length (led_back (read_charts zero_watch) path (record { locations = 1 ∷ []; position = 2; cycles = cycles }))

abbrev paths : List (ℤ × ℤ)
paths =
    (back_from 999_998 (65535 ∷ 2 ∷ 65535 ∷ []), pos 1)
    ∷ (back_from 999_998 (65535 ∷ 2 ∷ 65535 ∷ 2 ∷ []), negsuc 19)
    ∷ (back_from 1_000_000 (65535 ∷ []), negsuc 19)
    ∷ []

path-rows : Agree paths
unfolding PathBack
path-rows = (refl, (refl, (refl, tt)))
