-- Lines of the zero-watch set and of its twin, as the README has them, and of what neither has. Assumes nothing.
use mathlib.Core.Path.{refl}
use mathlib.Core.List.{List, [], ◌∷◌}
use Prim.Native.Nat.{ℕ}
use Rattle.prelude.specs.Lists.{padded}
use Rattle.records.proofs.Tables.{Agree}
use Rattle.model.specs.Replay.{Replay}
use Rattle.examples.proofs.ExampleSets.{zero_watch}
use Rattle.lines.specs.Ascii.{ascii}
use Rattle.guards.specs.Texts.{text_of}
use Rattle.guards.specs.Lists.{GuardLists}
use Rattle.listing.specs.Listing.{line_text, guard_text, nodes_of, listed, guard_listed}

-- the line of the i-th of its kind, of a record's first bytes, with the set's nodes, which its twin has too
line : ℕ → List ℕ → List ℕ
line i bytes = line_text (nodes_of zero_watch) i (padded 16 0 bytes)

alone : ℕ → List ℕ → List ℕ
alone i bytes = guard_text (nodes_of zero_watch) i (padded 16 0 bytes)

abbrev rows : List (List ℕ × List ℕ)
rows =
    (listed zero_watch 0, ascii "chart 0: initial state 0\n")
    ∷ (listed zero_watch 3, ascii "state 2: chart 0\n")
    ∷ (listed zero_watch 5, ascii "transition 1: state 1 to state 2, priority 1, always, guard node 2 (v0<0)\n")
    ∷ (listed zero_watch 6, ascii "transition 2: state 1 to state 1, priority 2, event 0, no guard\n")
    ∷ (guard_listed zero_watch 5, ascii "transition 1: guard node 2: v0<0\n")
    ∷ (guard_listed zero_watch 6, [])
    ∷ (listed zero_watch 8, ascii "variable 0: -100 to 100, start 1\n")
    ∷ (listed zero_watch 11, ascii "node 2: node 0 < node 1\n")
    ∷ (listed zero_watch 14, ascii "node 5: node 3 - node 4\n")
    ∷ (listed zero_watch 17, ascii "action 1: transition 3: variable 0 := node 6\n")
    ∷ (line 0 (3 ∷ 16 ∷ 44 ∷ 1 ∷ 3 ∷ 0 ∷ 2 ∷ 0 ∷ 128 ∷ 238 ∷ 54 ∷ 0 ∷ 255 ∷ 255 ∷ []), ascii "transition 0: state 300 to state 3, priority 16, after 3600000 ms, no guard\n")
    ∷ (line 7 (5 ∷ 1 ∷ 0 ∷ 0 ∷ 0 ∷ 0 ∷ 0 ∷ 0 ∷ 0 ∷ 0 ∷ 0 ∷ 128 ∷ []), ascii "node 7: constant -2147483648\n")
    ∷ (line 8 (5 ∷ 8 ∷ 1 ∷ 0 ∷ 2 ∷ 0 ∷ 3 ∷ 0 ∷ []), ascii "node 8: node 1 ? node 2 : node 3\n")
    ∷ (line 2 (6 ∷ 2 ∷ 9 ∷ 0 ∷ 2 ∷ 31 ∷ []), ascii "action 2: exit of state 9: raise event 31\n")
    ∷ (line 3 (6 ∷ 1 ∷ 9 ∷ 0 ∷ 2 ∷ 31 ∷ 0 ∷ 0 ∷ 3 ∷ []), ascii "action 3: entry of state 9: raise event 31, guard node 2 (v0<0)\n")
    ∷ (line 3 (6 ∷ 4 ∷ 2 ∷ 0 ∷ 1 ∷ 0 ∷ 6 ∷ 0 ∷ 0 ∷ 0 ∷ 0 ∷ 0 ∷ 200 ∷ []), ascii "action 3: waiting in state 2, every 200 ms: variable 0 := node 6\n")
    ∷ (line 4 (6 ∷ 4 ∷ 2 ∷ 0 ∷ 2 ∷ 31 ∷ 0 ∷ 0 ∷ 3 ∷ 0 ∷ 0 ∷ 0 ∷ 128 ∷ 238 ∷ 54 ∷ []), ascii "action 4: waiting in state 2, every 3600000 ms: raise event 31, guard node 2 (v0<0)\n")
    ∷ (line 0 (33 ∷ 0 ∷ 0 ∷ 0 ∷ []), ascii "automaton 0: initial location 0\n")
    ∷ (line 2 (34 ∷ 0 ∷ []), ascii "location 2: automaton 0\n")
    ∷ (line 4 (35 ∷ 0 ∷ 0 ∷ 0 ∷ 0 ∷ 0 ∷ 1 ∷ []), ascii "edge 4: automaton 0, location 0 to location 0, idle\n")
    ∷ (line 2 (36 ∷ 2 ∷ 2 ∷ 0 ∷ 0 ∷ 0 ∷ 0 ∷ 0 ∷ 2 ∷ 0 ∷ []), ascii "literal 2: edge 2 must not: always, guard node 2 (v0<0)\n")
    ∷ (line 3 (36 ∷ 1 ∷ 2 ∷ 0 ∷ 2 ∷ 0 ∷ 1 ∷ 1 ∷ 255 ∷ 255 ∷ []), ascii "literal 3: edge 2 must hold: clock 257, no guard\n")
    ∷ (line 0 (37 ∷ 3 ∷ 5 ∷ 0 ∷ []), ascii "clock 0: every 5 ticks\n")
    ∷ (line 1 (40 ∷ 1 ∷ 3 ∷ 0 ∷ 0 ∷ 0 ∷ 6 ∷ 0 ∷ []), ascii "update 1: edge 3: variable 0 := node 6\n")
    ∷ (line 2 (40 ∷ 1 ∷ 3 ∷ 0 ∷ 0 ∷ 0 ∷ 6 ∷ 0 ∷ 3 ∷ []), ascii "update 2: edge 3: variable 0 := node 6, guard node 2 (v0<0)\n")
    ∷ (alone 3 (6 ∷ 1 ∷ 9 ∷ 0 ∷ 2 ∷ 31 ∷ 0 ∷ 0 ∷ 3 ∷ []), ascii "action 3: guard node 2: v0<0\n")
    ∷ (alone 2 (36 ∷ 2 ∷ 2 ∷ 0 ∷ 0 ∷ 0 ∷ 0 ∷ 0 ∷ 2 ∷ 0 ∷ []), ascii "literal 2: guard node 2: v0<0\n")
    ∷ (alone 2 (40 ∷ 1 ∷ 3 ∷ 0 ∷ 0 ∷ 0 ∷ 6 ∷ 0 ∷ 3 ∷ []), ascii "update 2: guard node 2: v0<0\n")
    ∷ (line 0 (41 ∷ 0 ∷ 3 ∷ 0 ∷ 1 ∷ 0 ∷ []), ascii "reset 0: edge 3: clock 1\n")
    ∷ []

listing-examples : Agree rows
unfolding Replay text_of GuardLists line alone
listing-examples = (refl, (refl, (refl, (refl, (refl, (refl, (refl, (refl, (refl, (refl, (refl, (refl, (refl, (refl, (refl, (refl, (refl, (refl, (refl, (refl, (refl, (refl, (refl, (refl, (refl, (refl, (refl, (refl, (refl, tt)))))))))))))))))))))))))))))
