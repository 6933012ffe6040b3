-- Examples of a chart's turn and of cycles, from bytes, for the rules that demand 3 cannot see. Assumes nothing.
use mathlib.Core.Path.{◌≡◌, refl}
use mathlib.Core.List.{List, [], ◌∷◌}
use Prim.Native.Nat.{ℕ}
use lib.IntN.{ℤ, pos, negsuc}
use Rattle.model.specs.Runs.{Run}
use Rattle.model.specs.Calls.{chart_sets, start_call, turn_call, cycle_call, numbered, answer_code}
use Rattle.model.specs.Replay.{Replay}
use Rattle.records.proofs.Tables.{Agree}
use Rattle.examples.proofs.ExampleSets.{blank, assigning, grouped, raising, timing, dividing, overstepping}
use Rattle.examples.proofs.ExampleFiles.{printed, lines}

abbrev replays : List (List ℕ × List ℕ)
replays =
    -- the smaller priority goes first, whatever the file's order; exit, transition, entry
    (printed grouped (0 ∷ 16 ∷ 0 ∷ []), lines 0 "0 0 0 1 1\n1 0 2 1 2\n2 0 1 2 27\n")
    -- an event raised twice is that event, for later charts of the same cycle alone
    ∷ (printed raising (0 ∷ 0 ∷ 0 ∷ []), lines 0 "0 0 0 1\n0 1 2 4\n1 0 1 2\n1 1 3 5\n2 0 - 2\n2 1 - 5\n")
    -- every holds at multiples; milliseconds have four bytes
    ∷ (
      printed timing (0 ∷ 0 ∷ 0 ∷ 0 ∷ 0 ∷ 0 ∷ 0 ∷ 0 ∷ []),
      lines 0
          "0 0 0 1 0\n0 1 3 4 0\n1 0 - 1 0\n1 1 4 4 1\n2 0 - 1 1\n2 1 4 4 2\n3 0 - 1 2\n3 1 4 4 3\n4 0 1 2 3\n4 1 4 4 4\n5 0 - 2 4\n5 1 4 4 5\n6 0 - 2 5\n6 1 4 4 6\n7 0 - 2 6\n7 1 4 4 7\n",
    )
    -- the guard is read only if the trigger holds; the replay stops at a fault
    ∷ (printed dividing (0 ∷ 2 ∷ 1 ∷ 0 ∷ []), lines 16 "0 0 0 1 0\n1 0 - 1 0\n")
    -- the lines of turns done before a fault in the same cycle stand
    ∷ (printed overstepping (0 ∷ 0 ∷ []), lines 17 "0 0 0 1 5\n")
    ∷ []

replay-examples : Agree replays
unfolding Replay
replay-examples = (refl, (refl, (refl, (refl, (refl, tt)))))

-- ---- answers, and the run afterwards

abbrev fresh : List ℕ → Run
fresh s = (start_call chart_sets s blank).lent

abbrev turn_of : List ℕ → Run → ℤ
turn_of s r = numbered answer_code (turn_call chart_sets s 0 r).answer

abbrev answers : List (ℤ × ℤ)
answers =
    -- "lowest ≤ value ≤ highest", both ends
    (turn_of (assigning 5) (fresh (assigning 5)), pos 0)
    ∷ (turn_of (assigning 6) (fresh (assigning 6)), negsuc 16)
    ∷ (turn_of (assigning 0xffff_ffff) (fresh (assigning 0xffff_ffff)), pos 0)
    -- a cycle is done, or faults
    ∷ (numbered (λ _. 0) (cycle_call chart_sets timing 0 (fresh timing)).answer, pos 0)
    ∷ (numbered (λ _. 0) (cycle_call chart_sets overstepping 0 (fresh overstepping)).answer, negsuc 16)
    ∷ []

answer-examples : Agree answers
unfolding Replay
answer-examples = (refl, (refl, (refl, (refl, (refl, tt)))))

-- a cycle that faults in its second turn leaves the run as before the call; its first turn alone does not
cycle-atomic : (cycle_call chart_sets overstepping 0 (fresh overstepping)).lent ≡ fresh overstepping
unfolding Replay
cycle-atomic = refl

first-turn : (turn_call chart_sets overstepping 0 (fresh overstepping)).lent.world.position ≡ 2
unfolding Replay
first-turn = refl
