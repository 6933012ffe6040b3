-- The marked examples of document 01, as the requests of document 02 changed them, as one table, each row what the definitions give and what the paper says, and
-- one theorem. Assumes nothing.
use mathlib.Core.Path.{refl}
use mathlib.Core.List.{List, [], ◌∷◌, ◌++◌, map}
use Prim.Native.Nat.{ℕ}
use lib.ListN.{replicate}
use lib.IntN.{ℤ, pos, negsuc}
use Rattle.records.specs.Refusal.{Out, val, fault}
use Rattle.records.specs.Bytes.{two±}
use Rattle.expressions.specs.Nodes.{node_at}
use Rattle.expressions.specs.Values.{number}
use Rattle.model.specs.Charts.{ticks}
use Rattle.model.specs.Translation.{translate, Translation}
use Rattle.model.specs.Calls.{chart_sets, check, start_call, turn_call, numbered, answer_code}
use Rattle.model.specs.Replay.{replay, Replay}
use Rattle.records.proofs.Tables.{Agree}
use Rattle.expressions.proofs.ExampleNodes.{constant, binary}
use Rattle.examples.proofs.ExampleSets.{ascii, input_of, blank, zero_watch, waiting, held_back, assigning}

abbrev numbers : List ℕ → List ℤ
numbers ns = map pos ns

abbrev lines : List ℕ → List ℕ → List ℤ
lines s masks = numbers (replay s (input_of masks)).text

abbrev translated : ℕ → List ℤ
translated room = numbered (λ n. n) (translate zero_watch (replicate room 7)).answer ∷ []

abbrev value : Out ℤ → List ℤ
value (val z) = z ∷ []
value (fault w) = []

-- what the definitions give, and what the paper says
abbrev table : List (List ℤ × List ℤ)
table =
    (lines zero_watch (0 ∷ 1 ∷ 1 ∷ 2 ∷ 0 ∷ []), numbers (ascii "0 0 0 1 1\n1 0 2 1 -1\n2 0 1 2 -1\n3 0 3 1 1\n4 0 - 1 1\n"))
    ∷ (translated 480, pos 480 ∷ [])
    ∷ (translated 479, negsuc 9 ∷ [])
    ∷ (two± (0xfd ∷ 0xff ∷ []) 0 ∷ [], negsuc 2 ∷ [])
    -- request 3: 250, 350, 150 and 50 ms are exact halves
    ∷ (numbers (map ticks (250 ∷ 350 ∷ 150 ∷ 50 ∷ 249 ∷ 251 ∷ [])), numbers (2 ∷ 4 ∷ 2 ∷ 0 ∷ 2 ∷ 3 ∷ []))
    ∷ (numbered (λ _. 0) (check chart_sets (waiting 49)) ∷ [], negsuc 8 ∷ [])
    ∷ (numbered (λ _. 0) (check chart_sets (waiting 50)) ∷ [], negsuc 8 ∷ [])
    ∷ (
      lines (waiting 300) (0 ∷ 0 ∷ 0 ∷ 0 ∷ 1 ∷ 0 ∷ 0 ∷ 0 ∷ 0 ∷ []),
      numbers (ascii "0 0 0 1\n1 0 - 1\n2 0 - 1\n3 0 - 1\n4 0 1 2\n5 0 - 2\n6 0 - 2\n7 0 2 3\n8 0 - 3\n"),
    )
    -- request 2: a guard false at age 3 and true at age 4 fires in cycle 8
    ∷ (
      lines held_back (0 ∷ 0 ∷ 0 ∷ 0 ∷ 1 ∷ 0 ∷ 0 ∷ 2 ∷ 0 ∷ []),
      numbers
          (ascii
          "0 0 0 1 0\n0 1 3 5 0\n1 0 - 1 0\n1 1 - 5 0\n2 0 - 1 0\n2 1 - 5 0\n3 0 - 1 0\n3 1 - 5 0\n4 0 1 2 0\n4 1 - 5 0\n5 0 - 2 0\n5 1 - 5 0\n6 0 - 2 0\n6 1 - 5 0\n7 0 - 2 0\n7 1 4 5 1\n8 0 2 3 1\n8 1 - 5 1\n"),
    )
    ∷ (value (number (node_at (constant 0xffff_fffd ++ constant 2 ++ binary 6 0 1)) [] 2), negsuc 0 ∷ [])
    ∷ (numbered answer_code (turn_call chart_sets (assigning 0xffff_fffe) 0 (start_call chart_sets (assigning 0xffff_fffe) blank).lent).answer ∷ [], negsuc 16 ∷ [])
    ∷ []

marked : Agree table
unfolding Replay Translation
marked = (refl, (refl, (refl, (refl, (refl, (refl, (refl, (refl, (refl, (refl, (refl, tt)))))))))))
