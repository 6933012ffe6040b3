-- What a program prints that reads its input four bytes at a time, and the replay of any machine. Assumes nothing: these are definitions.
use Rattle.std.proofs.Math.Option.{none}
use Rattle.std.specs.Prelude.{cond, List, [], ◌∷◌, ℕ, zero, suc, ltb, length, drop}
use Rattle.records.specs.Bytes.{four}
use Rattle.model.specs.Runs.{Run, Machine, start, whole_cycle, trace, ended}
use Rattle.model.specs.AutomataTable.{read_automata}
use Rattle.model.specs.Automata.{automata}
use Rattle.model.specs.AutomataFile.{automata_refusal}
use Rattle.model.specs.Replay.{Replayed, next, masks, unless_ended}
use Rattle.lines.specs.Text.{trace_text}

abbrev pub nothing : Replayed
nothing = record { text = []; end = none }

-- At most so many turns of a loop. A turn takes four bytes for a mask, plays its cycle from the run that the last one left, and prints its lines; the loop
-- ends where fewer than four are left and where a cycle does not end well.
unfoldable pub looped : Machine → ℕ → List ℕ → Run → Replayed
looped m zero input r = nothing
looped m (suc k) input r =
    let t = trace m (whole_cycle (four input 0)) r in
    cond (ltb (length input) 4) nothing (next (trace_text m t) (ended r t) (looped m k (drop 4 input)))

-- a cycle for each mask, as the model's `replayed` has it of chart sets
unfoldable pub played : Machine → List ℕ → Run → Replayed
played m [] r = nothing
played m (mask ∷ rest) r =
    let t = trace m (whole_cycle mask) r in
    next (trace_text m t) (ended r t) (played m rest)

-- the replay of a table of automata: the file's refusal comes first, with no line
abbrev pub twin_replay : List ℕ → List ℕ → Replayed
twin_replay s input = unless_ended (automata_refusal s) (played (automata (read_automata s)) (masks input) (start (automata (read_automata s))))
