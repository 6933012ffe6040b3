-- The path that calls on a set's translation take, led back, gives the rows of the same calls on the set. Assumes nothing.
use mathlib.Core.Path.{◌≡◌, sym, ap, ◌∙◌, subst}
use mathlib.Core.Option.{none}
use mathlib.Core.List.{List}
use Prim.Native.Nat.{ℕ}
use lib.Dec.{T, ltb}
use lib.ListN.{take}
use Rattle.prelude.specs.Lists.{all}
use Rattle.records.specs.Refusal.{val, unless_refused}
use Rattle.model.specs.Outcome.{settled}
use Rattle.model.specs.Runs.{Run, Call, start}
use Rattle.model.specs.AutomataFile.{automata_refusal}
use Rattle.model.specs.AutomataTable.{read_automata}
use Rattle.model.specs.Automata.{automata}
use Rattle.model.specs.Translation.{translate}
use Rattle.model.specs.PathBack.{rows_written, path_back}
use Rattle.model.specs.Calls.{Format, chart_sets, automata_tables, start_call}
use Rattle.model.specs.TakenPath.{taken_path, taken_rows}
use Rattle.model.proofs.CorrespondenceDemand3.{translated}
use Rattle.model.proofs.TranslationAccepted.{twin-accepted}
use Rattle.model.proofs.TakenPathTwin.{twin_path-path_back}

-- a start on a file that is not refused leaves the fresh run
started : (f : Format) (s : List ℕ) (r : Run) → f.refusal s ≡ none → (start_call f s r).lent ≡ start (f.machine s)
started f s r ok = ap (λ o. (settled r (unless_refused o (val (tt {0}, start (f.machine s))))).lent) ok

-- Of any bytes that are translated, n bytes of the buffer being the twin, and of any turns and cycles from the starts on: the path of the twin's calls, led
-- back with the set, gives the rows of the set's calls, if they have room.
pub path-led-back : (s buffer : List ℕ) → T (all (λ b. ltb b 256) s) → (n : ℕ) (out : List ℕ) → translate s buffer ≡ record { answer = val n; lent = out } →
    (calls : List Call) (r q : Run) (words : List ℕ) →
    path_back s (taken_path (take n out) calls (start_call automata_tables (take n out) q).lent) words
    ≡ settled words (rows_written (taken_rows s calls (start_call chart_sets s r).lent) words)
path-led-back s buffer bytes n out e calls r q words =
    let h = translated s buffer n out e in
    let accepted : automata_refusal (take n out) ≡ none = subst (λ u. automata_refusal u ≡ none) (sym h.1) (twin-accepted s bytes h.0) in
    ap (λ z. path_back s (taken_path (take n out) calls z) words) (started automata_tables (take n out) q accepted)
    ∙ ap (λ u. path_back s (taken_path u calls (start (automata (read_automata u)))) words) h.1
    ∙ twin_path-path_back s bytes h.0 calls words
    ∙ ap (λ z. settled words (rows_written (taken_rows s calls z) words)) (sym (started chart_sets s r h.0))
