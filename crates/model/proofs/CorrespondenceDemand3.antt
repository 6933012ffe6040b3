-- Demand 3, from its parts: what was translated is the twin's file, the twin's file says what the translation is and is not refused, and the set and
-- such a file move alike. Assumes nothing.
use mathlib.Core.Path.{◌≡◌, refl, sym, ap, subst}
use mathlib.Core.Option.{Option, some, none}
use mathlib.Core.Bool.{Bool, true, false}
use mathlib.Core.List.{List, ◌++◌}
use Prim.Native.Nat.{ℕ}
use native.Mathlib.Omega.{arith}
use lib.Dec.{ltb}
use lib.ListN.{length, take, drop}
use lib.Seq.{take_at}
use Rattle.records.specs.Refusal.{Refusal, short_buffer, Out, val, fault, ◌>>◌, fault_if, unless_refused}
use Rattle.model.specs.Outcome.{settled}
use Rattle.model.specs.Runs.{Run, Call, start}
use Rattle.model.specs.ChartSet.{read_charts}
use Rattle.model.specs.Charts.{charts}
use Rattle.model.specs.ChartFile.{charts_refusal}
use Rattle.model.specs.AutomataTable.{read_automata}
use Rattle.model.specs.Automata.{automata}
use Rattle.model.specs.AutomataFile.{automata_refusal}
use Rattle.model.specs.Translation.{twin, twin_bytes, written, translate}
use Rattle.model.specs.Calls.{chart_sets, automata_tables, start_call}
use Rattle.model.specs.Correspondence.{MoveAlike, Demand₃}
use Rattle.model.proofs.CorrespondenceCalls.{move_alike-twin}
use Rattle.model.proofs.TranslationWritten.{twin-back}
use Rattle.model.proofs.TranslationAccepted.{twin-accepted}

-- a set and a table that is its translation move alike
abbrev pub MovesAlike : Type 0
MovesAlike =
    (s : List ℕ) → charts_refusal s ≡ none → (t : List ℕ) → read_automata t ≡ twin (read_charts s) → automata_refusal t ≡ none → (calls : List Call) →
    MoveAlike s t calls (start (charts (read_charts s))) (start (automata (read_automata t)))

-- ---- what was translated

-- a file written into a buffer, where nothing refused it: the answer is its length, and it stands first
written_out : (bs buffer : List ℕ) (o : Option Refusal) (n : ℕ) (out : List ℕ) →
    settled buffer (unless_refused o (written bs buffer)) ≡ record { answer = val n; lent = out } → (o ≡ none) × (take n out ≡ bs)
written_out bs buffer (some w) n out e =
    let a : ◌≡◌ {A = Out ℕ} (fault w) (val n) = ap (λ x. x.answer) e in
    let z : ◌≡◌ {A = ℕ} 0 1 = cc in absurd (omega arith)
written_out bs buffer none n out e = (refl, go (ltb (length buffer) (length bs)) e)
  where
    go : (b : Bool) → settled buffer (fault_if b short_buffer >> val (length bs, bs ++ drop (length bs) buffer)) ≡ record { answer = val n; lent = out } → take n out ≡ bs
    go true e =
        let a : ◌≡◌ {A = Out ℕ} (fault short_buffer) (val n) = ap (λ x. x.answer) e in
        let z : ◌≡◌ {A = ℕ} 0 1 = cc in absurd (omega arith)
    go false e =
        let a : ◌≡◌ {A = Out ℕ} (val (length bs)) (val n) = ap (λ x. x.answer) e in
        let m : length bs ≡ n = cc in
        let l : bs ++ drop (length bs) buffer ≡ out = ap (λ x. x.lent) e in
        subst (λ x. take n x ≡ bs) l (take_at bs (drop (length bs) buffer) n m)

pub translated : (s buffer : List ℕ) (n : ℕ) (out : List ℕ) → translate s buffer ≡ record { answer = val n; lent = out } →
    (charts_refusal s ≡ none) × (take n out ≡ twin_bytes s)
translated s buffer n out e = written_out (twin_bytes s) buffer (charts_refusal s) n out e

-- ---- demand 3

-- of any file t that says what the translation is and is not refused
module _ (alike : MovesAlike) (s t : List ℕ) (ok : charts_refusal s ≡ none) (back : read_automata t ≡ twin (read_charts s)) (accepted : automata_refusal t ≡ none) where
  pub both-start : (calls : List Call) (r q : Run) →
      ((start_call chart_sets s r).answer ≡ val tt)
      × ((start_call automata_tables t q).answer ≡ val tt)
      × MoveAlike s t calls (start_call chart_sets s r).lent (start_call automata_tables t q).lent
  both-start calls r q = (
    ap (λ o. (settled r (unless_refused o (val (tt {0}, start (charts (read_charts s)))))).answer) ok,
    ap (λ o. (settled q (unless_refused o (val (tt {0}, start (automata (read_automata t)))))).answer) accepted,
    subst (λ o. MoveAlike s t calls (settled r (unless_refused o (val (tt {0}, start (charts (read_charts s)))))).lent (start_call automata_tables t q).lent) (sym ok)
        (subst (λ o. MoveAlike s t calls (start (charts (read_charts s))) (settled q (unless_refused o (val (tt {0}, start (automata (read_automata t)))))).lent) (sym accepted)
        (alike s ok t back accepted calls)),
  )

-- and so of what was translated
pub demand-3-from : MovesAlike → Demand₃
demand-3-from alike s buffer bytes n out e calls r q =
    let h : (charts_refusal s ≡ none) × (take n out ≡ twin_bytes s) = translated s buffer n out e in
    both-start alike s (take n out) h.0
    (subst (λ t. read_automata t ≡ twin (read_charts s)) (sym h.1) (twin-back s bytes h.0))
    (subst (λ t. automata_refusal t ≡ none) (sym h.1) (twin-accepted s bytes h.0))
    calls r q

-- Demand 3: of any bytes that are translated, both files start, and any list of calls moves them alike.
pub demand-3 : Demand₃
demand-3 = demand-3-from move_alike-twin
