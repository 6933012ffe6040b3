-- What a set's translation brings to a comparison: the twin's file is its translation's, and any calls move both alike. Assumes nothing.
use mathlib.Core.Path.{◌≡◌, sym, ap, ◌∙◌, subst}
use mathlib.Core.Bool.{Bool, true, false}
use mathlib.Core.Option.{Option, some, none}
use mathlib.Core.List.{List, [], ◌∷◌, ◌++◌}
use Prim.Native.Nat.{ℕ, suc, ◌+◌, ◌≤◌, ◌<◌}
use native.Mathlib.Numerals.{add-one}
use native.Mathlib.Omega.{arith}
use borrow.Author.Tests.{lt-ltb}
use lib.Dec.{T, ltb}
use Rattle.prelude.proofs.Bools.{of-true, both_of}
use lib.ListN.{length, get_or, drop, drop_of_length-le}
use lib.Seq.{drop-cons}
use Rattle.prelude.specs.Lists.{all, map_from}
use Rattle.std.specs.Prelude.{Result}
use Rattle.records.specs.declared.refusals.Refusal as of-code
use Rattle.records.specs.Refusal.{Refusal, short_buffer, Out, val, fault, ◌>>◌, fault_if, unless_refused}
use Rattle.model.specs.Outcome.{settled}
use Rattle.model.specs.Runs.{Run, Call, start}
use Rattle.model.specs.ChartSet.{read_charts}
use Rattle.model.specs.Charts.{charts}
use Rattle.model.specs.ChartFile.{charts_refusal}
use Rattle.model.specs.AutomataTable.{read_automata}
use Rattle.model.specs.Automata.{automata}
use Rattle.model.specs.AutomataFile.{automata_refusal}
use Rattle.model.specs.Translation.{twin, twin_bytes, written, translate}
use Rattle.model.specs.Calls.{Format}
use Rattle.model.specs.Correspondence.{MoveAlike, lent_after, after_calls}
use Rattle.model.proofs.CorrespondenceCalls.{move_alike-twin}
use Rattle.model.proofs.TranslationWritten.{twin-back}
use Rattle.model.proofs.TranslationAccepted.{twin-accepted}
use Rattle.automata_records.specs.declared.Shape.{Shape}
use Rattle.automata_records.proofs.PlacesRead.{length-initial}
use Rattle.automata_records.specs.Accepted.{Accepted}
use Rattle.translation.specs.Answer.{translated_of}
use Rattle.alike.specs.Alike.{call_for, is_turn}
use Rattle.twins.specs.Compared.{calls_from}
use Rattle.twins.proofs.Matched.{moved_to}

-- a slice of bytes
pub bytes_of : (s : List ℕ) → ((k : ℕ) → get_or s k 0 < 256) → T (all (λ b. ltb b 256) s)
unfolding all
bytes_of [] f = tt
bytes_of (b ∷ s) f = both_of (ltb b 256) (all (λ x. ltb x 256) s) (of-true (lt-ltb b 256 (f 0))) (bytes_of s (λ k. f (suc k)))

-- as many automata as charts
pub charts-are : (s t : List ℕ) (sh : Shape) → Accepted t sh → read_automata t ≡ twin (read_charts s) → length (read_charts s).initial ≡ sh.automata
charts-are s t sh ok back = ap (λ x. length x.initial) (sym back) ∙ length-initial t sh ok.shape

-- fresh runs
pub fresh-alike : (s t : List ℕ) → charts_refusal s ≡ none → automata_refusal t ≡ none → read_automata t ≡ twin (read_charts s) → {r q : Run} →
    r ≡ start (charts (read_charts s)) → q ≡ start (automata (read_automata t)) → (calls : List Call) → MoveAlike s t calls r q
fresh-alike s t ok accepted back e d calls = moved_to s t calls (sym e) (sym d) (move_alike-twin s ok t back accepted calls)

-- the twin's file says what the translation is, and is not refused
pub twin-reads : (s t : List ℕ) → T (all (λ b. ltb b 256) s) → charts_refusal s ≡ none → t ≡ twin_bytes s → read_automata t ≡ twin (read_charts s)
twin-reads s t bytes ok e = subst (λ z. read_automata z ≡ twin (read_charts s)) (sym e) (twin-back s bytes ok)

pub twin-unrefused : (s t : List ℕ) → T (all (λ b. ltb b 256) s) → charts_refusal s ≡ none → t ≡ twin_bytes s → automata_refusal t ≡ none
twin-unrefused s t bytes ok e = subst (λ z. automata_refusal z ≡ none) (sym e) (twin-accepted s bytes ok)

pub not-both : {X : Type 0} {o : Option Refusal} {w : Refusal} → o ≡ none → o ≡ some w → X
not-both {o = o} {w = w} e d = let a : ◌≡◌ {A = Option Refusal} none (some w) = sym e ∙ d in let z : ◌≡◌ {A = ℕ} 0 1 = cc in absurd (omega arith)

-- of an accepted set
pub translated-is : (s buffer : List ℕ) (x : Result ℕ of-code.Refusal) (out : List ℕ) → charts_refusal s ≡ none → translated_of x out ≡ settled buffer (written (twin_bytes s) buffer) → translated_of x out ≡ translate s buffer
translated-is s buffer x out ok e = e ∙ sym (ap (λ o. settled buffer (unless_refused o (written (twin_bytes s) buffer))) ok)

-- what was written is as long as was answered
pub written-length : (bs buffer : List ℕ) (n : ℕ) (out : List ℕ) → record { answer = val n; lent = out } ≡ settled buffer (written bs buffer) → n ≡ length bs
written-length bs buffer n out = go (ltb (length buffer) (length bs))
  where
    go : (b : Bool) → record { answer = val n; lent = out } ≡ settled buffer (fault_if b short_buffer >> val (length bs, bs ++ drop (length bs) buffer)) → n ≡ length bs
    go true e =
        let a : ◌≡◌ {A = Out ℕ} (val n) (fault short_buffer) = ap (λ x. x.answer) e in
        let z : ◌≡◌ {A = ℕ} 0 1 = cc in absurd (omega arith)
    go false e = let a : ◌≡◌ {A = Out ℕ} (val n) (val (length bs)) = ap (λ x. x.answer) e in let m : n ≡ length bs = cc in m

-- ---- the runs that the calls leave

module _ (f : Format) (s kinds masks : List ℕ) where
  -- the calls from number k on lead from a run to where all of them lead from the fresh one
  abbrev pub LeadsOn : ℕ → Run → Type 0
  LeadsOn k r = after_calls f s (calls_from k kinds (drop k masks)) r ≡ after_calls f s (calls_from 0 kinds masks) (start (f.machine s))

  pub leads-first : {r : Run} → r ≡ start (f.machine s) → LeadsOn 0 r
  leads-first e = ap (after_calls f s (calls_from 0 kinds masks)) e

  pub leads-next : (k : ℕ) (r : Run) {q : Run} {turn : Bool} → k < length masks → turn ≡ is_turn kinds k → q ≡ lent_after f s (call_for turn (get_or masks k 0)) r → LeadsOn k r → LeadsOn (k + 1) q
  unfolding map_from after_calls
  leads-next k r h d e so_far =
      (λ i. after_calls f s (calls_from (add-one k i) kinds (drop (add-one k i) masks)) ((e ∙ ap (λ b. lent_after f s (call_for b (get_or masks k 0)) r) d) i))
      ∙ sym (ap (λ l. after_calls f s (calls_from k kinds l) r) (drop-cons masks k 0 h))
      ∙ so_far

  pub leads-last : (k : ℕ) {r : Run} → length masks ≤ k → LeadsOn k r → r ≡ after_calls f s (calls_from 0 kinds masks) (start (f.machine s))
  unfolding map_from after_calls
  leads-last k {r} h so_far = sym (ap (λ l. after_calls f s (calls_from k kinds l) r) (drop_of_length-le masks h)) ∙ so_far
