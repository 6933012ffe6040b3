-- What the edges of a state's idling have: where it waits those of the due edge, then those of the other. Assumes nothing.
use mathlib.Core.Path.{◌≡◌, refl, sym, ap, ◌∙◌}
use mathlib.Core.Logic.{inr}
use mathlib.Core.Bool.{Bool, true, false}
use mathlib.Core.List.{List, [], ◌∷◌, ◌++◌, map, append-nil}
use Prim.Native.Nat.{ℕ, ◌+◌, ◌<◌}
use native.Mathlib.Nat.{add-zero}
use lib.ListN.{length}
use Rattle.prelude.specs.Lists.{gather, case_of}
use Rattle.prelude.proofs.Lists.{gather_append}
use Rattle.prelude.proofs.Gathered.{gather_none, gather-one, gather-cons}
use Rattle.model.specs.Runs.{Action}
use Rattle.model.specs.ChartSet.{ChartSet, read_charts, waits}
use Rattle.model.specs.AutomataTable.{Literal, write_literal, write_update}
use Rattle.model.specs.Translation.{Origin, from_waiting, from_idling, idle_origins, first_idle, must_nots, waiting_literal}
use Rattle.chart_records.specs.declared.Shape.{Shape}
use Rattle.chart_records.specs.Accepted.{Accepted}
use Rattle.chart_steps.proofs.TablesActions.{of-key}
use Rattle.twin_records.specs.Texts.{record_text, literal_texts, update_texts, literals_text, updates_text}
use Rattle.edge_records.proofs.TextsEdges.{actions_of}

module _ (cs : ChartSet) (st : ℕ) where
  -- what origins have, by the waiting times
  pub alone : {A : Type 0} (f : Origin → List A) → waits cs st ≡ [] → f (from_idling st) ≡ gather f (idle_origins cs st)
  alone f w = sym (gather-one f (from_idling st)) ∙ ap (λ l. gather f (map (λ _. from_waiting st) l ++ (from_idling st ∷ []))) (sym w)

  pub both : {A : Type 0} (f : Origin → List A) (ms : ℕ) → waits cs st ≡ ms ∷ [] → f (from_waiting st) ++ f (from_idling st) ≡ gather f (idle_origins cs st)
  both f ms w =
      ap (λ l. f (from_waiting st) ++ l) (sym (gather-one f (from_idling st)))
      ∙ sym (gather-cons f (from_waiting st) (from_idling st ∷ []))
      ∙ ap (λ l. gather f (map (λ _. from_waiting st) l ++ (from_idling st ∷ []))) (sym w)

  -- ---- literals

  abbrev text : ℕ → Literal → List ℕ
  text e l = record_text 36 (write_literal (e, l))

  -- those of the idling, by the waiting times
  abbrev idling_text : List ℕ → List ℕ
  idling_text l = literal_texts (first_idle cs st + length l) (must_nots cs st ++ map (λ _. waiting_literal cs false st) l)

  pub not-waiting-text : waits cs st ≡ [] → literal_texts (first_idle cs st) (must_nots cs st) ≡ gather (literals_text cs) (idle_origins cs st)
  not-waiting-text w =
      (λ i. literal_texts (sym (add-zero (first_idle cs st)) i) (sym (append-nil (must_nots cs st)) i)) ∙ ap idling_text (sym w) ∙ alone (literals_text cs) w

  -- the must-nots, then the clock
  abbrev pub with_clock : ℕ → Bool → List ℕ
  with_clock e must = literal_texts e (must_nots cs st) ++ text e (waiting_literal cs must st)

  clock-text : (e : ℕ) (must : Bool) → with_clock e must ≡ literal_texts e (must_nots cs st ++ (waiting_literal cs must st ∷ []))
  clock-text e must =
      ap (λ l. literal_texts e (must_nots cs st) ++ l) (sym (gather-one (text e) (waiting_literal cs must st))) ∙ sym (gather_append (text e) (must_nots cs st) (waiting_literal cs must st ∷ []))

  pub waiting-text : (ms : ℕ) → waits cs st ≡ ms ∷ [] → with_clock (first_idle cs st) true ++ with_clock (first_idle cs st + 1) false ≡ gather (literals_text cs) (idle_origins cs st)
  waiting-text ms w =
      (λ i. clock-text (first_idle cs st) true i ++ (clock-text (first_idle cs st + 1) false ∙ ap idling_text (sym w)) i) ∙ both (literals_text cs) ms w

  -- ---- updates

  no-updates : [] ≡ updates_text cs (from_idling st)
  no-updates = sym (gather_none (λ (x : Action). record_text 40 (write_update (first_idle cs st + length (waits cs st), x))))

  pub no-due-text : waits cs st ≡ [] → [] ≡ gather (updates_text cs) (idle_origins cs st)
  no-due-text w = no-updates ∙ alone (updates_text cs) w

  due-alone : (ms : ℕ) → waits cs st ≡ ms ∷ [] → updates_text cs (from_waiting st) ≡ gather (updates_text cs) (idle_origins cs st)
  due-alone ms w = sym (append-nil (updates_text cs (from_waiting st))) ∙ ap (λ l. updates_text cs (from_waiting st) ++ l) no-updates ∙ both (updates_text cs) ms w

-- a state's waiting actions by their key
pub due-text : (s : List ℕ) (sh : Shape) (ok : Accepted s sh) (st : ℕ) → st < 128 → (ms : ℕ) → waits (read_charts s) st ≡ ms ∷ [] →
    update_texts (first_idle (read_charts s) st) (actions_of s sh ok (512 + st)) ≡ gather (updates_text (read_charts s)) (idle_origins (read_charts s) st)
unfolding case_of
due-text s sh ok st h ms w =
    ap (update_texts (first_idle (read_charts s) st)) (sym (of-key s sh ok 4 st (inr (inr (inr (refl, h)))))) ∙ due-alone (read_charts s) st ms w
