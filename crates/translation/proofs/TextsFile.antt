-- The twin's file, from its parts: sections one after the other, and those that belong to edges by the transitions and then the states' idling. Assumes nothing.
use mathlib.Core.Path.{◌≡◌, refl, sym, ap, ◌∙◌}
use mathlib.Core.List.{List, [], ◌∷◌, ◌++◌, map, append_assoc, append-nil}
use Prim.Native.Nat.{ℕ, ◌≤◌, ◌<◌}
use native.Mathlib.Nat.{zero-add}
use native.Mathlib.Omega.{arith}
use borrow.Author.Tests.{lt-ltb, le-ltb}
use lib.ListN.{length, drop}
use lib.Seq.{sets, sets-eq}
use Rattle.prelude.specs.Lists.{gather, upto}
use Rattle.records.specs.Bytes.{bytes2}
use Rattle.expressions.specs.Nodes.{write_node}
use Rattle.records.specs.Refusal.{val, fault, short_buffer, fault_if, ◌>>◌}
use Rattle.model.specs.ChartSet.{ChartSet, waits}
use Rattle.prelude.specs.Owned.{by_owner}
use Rattle.model.specs.AutomataTable.{Automata, write_edge, write_literal, write_clock, write_variable, write_update, write_reset, sections, write_automata}
use Rattle.model.specs.Translation.{Origin, from_transition, from_waiting, from_idling, transition_count, state_count, idle_origins, origins, origin_of, edge_number, by_edge, written}
use Rattle.model.proofs.TranslationOrigins.{origin_of-edge_number, by-origin}
use Rattle.prelude.proofs.Maps.{gather-map}
use Rattle.twin_records.specs.Texts.{record_text, section, edge_texts, places_text, tests_text, effects_text}
use Rattle.twin_records.proofs.TextsSections.{gathered-text}
use Rattle.prelude.proofs.Lists.{gather_append}
use Rattle.prelude.proofs.Counts.{is-table}
use Rattle.prelude.proofs.Gathered.{gather_none, gather-one, gather-gather, gather-empty, gather-below}

-- ---- one section after the other

all-sections : (xs : List (ℕ × List (List ℕ))) → gather (λ r. r) (gather (λ x. map (record_text x.0) x.1) xs) ≡ gather (λ x. section x.0 x.1) xs
all-sections xs =
    gather-gather (λ r. r) (λ (x : ℕ × List (List ℕ)). map (record_text x.0) x.1) xs ∙ (λ i. gather (λ x. gather-map (record_text x.0) (λ r. r) x.1 i) xs)

-- nine texts, in three parts
nine : (a b c d e f g h i : List ℕ) → (a ++ b ++ c) ++ (d ++ e ++ f ++ g) ++ (h ++ i) ≡ a ++ (b ++ (c ++ (d ++ (e ++ (f ++ (g ++ (h ++ (i ++ []))))))))
nine a b c d e f g h i = simp (append_assoc, append-nil)

pub file-text : (au : Automata) → places_text au ++ tests_text au ++ effects_text au ≡ write_automata au
unfolding gather
file-text au =
    nine (section 33 (map (λ i. 0 ∷ bytes2 i) au.initial)) (section 34 (map (λ h. h ∷ []) au.homes)) (section 35 (map write_edge au.edges))
    (section 36 (map write_literal au.literals)) (section 37 (map write_clock au.clocks)) (section 38 (map write_variable au.variables)) (section 39 (map write_node au.nodes))
    (section 40 (map write_update au.updates)) (section 41 (map write_reset au.resets))
    ∙ sym (all-sections (sections au))

-- ---- what belongs to edges

module _ (cs : ChartSet) {A : Type 0} (kind : ℕ) (body : ℕ × A → List ℕ) where
  by-owner-text : (n : ℕ) (f : ℕ → List A) → section kind (map body (by_owner n f)) ≡ gather (λ e. edge_texts kind body e (f e)) (upto n)
  by-owner-text n f =
      gathered-text kind body (λ k. map (λ x. (k, x)) (f k)) (upto n)
      ∙ (λ i. gather (λ k. (gather-map body (record_text kind) (map (λ x. (k, x)) (f k)) ∙ gather-map (λ x. (k, x)) (λ y. record_text kind (body y)) (f k)) i) (upto n))

  -- what an origin's edge has
  abbrev origin_text : (Origin → List A) → Origin → List ℕ
  origin_text f o = edge_texts kind body (edge_number cs o) (f o)

  -- one origin after the other
  origins-text : (f : Origin → List A) → section kind (map body (by_edge cs f)) ≡ gather (origin_text f) (origins cs)
  origins-text f =
      by-owner-text (length (origins cs)) (λ e. f (origin_of cs e))
      ∙ gather-below (λ e. edge_texts kind body e (f (origin_of cs e))) (λ e. origin_text f (origin_of cs e)) (length (origins cs))
      (λ e h. ap (λ n. edge_texts kind body n (f (origin_of cs e))) (sym (number-back e h)))
      ∙ sym (gather-map (origin_of cs) (origin_text f) (upto (length (origins cs))))
      ∙ ap (gather (origin_text f)) (sym (is-table (origin_of cs) (from_idling 0) (length (origins cs)) (origins cs) refl (λ e h. refl)))
    where
      number-back : (e : ℕ) → e < length (origins cs) → edge_number cs (origin_of cs e) ≡ e
      number-back = by-origin cs (λ e. edge_number cs (origin_of cs e) ≡ e) (λ o h. ap (edge_number cs) (origin_of-edge_number cs o h))

  -- of the transitions, then of the states' idling
  pub by_edge-text : (f : Origin → List A) →
      section kind (map body (by_edge cs f)) ≡ gather (λ t. origin_text f (from_transition t)) (upto (transition_count cs)) ++ gather (λ st. gather (origin_text f) (idle_origins cs st)) (upto (state_count cs))
  by_edge-text f =
      origins-text f
      ∙ gather_append (origin_text f) (map from_transition (upto (transition_count cs))) (gather (idle_origins cs) (upto (state_count cs)))
      ∙ (λ i. gather-map from_transition (origin_text f) (upto (transition_count cs)) i ++ gather-gather (origin_text f) (idle_origins cs) (upto (state_count cs)) i)

  -- where the idling has none
  pub transitions-text : (f : Origin → List A) → ((z : ℕ) → f (from_waiting z) ≡ []) → ((z : ℕ) → f (from_idling z) ≡ []) →
      section kind (map body (by_edge cs f)) ≡ gather (λ t. origin_text f (from_transition t)) (upto (transition_count cs))
  transitions-text f wait idle =
      by_edge-text f
      ∙ ap (λ l. gather (λ t. origin_text f (from_transition t)) (upto (transition_count cs)) ++ l)
      (gather-below (λ st. gather (origin_text f) (idle_origins cs st)) (λ st. []) (state_count cs) (λ st h. none st) ∙ gather-empty (upto (state_count cs)))
      ∙ append-nil (gather (λ t. origin_text f (from_transition t)) (upto (transition_count cs)))
    where
      nothing : (o : Origin) → f o ≡ [] → origin_text f o ≡ []
      nothing o e = ap (edge_texts kind body (edge_number cs o)) e ∙ gather_none (λ (x : A). record_text kind (body (edge_number cs o, x)))

      none : (st : ℕ) → gather (origin_text f) (idle_origins cs st) ≡ []
      none st =
          gather_append (origin_text f) (map (λ _. from_waiting st) (waits cs st)) (from_idling st ∷ [])
          ∙ (λ i. (gather-map (λ _. from_waiting st) (origin_text f) (waits cs st) ∙ (λ j. gather (λ (_ : ℕ). nothing (from_waiting st) (wait st) j) (waits cs st)) ∙ gather-empty (waits cs st)) i
          ++ (gather-one (origin_text f) (from_idling st) ∙ nothing (from_idling st) (idle st)) i)

-- ---- the answer

module _ (text buffer : List ℕ) where
  pub too_short : length buffer < length text → written text buffer ≡ fault short_buffer
  too_short h = ap (λ b. fault_if b short_buffer >> val (length text, text ++ drop (length text) buffer)) (lt-ltb (length buffer) (length text) h)

  pub long-enough : length text ≤ length buffer → written text buffer ≡ val (length text, text ++ drop (length text) buffer)
  long-enough h = ap (λ b. fault_if b short_buffer >> val (length text, text ++ drop (length text) buffer)) (le-ltb (length buffer) (length text) h)

  -- what is written from the start on, and the buffer's own bytes beyond
  pub from_start : length text ≤ length buffer → sets buffer 0 text ≡ text ++ drop (length text) buffer
  from_start h = sets-eq text buffer 0 (omega arith) ∙ ap (λ n. text ++ drop n buffer) (zero-add (length text))
