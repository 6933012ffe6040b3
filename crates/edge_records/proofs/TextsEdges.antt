-- What belongs to edges: the must-nots of a state by priority, the clocks of the transitions that leave it. Assumes nothing.
use mathlib.Core.Path.{◌≡◌, refl, sym, ap, ◌∙◌}
use mathlib.Core.Logic.{inl, inr}
use mathlib.Core.Bool.{false, cond}
use mathlib.Core.List.{List, [], ◌∷◌, ◌++◌, map, append-nil}
use Prim.Native.Nat.{ℕ, ◌+◌, ◌-◌, ◌≤◌, ◌<◌}
use native.Mathlib.Omega.{arith}
use lib.Dec.{eqb}
use lib.ListN.{length, get_or, length-append, length-map}
use borrow.Author.Tests.{eq-eqb}
use Rattle.prelude.specs.Lists.{gather, keep, count, from, upto, case_of}
use Rattle.prelude.proofs.Counts.{length-keep}
use Rattle.model.specs.ChartSet.{ChartSet, transition}
use Rattle.model.specs.AutomataTable.{Literal, write_reset, write_literal}
use Rattle.model.specs.Translation.{from_transition, transition_count, clocks_of, clock_of, literal, tried_before, clocks_leaving}
use Rattle.prelude.proofs.Maps.{gather-map, gather-keep}
use Rattle.model.specs.ChartSet.{read_charts}
use Rattle.prelude.specs.Owned.{of}
use Rattle.model.specs.Runs.{Action}
use Rattle.model.specs.AutomataTable.{write_update}
use Rattle.model.specs.Translation.{updates_of}
use Rattle.chart_records.specs.declared.Shape.{Shape}
use Rattle.chart_records.specs.Places.{transition_at, action_at}
use Rattle.chart_records.proofs.PlacesRead.{transition-is, length-transitions, most-states, most-transitions}
use Rattle.chart_records.specs.Accepted.{Accepted}
use Rattle.chart_steps.specs.Tables.{leaves, named, HasRows, keyed}
use Rattle.machines.specs.Chains.{head_or, earliest, with_key, Chained}
use Rattle.machines.proofs.ChainsEarliest.{keep-alike}
use Rattle.chart_steps.proofs.TablesRow.{source_at, place_of}
use Rattle.chart_steps.proofs.StepOf.{unnamed}
use Rattle.chart_steps.proofs.TablesActions.{of-key}
use Rattle.chart_steps.proofs.Accepted.{source_known, target-known}
use Rattle.twin_records.specs.Texts.{record_text, literal_texts, update_texts, reset_texts}
use Rattle.twin_records.specs.Tables.{source_of, HasLeaving}
use Rattle.prelude.proofs.Lists.{gather_append}
use Rattle.prelude.proofs.Gathered.{gather-gather, gather-empty, gather-shift, gather-alike, gather-below, from-append}

module _ (cs : ChartSet) (e st : ℕ) where
  -- the must-nots of one priority
  abbrev pub nots_text : ℕ → List ℕ
  nots_text q = literal_texts e (map (literal cs false) (keep (leaves cs st q) (upto (length cs.transitions))))

  pub nots-text : (n : ℕ) → gather (λ j. nots_text (j + 1)) (upto n) ≡ literal_texts e (map (literal cs false) (tried_before cs st (n + 1)))
  nots-text n =
      gather-below (λ j. nots_text (j + 1)) (λ j. nots_text (1 + j)) n (λ j h. ap nots_text (let q : j + 1 ≡ 1 + j = omega arith in q))
      ∙ sym (gather-shift nots_text 1 0 n)
      ∙ (λ i. gather (λ q. gather-map (literal cs false) text (keep (leaves cs st q) (upto (length cs.transitions))) i) (from 1 n))
      ∙ sym (gather-gather (λ u. text (literal cs false u)) (λ q. keep (leaves cs st q) (upto (length cs.transitions))) (from 1 n))
      ∙ ap (λ k. gather (λ u. text (literal cs false u)) (gather (λ q. keep (leaves cs st q) (upto (length cs.transitions))) (from 1 k))) (let q : n ≡ n + 1 - 1 = omega arith in q)
      ∙ sym (gather-map (literal cs false) text (tried_before cs st (n + 1)))
    where
      text : Literal → List ℕ
      text l = record_text 36 (write_literal (e, l))

  -- the clocks of one transition
  abbrev pub clock_resets : ℕ → List ℕ
  clock_resets t = reset_texts e (map (λ _. clock_of cs t) (clocks_of (transition cs t).trigger))

  pub resets-text : gather clock_resets (keep (with_key (source_of cs) st) (upto (transition_count cs))) ≡ reset_texts e (clocks_leaving cs st)
  resets-text =
      sym (gather-gather (λ k. record_text 41 (write_reset (e, k))) (λ t. map (λ _. clock_of cs t) (clocks_of (transition cs t).trigger)) (keep (with_key (source_of cs) st) (upto (transition_count cs))))
      ∙ ap (reset_texts e) (gather-keep (with_key (source_of cs) st) (λ t. map (λ _. clock_of cs t) (clocks_of (transition cs t).trigger)) (upto (transition_count cs)))

-- ---- the tables of an accepted file

module _ (s : List ℕ) (sh : Shape) (ok : Accepted s sh) where
  abbrev transitions : ℕ
  transitions = sh.transitions

  abbrev few : length (read_charts s).transitions ≡ transitions
  few = length-transitions s sh ok.shape

  same_first : (st k n : ℕ) → k + n ≤ transitions → earliest (with_key (source_at s sh) st) k n ≡ earliest (with_key (source_of (read_charts s)) st) k n
  same_first st k n h =
      ap (head_or 65535)
      (keep-alike (with_key (source_at s sh) st) (with_key (source_of (read_charts s)) st) k n
      (λ i a b. let m : i < transitions = omega arith in ap (λ x. eqb x.source st) (sym (transition-is s sh ok.shape i m))))

  pub leaving-are : (first next : List ℕ) → Chained (source_at s sh) 128 transitions first next → HasLeaving (read_charts s) first next
  leaving-are first next c = record {
    first_of = λ st h. c.first_of st h ∙ same_first st 0 transitions (omega arith) ∙ ap (earliest (with_key (source_of (read_charts s)) st) 0) (sym few);
    next_of = λ t h l.
        let m : t < transitions = omega (arith, few) in
        let e : source_of (read_charts s) t ≡ source_at s sh t = ap (λ x. x.source) (transition-is s sh ok.shape t m) in
        c.next_of t m (omega arith)
        ∙ same_first (source_at s sh t) (t + 1) (transitions - (t + 1)) (omega arith)
        ∙ (λ i. earliest (with_key (source_of (read_charts s)) (sym e i)) (t + 1) (sym few i - (t + 1)));
  }

  -- ---- a row's end: no must-nots behind it

  module _ (rows : List (List ℕ)) (has : HasRows (read_charts s) rows) (st end : ℕ) (h : st < sh.states) (most : end ≤ 16) (none : (j : ℕ) → end ≤ j → j < 16 → get_or (get_or rows st []) j 0 ≡ 256) where
    abbrev ranked : ℕ → List ℕ
    ranked q = keep (leaves (read_charts s) st q) (upto (length (read_charts s).transitions))

    behind : (q : ℕ) → 1 + end ≤ q → q < 17 → ranked q ≡ []
    behind q a b =
        place_of s sh ok st q h
        ∙ ap (λ p. named (earliest (leaves (read_charts s) st p) 0 (length (read_charts s).transitions))) (let e : q ≡ q - 1 + 1 = omega arith in e)
        ∙ ap named (unnamed s sh ok st (q - 1 + 1) (sym (has st (q - 1) (omega (arith, most-states s sh ok.shape)) (omega arith)) ∙ none (q - 1) (omega arith) (omega arith)))
        ∙ ap (λ x. cond x [] (65535 ∷ [])) (eq-eqb 65535 65535 refl)

    pub above-end : tried_before (read_charts s) st (end + 1) ≡ tried_before (read_charts s) st 17
    above-end =
        ap (λ k. gather ranked (from 1 k)) (let e : end + 1 - 1 ≡ end = omega arith in e)
        ∙ sym (append-nil (gather ranked (from 1 end)))
        ∙ ap (λ l. gather ranked (from 1 end) ++ l)
        (sym (gather-alike ranked (λ q. []) (1 + end) (16 - end) (λ q a b. behind q a (omega arith)) ∙ gather-empty (from (1 + end) (16 - end))))
        ∙ sym (gather_append ranked (from 1 end) (from (1 + end) (16 - end)))
        ∙ ap (gather ranked) (sym (from-append 1 end (16 - end)) ∙ ap (from 1) (let e : end + (16 - end) ≡ 16 = omega arith in e))

  -- ---- the actions of a transition's edge, by their keys

  abbrev pub actions_of : ℕ → List Action
  actions_of key = map (λ a. (action_at s sh a).1) (keep (keyed s sh key) (upto sh.actions))

  abbrev keyed_count : ℕ → ℕ
  keyed_count key = count (keyed s sh key) (upto sh.actions)

  actions-count : (key : ℕ) → length (actions_of key) ≡ keyed_count key
  actions-count key = length-map (keep (keyed s sh key) (upto sh.actions)) (λ a. (action_at s sh a).1) ∙ length-keep (keyed s sh key) (upto sh.actions)

  module _ (t source target : ℕ) (h : t < sh.transitions) (e : source ≡ (transition_at s sh t).source) (d : target ≡ (transition_at s sh t).target) where
    pub updates-are : actions_of (128 + source) ++ actions_of (256 + t) ++ actions_of target ≡ updates_of (read_charts s) (from_transition t)
    unfolding case_of
    updates-are =
        let same = transition-is s sh ok.shape t h in
        let source-small : source < 128 = omega (arith, source_known s sh ok t h, most-states s sh ok.shape) in
        let target_small : target < 128 = omega (arith, target-known s sh ok t h, most-states s sh ok.shape) in
        let small : t < 256 = omega (arith, most-transitions s sh ok.shape) in
        let exits : actions_of (128 + source) ≡ of (transition (read_charts s) t).source (read_charts s).exits =
        sym (of-key s sh ok 2 source (inr (inl (refl, source-small)))) ∙ ap (λ o. of o (read_charts s).exits) (e ∙ ap (λ x. x.source) (sym same)) in
        let own : actions_of (256 + t) ≡ of t (read_charts s).transition_actions = sym (of-key s sh ok 3 t (inr (inr (inl (refl, small))))) in
        let entries : actions_of target ≡ of (transition (read_charts s) t).target (read_charts s).entries =
        sym (of-key s sh ok 1 target (inl (refl, target_small))) ∙ ap (λ o. of o (read_charts s).entries) (d ∙ ap (λ x. x.target) (sym same)) in
        λ i. exits i ++ own i ++ entries i

    pub updates-text : update_texts t (actions_of (128 + source)) ++ update_texts t (actions_of (256 + t)) ++ update_texts t (actions_of target) ≡ update_texts t (updates_of (read_charts s) (from_transition t))
    updates-text =
        sym
        (gather_append text (actions_of (128 + source) ++ actions_of (256 + t)) (actions_of target)
        ∙ ap (λ l. l ++ update_texts t (actions_of target)) (gather_append text (actions_of (128 + source)) (actions_of (256 + t))))
        ∙ ap (update_texts t) updates-are
      where
        text : Action → List ℕ
        text x = record_text 40 (write_update (t, x))

    pub updates-count : length (updates_of (read_charts s) (from_transition t)) ≡ keyed_count (128 + source) + keyed_count (256 + t) + keyed_count target
    updates-count =
        ap length (sym updates-are)
        ∙ length-append (actions_of (128 + source) ++ actions_of (256 + t)) (actions_of target)
        ∙ ap (λ n. n + length (actions_of target)) (length-append (actions_of (128 + source)) (actions_of (256 + t)))
        ∙ (λ i. actions-count (128 + source) i + actions-count (256 + t) i + actions-count target i)
