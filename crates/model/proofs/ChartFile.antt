-- What holds of a chart set that is not refused: amounts, codes, names, structure and nodes, each as a fact of its own. Assumes nothing.
use mathlib.Core.Path.{◌≡◌, refl, sym, ◌∙◌, subst}
use mathlib.Core.Option.{some, none}
use mathlib.Core.Bool.{Bool, true, false, not, cond, ◌&&◌, ◌||◌}
use mathlib.Core.List.{List, [], ◌∷◌, ◌++◌, map}
use Prim.Native.Nat.{ℕ, suc, ◌+◌, ◌≤◌, ◌<◌}
use native.Mathlib.Omega.{arith}
use lib.Dec.{T, leb, ltb, eqb, leb→le, ltb→lt, eqb→eq, nltb→le}
use lib.ListN.{length, get_or, length-map}
use lib.Signed.{le_z}
use Rattle.model.specs.Limits.{most_transitions}
use Rattle.prelude.specs.Lists.{keep, all, any, count, case_of, map_from, from, upto, mem}
use Rattle.records.specs.Refusal.{Refusal, odd_length, lowest}
use Rattle.records.specs.Bytes.{byte, two, four, records, kind, of_kind}
use Rattle.framing.specs.Framing.{how_many}
use Rattle.framing.proofs.Framed.{length-of_kind}
use Rattle.expressions.specs.Nodes as N
use Rattle.expressions.specs.Nodes.{Node, node_of, read_node}
use Rattle.expressions.specs.Sorts.{sort_of, is_number, is_truth, nodes_named, operands_fit}
use Rattle.model.specs.Owned.{home}
use Rattle.model.specs.Runs.{Variable, Deed, assign, raise}
use Rattle.model.specs.ChartSet.{Trigger, always, event, after, every, Transition, ChartSet, read_charts, read_transition, read_variable, read_deed, read_action, of_place, read_actions, transition, no_transition}
use Rattle.model.specs.ChartFile.{chart_limits, chart_tests, charts_refusal, in_code, transition_in_code, variable_in_code, node_in_code, action_in_code, deed_in_code, between, is_event, is_duration, guard_named, actions_named, all_named, inside_charts, initial_fits, priorities_differ, at_most_eight, structured, leaving_state, unconditional, guards, assigned, uses, nodes_fit, ticking, all_ticking}
use Rattle.model.specs.Charts.{ticks}
use Rattle.prelude.proofs.Bools.{and_left, and_right, both_of, not-not, or_right, is_false, of-true, eqb_comm, eqb-ne, is_true}
use Rattle.prelude.proofs.Lists.{all_get_d, all-get_or-or, any-off, all-kept, all-mapped, all_keep, all-imp, mem-from, mem-left, mem-right, upto_all}

-- ---- tests in a row, none of which applies

pub lowest-none : (xs : List (Refusal × Bool)) → lowest xs ≡ none → T (all (λ x. not x.1) xs)
unfolding lowest all
lowest-none [] e = tt
lowest-none (x ∷ xs) e = go x.1 e (lowest-none xs)
  where
    go : (b : Bool) → cond b (some x.0) (lowest xs) ≡ none → (lowest xs ≡ none → T (all (λ x. not x.1) xs)) → T (not b && all (λ x. not x.1) xs)
    go true e ih = let z : ◌≡◌ {A = ℕ} 0 1 = cc in absurd (omega arith)
    go false e ih = ih e

pub or_off : (a b : Bool) → T (not (a || b)) → T (not a) × T (not b)
or_off true b t = absurd t
or_off false b t = (tt, t)

-- tests that all passed, one by one
pub three-of : (a b c : Bool) → T (a && b && c) → T a × T b × T c
three-of true true true t = (tt, tt, tt)
three-of true true false t = absurd t
three-of true false c t = absurd t
three-of false b c t = absurd t

pub four-of : (a b c d : Bool) → T (a && b && c && d) → T a × T b × T c × T d
four-of a b c d t = let h : T a × T b × T c = three-of a b c (and_left (a && b && c) d t) in (h.0, h.1, h.2, and_right (a && b && c) d t)

pub five-of : (a b c d e : Bool) → T (a && b && c && d && e) → T a × T b × T c × T d × T e
five-of a b c d e t =
    let h : T a × T b × T c × T d = four-of a b c d (and_left (a && b && c && d) e t) in
    (h.0, h.1, h.2, h.3, and_right (a && b && c && d) e t)

pub seven-of : (a b c d e f g : Bool) → T (a && b && c && d && e && f && g) → T a × T b × T c × T d × T e × T f × T g
seven-of a b c d e f g t =
    let u : T (a && b && c && d && e && f) = and_left (a && b && c && d && e && f) g t in
    let h : T a × T b × T c × T d × T e = five-of a b c d e (and_left (a && b && c && d && e) f u) in
    (h.0, h.1, h.2, h.3, h.4, and_right (a && b && c && d && e) f u, and_right (a && b && c && d && e && f) g t)

eight-of : (a b c d e f g h : Bool) → T (a && b && c && d && e && f && g && h) → T a × T b × T c × T d × T e × T f × T g × T h
eight-of a b c d e f g h t =
    let u : T a × T b × T c × T d × T e × T f × T g = seven-of a b c d e f g (and_left (a && b && c && d && e && f && g) h t) in
    (u.0, u.1, u.2, u.3, u.4, u.5, u.6, and_right (a && b && c && d && e && f && g) h t)

-- ---- codes, of what was read

abbrev pub coded_trigger : Trigger → Bool
coded_trigger always = true
coded_trigger (event e) = is_event e
coded_trigger (after ms) = is_duration ms
coded_trigger (every ms) = is_duration ms

abbrev pub coded_transition : Transition → Bool
coded_transition t = between 1 16 t.priority && coded_trigger t.trigger

abbrev pub ordered : Variable → Bool
ordered v = le_z v.lowest v.start && le_z v.start v.highest

abbrev pub known_node : Node → Bool
known_node (N.constant z) = true
known_node (N.variable v) = true
known_node (N.arithmetic o a b) = true
known_node (N.choice t a b) = true
known_node (N.comparison o a b) = true
known_node (N.negation a) = true
known_node (N.both a b) = true
known_node (N.either a b) = true
known_node N.unknown = false

abbrev pub coded_deed : Deed → Bool
coded_deed (assign v n) = true
coded_deed (raise e) = is_event e

coded-trigger : (n e ms : ℕ) → T (case_of n ((1, is_event e) ∷ (2, is_duration ms) ∷ (3, is_duration ms) ∷ []) true) →
    T (coded_trigger (case_of n ((1, event e) ∷ (2, after ms) ∷ (3, every ms) ∷ []) always))
unfolding case_of
coded-trigger n e ms t = go (eqb n 1) (eqb n 2) (eqb n 3) t
  where
    go : (x y z : Bool) → T (cond x (is_event e) (cond y (is_duration ms) (cond z (is_duration ms) true))) →
        T (coded_trigger (cond x (event e) (cond y (after ms) (cond z (every ms) always))))
    go true y z t = t
    go false true z t = t
    go false false true t = t
    go false false false t = tt

coded-transition : (r : List ℕ) → T (transition_in_code r) → T (coded_transition (read_transition r))
coded-transition r t =
    let h : T (between 1 16 (byte r 1)) × T (leb (byte r 6) 3) × T (case_of (byte r 6) ((1, is_event (byte r 7)) ∷ (2, is_duration (four r 8)) ∷ (3, is_duration (four r 8)) ∷ []) true)
    = three-of (between 1 16 (byte r 1)) (leb (byte r 6) 3) (case_of (byte r 6) ((1, is_event (byte r 7)) ∷ (2, is_duration (four r 8)) ∷ (3, is_duration (four r 8)) ∷ []) true) t in
    both_of (between 1 16 (byte r 1)) (coded_trigger (read_transition r).trigger) h.0 (coded-trigger (byte r 6) (byte r 7) (four r 8) h.2)

-- a code that the table has gives one of the table's entries
case-found : {A : Type 0} (p : A → Bool) (n : ℕ) (xs : List (ℕ × A)) (d : A) → T (all (λ x. p x.1) xs) → T (mem n (map (λ x. x.0) xs)) → T (p (case_of n xs d))
unfolding all case_of mem
case-found p n [] d t m = absurd m
case-found p n (x ∷ xs) d t m = go (eqb n x.0) refl (case-found p n xs d (and_right (p x.1) (all (λ x. p x.1) xs) t))
  where
    go : (b : Bool) → eqb n x.0 ≡ b → (T (mem n (map (λ x. x.0) xs)) → T (p (case_of n xs d))) → T (p (cond b x.1 (case_of n xs d)))
    go true e ih = and_left (p x.1) (all (λ x. p x.1) xs) t
    go false e ih = ih (or_right (eqb x.0 n) (mem n (map (λ x. x.0) xs)) m (eqb_comm x.0 n ∙ e))

coded-node : (r : List ℕ) → T (node_in_code r) → T (known_node (read_node r))
unfolding all from
coded-node r t = case-found known_node (byte r 1) _ N.unknown tt (go (between 1 8 (byte r 1)) refl)
  where
    in_between : (a n : ℕ) → T (between a (a + n) (byte r 1)) → T (mem (byte r 1) (from a (suc n)))
    in_between a n u =
        let l : a ≤ byte r 1 = leb→le a (byte r 1) (and_left (leb a (byte r 1)) (leb (byte r 1) (a + n)) u) in
        let m : byte r 1 ≤ a + n = leb→le (byte r 1) (a + n) (and_right (leb a (byte r 1)) (leb (byte r 1) (a + n)) u) in
        mem-from (byte r 1) a (suc n) l (omega arith)

    go : (b : Bool) → between 1 8 (byte r 1) ≡ b → T (mem (byte r 1) (from 1 8 ++ from 16 6))
    go true e = mem-left (byte r 1) (from 1 8) (from 16 6) (in_between 1 7 (of-true e))
    go false e = mem-right (byte r 1) (from 1 8) (from 16 6) (in_between 16 5 (or_right (between 1 8 (byte r 1)) (between 16 21 (byte r 1)) t e))

coded-deed : (d x n : ℕ) → T (deed_in_code d x) → T (coded_deed (read_deed d x n))
unfolding case_of
coded-deed d x n t = go (eqb d 2) (and_right (between 1 2 d) (case_of d ((2, is_event x) ∷ []) true) t)
  where
    go : (b : Bool) → T (cond b (is_event x) true) → T (coded_deed (cond b (raise x) (assign x n)))
    go true u = u
    go false u = tt

-- ---- an accepted set

-- refusal 6 of a transition
abbrev pub named_transition : ChartSet → Transition → Bool
named_transition cs t = ltb t.source (length cs.homes) && ltb t.target (length cs.homes) && guard_named (length cs.nodes) t.guard

module _ (s : List ℕ) (ok : charts_refusal s ≡ none) where
  abbrev cs : ChartSet
  cs = read_charts s

  off : (k : ℕ) → k < 10 → T (not (get_or (chart_tests s) k (odd_length, false)).1)
  off k h = all_get_d (λ x. not x.1) (chart_tests s) (odd_length, false) k (lowest-none (chart_tests s) ok) h

  -- ---- amounts

  amounts : T (not (eqb (how_many 1 s) 0)) × T (not (any (λ over. over) (map_from 1 (λ k m. ltb m (how_many k s)) chart_limits)))
  amounts = or_off (eqb (how_many 1 s) 0) (any (λ over. over) (map_from 1 (λ k m. ltb m (how_many k s)) chart_limits)) (off 2 (omega arith))

  limit : (m : ℕ) → m < 6 → T (not (get_or (map_from 1 (λ k m. ltb m (how_many k s)) chart_limits) m false))
  unfolding map_from
  limit m h = any-off (λ over. over) (map_from 1 (λ k m. ltb m (how_many k s)) chart_limits) false m amounts.1 h

  pub charts-some : 0 < length cs.initial
  charts-some =
      let e : length cs.initial ≡ how_many 1 s = length-map (of_kind 1 s) (λ r. two r 2) ∙ length-of_kind 1 s in
      let d : how_many 1 s ≡ 0 → ⊥ = eqb-ne (is_false {b = eqb (how_many 1 s) 0} amounts.0) in
      omega arith

  pub charts-few : length cs.initial ≤ 8
  unfolding map_from
  charts-few = rw (length-map (of_kind 1 s) (λ r. two r 2), length-of_kind 1 s) (nltb→le 8 (how_many 1 s) (limit 0 (omega arith)))

  pub states-few : length cs.homes ≤ 128
  unfolding map_from
  states-few = rw (length-map (of_kind 2 s) (λ r. byte r 1), length-of_kind 2 s) (nltb→le 128 (how_many 2 s) (limit 1 (omega arith)))

  pub transitions-few : length cs.transitions ≤ most_transitions
  unfolding map_from
  transitions-few = rw (length-map (of_kind 3 s) read_transition, length-of_kind 3 s) (nltb→le most_transitions (how_many 3 s) (limit 2 (omega arith)))

  pub variables-few : length cs.variables ≤ 64
  unfolding map_from
  variables-few = rw (length-map (of_kind 4 s) read_variable, length-of_kind 4 s) (nltb→le 64 (how_many 4 s) (limit 3 (omega arith)))

  pub nodes-few : length cs.nodes ≤ 1024
  unfolding map_from
  nodes-few = rw (length-map (of_kind 5 s) read_node, length-of_kind 5 s) (nltb→le 1024 (how_many 5 s) (limit 4 (omega arith)))

  -- ---- codes

  in-codes : T (all in_code (records s))
  in-codes = not-not (all in_code (records s)) (off 4 (omega arith))

  -- the codes of a kind's records
  codes-of : (k : ℕ) → T (all (λ r. case_of k ((3, transition_in_code r) ∷ (4, variable_in_code r) ∷ (5, node_in_code r) ∷ (6, action_in_code r) ∷ []) true) (of_kind k s))
  codes-of k =
      all-kept in_code (λ r. eqb (kind r) k) (λ r. case_of k ((3, transition_in_code r) ∷ (4, variable_in_code r) ∷ (5, node_in_code r) ∷ (6, action_in_code r) ∷ []) true)
      (λ r t e. subst (λ n. T (case_of n ((3, transition_in_code r) ∷ (4, variable_in_code r) ∷ (5, node_in_code r) ∷ (6, action_in_code r) ∷ []) true)) (eqb→eq (kind r) k e) t)
      (records s) in-codes

  pub transitions-coded : T (all coded_transition cs.transitions)
  unfolding case_of
  transitions-coded = all-mapped transition_in_code coded_transition read_transition coded-transition (of_kind 3 s) (codes-of 3)

  pub variables-ordered : T (all ordered cs.variables)
  unfolding case_of
  variables-ordered = all-mapped variable_in_code ordered read_variable (λ r t. t) (of_kind 4 s) (codes-of 4)

  pub nodes-known : T (all known_node cs.nodes)
  unfolding case_of
  nodes-known = all-mapped node_in_code known_node read_node coded-node (of_kind 5 s) (codes-of 5)

  pub deeds-coded : (place : ℕ) → T (all (λ x. coded_deed x.1.deed) (read_actions place s))
  unfolding case_of
  deeds-coded place =
      all-mapped action_in_code (λ x. coded_deed x.1.deed) read_action
      (λ r t. coded-deed (byte r 4) (byte r 5) (two r 6) (three-of (between 1 4 (byte r 1)) (deed_in_code (byte r 4) (byte r 5)) (case_of (byte r 1) ((4, is_duration (four r 12)) ∷ []) true) t).1)
      (keep (λ r. eqb (byte r 1) place) (of_kind 6 s)) (all_keep action_in_code (λ r. eqb (byte r 1) place) (of_kind 6 s) (codes-of 6))

  -- of waiting actions
  pub waits-coded : T (all (λ x. is_duration x.1) cs.waiting_times)
  unfolding case_of
  waits-coded =
      all-mapped (λ r. is_duration (four r 12)) (λ x. is_duration x.1) (λ r. (two r 2, four r 12)) (λ r t. t) (of_place 4 s)
      (all-kept action_in_code (λ r. eqb (byte r 1) 4) (λ r. is_duration (four r 12))
      (λ r t e. go r (eqb (byte r 1) 4) (is_true e) (three-of (between 1 4 (byte r 1)) (deed_in_code (byte r 4) (byte r 5)) (case_of (byte r 1) ((4, is_duration (four r 12)) ∷ []) true) t).2)
      (of_kind 6 s) (codes-of 6))
    where
      go : (r : List ℕ) (b : Bool) → b ≡ true → T (cond b (is_duration (four r 12)) true) → T (is_duration (four r 12))
      go r true e t = t
      go r false e t = absurd (subst T (sym e) tt)

  -- ---- names

  names :
      T (all (λ z. ltb z (length cs.homes)) cs.initial)
      × T (all (λ c. ltb c (length cs.initial)) cs.homes)
      × T (all (named_transition cs) cs.transitions)
      × T (nodes_named (node_of cs.nodes) (length cs.nodes) (length cs.variables))
      × T (actions_named cs (length cs.homes) cs.entries)
      × T (actions_named cs (length cs.homes) cs.exits)
      × T (actions_named cs (length cs.transitions) cs.transition_actions)
      × T (actions_named cs (length cs.homes) cs.waiting_actions)
  names =
      eight-of
      (all (λ z. ltb z (length cs.homes)) cs.initial)
      (all (λ c. ltb c (length cs.initial)) cs.homes)
      (all (named_transition cs) cs.transitions)
      (nodes_named (node_of cs.nodes) (length cs.nodes) (length cs.variables))
      (actions_named cs (length cs.homes) cs.entries)
      (actions_named cs (length cs.homes) cs.exits)
      (actions_named cs (length cs.transitions) cs.transition_actions)
      (actions_named cs (length cs.homes) cs.waiting_actions)
      (not-not (all_named cs) (off 5 (omega arith)))

  pub initial-named : T (all (λ z. ltb z (length cs.homes)) cs.initial)
  initial-named = names.0

  pub homes-named : T (all (λ c. ltb c (length cs.initial)) cs.homes)
  homes-named = names.1

  pub transitions-named : T (all (named_transition cs) cs.transitions)
  transitions-named = names.2

  pub nodes-named : T (nodes_named (node_of cs.nodes) (length cs.nodes) (length cs.variables))
  nodes-named = names.3

  pub entries-named : T (actions_named cs (length cs.homes) cs.entries)
  entries-named = names.4

  pub exits-named : T (actions_named cs (length cs.homes) cs.exits)
  exits-named = names.5

  pub transition-actions-named : T (actions_named cs (length cs.transitions) cs.transition_actions)
  transition-actions-named = names.6

  pub waiting-actions-named : T (actions_named cs (length cs.homes) cs.waiting_actions)
  waiting-actions-named = names.7

  -- of transition t
  module _ (t : ℕ) (h : t < length cs.transitions) where
    ends :
        T (ltb (transition cs t).source (length cs.homes))
        × T (ltb (transition cs t).target (length cs.homes))
        × T (guard_named (length cs.nodes) (transition cs t).guard)
    ends =
        three-of
        (ltb (transition cs t).source (length cs.homes))
        (ltb (transition cs t).target (length cs.homes))
        (guard_named (length cs.nodes) (transition cs t).guard)
        (all_get_d (named_transition cs) cs.transitions no_transition t transitions-named h)

    pub source_in : (transition cs t).source < length cs.homes
    source_in = ltb→lt (transition cs t).source (length cs.homes) ends.0

    pub target-in : (transition cs t).target < length cs.homes
    target-in = ltb→lt (transition cs t).target (length cs.homes) ends.1

    coded : T (coded_transition (transition cs t))
    coded = all_get_d coded_transition cs.transitions no_transition t transitions-coded h

    prioritized : T (between 1 16 (transition cs t).priority)
    prioritized = and_left (between 1 16 (transition cs t).priority) (coded_trigger (transition cs t).trigger) coded

    pub priority-low : 1 ≤ (transition cs t).priority
    priority-low = leb→le 1 (transition cs t).priority (and_left (leb 1 (transition cs t).priority) (leb (transition cs t).priority 16) prioritized)

    pub priority-high : (transition cs t).priority ≤ 16
    priority-high = leb→le (transition cs t).priority 16 (and_right (leb 1 (transition cs t).priority) (leb (transition cs t).priority 16) prioritized)

  -- of any number, with a default that has no guard and no trigger
  pub guard-in : (t : ℕ) → T (guard_named (length cs.nodes) (transition cs t).guard)
  guard-in t =
      all-get_or-or (λ x. guard_named (length cs.nodes) x.guard) cs.transitions no_transition t
      (all-imp (named_transition cs) (λ x. guard_named (length cs.nodes) x.guard)
      (λ x u. and_right (ltb x.source (length cs.homes) && ltb x.target (length cs.homes)) (guard_named (length cs.nodes) x.guard) u)
      cs.transitions transitions-named)
      tt

  pub trigger-coded : (t : ℕ) → T (coded_trigger (transition cs t).trigger)
  trigger-coded t =
      all-get_or-or (λ x. coded_trigger x.trigger) cs.transitions no_transition t
      (all-imp coded_transition (λ x. coded_trigger x.trigger) (λ x u. and_right (between 1 16 x.priority) (coded_trigger x.trigger) u) cs.transitions transitions-coded)
      tt

  -- ---- structure

  shape :
      T (inside_charts cs)
      × T (all (initial_fits cs) (upto (length cs.initial)))
      × T (all (priorities_differ cs) (upto (length cs.homes)))
      × T (all (at_most_eight (cs.entries ++ cs.exits ++ cs.waiting_actions)) (upto (length cs.homes)))
      × T (all (at_most_eight cs.transition_actions) (upto (length cs.transitions)))
  shape =
      five-of
      (inside_charts cs)
      (all (initial_fits cs) (upto (length cs.initial)))
      (all (priorities_differ cs) (upto (length cs.homes)))
      (all (at_most_eight (cs.entries ++ cs.exits ++ cs.waiting_actions)) (upto (length cs.homes)))
      (all (at_most_eight cs.transition_actions) (upto (length cs.transitions)))
      (not-not (structured cs) (off 6 (omega arith)))

  pub transition-same-chart : (t : ℕ) → t < length cs.transitions →
      home cs.homes (transition cs t).source ≡ home cs.homes (transition cs t).target
  transition-same-chart t h =
      eqb→eq (home cs.homes (transition cs t).source) (home cs.homes (transition cs t).target)
      (all_get_d (λ x. eqb (home cs.homes x.source) (home cs.homes x.target)) cs.transitions no_transition t shape.0 h)

  pub initial-fits : (c : ℕ) → c < length cs.initial → T (initial_fits cs c)
  initial-fits c h = upto_all (initial_fits cs) (length cs.initial) c shape.1 h

  pub initial-home : (c : ℕ) → c < length cs.initial → T (eqb (home cs.homes (get_or cs.initial c 0)) c)
  initial-home c h =
      first_of
      (eqb (home cs.homes (get_or cs.initial c 0)) c)
      (eqb (length (leaving_state cs (get_or cs.initial c 0))) 1)
      (all (λ t. unconditional t.trigger t.guard) (leaving_state cs (get_or cs.initial c 0)))
      (not (any (λ t. eqb t.target (get_or cs.initial c 0)) cs.transitions))
      (not (any (λ x. eqb x.0 (get_or cs.initial c 0)) (cs.entries ++ cs.exits)))
      (initial-fits c h)
    where
      first_of : (a b d e f : Bool) → T (a && b && d && e && f) → T a
      first_of a b d e f t = (five-of a b d e f t).0

  pub priorities-differ : (z : ℕ) → z < length cs.homes → T (priorities_differ cs z)
  priorities-differ z h = upto_all (priorities_differ cs) (length cs.homes) z shape.2 h

  pub state-actions-few : (z : ℕ) → z < length cs.homes → count (λ x. eqb x.0 z) (cs.entries ++ cs.exits ++ cs.waiting_actions) ≤ 8
  state-actions-few z h =
      leb→le (count (λ x. eqb x.0 z) (cs.entries ++ cs.exits ++ cs.waiting_actions)) 8
      (upto_all (at_most_eight (cs.entries ++ cs.exits ++ cs.waiting_actions)) (length cs.homes) z shape.3 h)

  pub transition-actions-few : (t : ℕ) → t < length cs.transitions → count (λ x. eqb x.0 t) cs.transition_actions ≤ 8
  transition-actions-few t h =
      leb→le (count (λ x. eqb x.0 t) cs.transition_actions) 8
      (upto_all (at_most_eight cs.transition_actions) (length cs.transitions) t shape.4 h)

  -- ---- nodes

  fit :
      T (operands_fit (node_of cs.nodes) (length cs.nodes))
      × T (all (λ n. is_truth (sort_of (node_of cs.nodes n))) (guards cs))
      × T (all (λ n. is_number (sort_of (node_of cs.nodes n))) (assigned cs))
      × T (all (λ n. eqb (uses cs n) 1) (upto (length cs.nodes)))
  fit =
      four-of
      (operands_fit (node_of cs.nodes) (length cs.nodes))
      (all (λ n. is_truth (sort_of (node_of cs.nodes n))) (guards cs))
      (all (λ n. is_number (sort_of (node_of cs.nodes n))) (assigned cs))
      (all (λ n. eqb (uses cs n) 1) (upto (length cs.nodes)))
      (not-not (nodes_fit cs) (off 7 (omega arith)))

  pub operands-fit : T (operands_fit (node_of cs.nodes) (length cs.nodes))
  operands-fit = fit.0

  pub guards-truths : T (all (λ n. is_truth (sort_of (node_of cs.nodes n))) (guards cs))
  guards-truths = fit.1

  pub assigned-numbers : T (all (λ n. is_number (sort_of (node_of cs.nodes n))) (assigned cs))
  assigned-numbers = fit.2

  pub used-once : (n : ℕ) → n < length cs.nodes → uses cs n ≡ 1
  used-once n h = eqb→eq (uses cs n) 1 (upto_all (λ n. eqb (uses cs n) 1) (length cs.nodes) n fit.3 h)

  -- ---- ticks

  ticks-some : T (all_ticking cs)
  ticks-some = not-not (all_ticking cs) (off 8 (omega arith))

  pub triggers-tick : T (all (λ t. ticking t.trigger) cs.transitions)
  triggers-tick = and_left (all (λ t. ticking t.trigger) cs.transitions) (all (λ x. ltb 0 (ticks x.1)) cs.waiting_times) ticks-some

  pub waits-tick : T (all (λ x. ltb 0 (ticks x.1)) cs.waiting_times)
  waits-tick = and_right (all (λ t. ticking t.trigger) cs.transitions) (all (λ x. ltb 0 (ticks x.1)) cs.waiting_times) ticks-some
