-- What an accepted file's records keep to: what a turn needs of them. Assumes nothing.
use mathlib.Core.Path.{◌≡◌, refl, sym, ap, ◌∙◌}
use mathlib.Core.Logic.{inl, inr}
use mathlib.Core.Option.{some, none}
use mathlib.Core.Bool.{Bool, true, false, not, cond, ◌&&◌, ◌||◌}
use mathlib.Core.List.{List, [], ◌∷◌, ◌++◌}
use Prim.Native.Nat.{ℕ, zero, suc, ◌+◌, ◌*◌, ◌≤◌, ◌<◌}
use native.Mathlib.Omega.{arith}
use lib.Dec.{leb, ltb, eqb}
use lib.ListN.{length, get_or}
use borrow.Author.Tests.{eq-eqb, leb-true, ltb-true, eqb-true, eqb-false, not-true, not-false}
use Rattle.prelude.specs.Lists.{keep, all, upto, case_of}
use Rattle.records.specs.Bytes.{byte, two, four, records, kind, of_kind}
use Rattle.framing.specs.Framing.{how_many, first_of}
use Rattle.records.specs.Refusal.{Refusal, odd_length, lowest}
use Rattle.records.proofs.Records.{record_at, byte-record}
use Rattle.records.proofs.RoundTrips.{four-record}
use Rattle.prelude.proofs.Counts.{and-true}
use Rattle.framing.proofs.Framed.{length-of_kind, framed-thing}
use Rattle.expressions.specs.Nodes.{node_of}
use Rattle.expressions.specs.Sorts.{nodes_named}
use Rattle.model.specs.Runs.{assign, raise, Action}
use Rattle.model.specs.ChartSet as C
use Rattle.model.specs.ChartSet.{Transition, no_transition, read_deed, read_actions, read_charts}
use Rattle.model.specs.Charts.{ticks}
use Rattle.model.specs.ChartFile.{between, is_event, is_duration, transition_in_code, action_in_code, variable_in_code, node_in_code, deed_in_code, in_code, chart_limits, inside_charts, initial_fits, at_most_eight, all_named, actions_named, deed_named, action_named, guard_named, structured, priorities_differ, ticking, all_ticking, chart_tests}
use Rattle.chart_records.specs.declared.Shape.{Shape}
use Rattle.chart_records.specs.Places.{trigger_by, first_transition, first_action, transition_at, place_at, action_at}
use Rattle.chart_records.proofs.PlacesRead.{first-transition, first-action, transition-is, length-homes, length-transitions, length-variables, most-states, most-transitions, all-actions}
use Rattle.chart_records.specs.Accepted.{Accepted}
use Rattle.chart_steps.specs.Tables.{KeyedOwner}
use Rattle.machines.specs.Deeds.{Doable}
use Rattle.chart_steps.specs.Replies.{Holdable}
use Rattle.machines.proofs.ChecksClauses.{all-upto}

-- a list of tests of which none applies
lowest-none : (xs : List (Refusal × Bool)) → lowest xs ≡ none → all (λ x. not x.1) xs ≡ true
unfolding lowest all
lowest-none [] e = refl
lowest-none (x ∷ xs) e = go x.1 e (lowest-none xs)
  where
    go : (b : Bool) → cond b (some x.0) (lowest xs) ≡ none → (lowest xs ≡ none → all (λ x. not x.1) xs ≡ true) → (not b && all (λ x. not x.1) xs) ≡ true
    go true e ih = let z : ◌≡◌ {A = ℕ} 0 1 = cc in absurd (omega arith)
    go false e ih = ih e

module _ {A : Type 0} where
  pub all_get_d : (p : A → Bool) (xs : List A) (d : A) (k : ℕ) → all p xs ≡ true → k < length xs → p (get_or xs k d) ≡ true
  unfolding all
  all_get_d p [] d k t h = absurd (omega arith)
  all_get_d p (x ∷ xs) d zero t h = (and-true (p x) (all p xs) t).0
  all_get_d p (x ∷ xs) d (suc k) t h = all_get_d p xs d k (and-true (p x) (all p xs) t).1 (omega arith)

  -- of those kept by a test, another test that agrees there
  pub all-kept : (p q test : A → Bool) → ((x : A) → test x ≡ true → p x ≡ q x) → (xs : List A) → all p xs ≡ true → all q (keep test xs) ≡ true
  unfolding all keep
  all-kept p q test same [] h = refl
  all-kept p q test same (x ∷ xs) h = go (test x) refl (all-kept p q test same xs (and-true (p x) (all p xs) h).1)
    where
      go : (b : Bool) → test x ≡ b → all q (keep test xs) ≡ true → all q (cond b (x ∷ keep test xs) (keep test xs)) ≡ true
      go true e ih = rw (sym (same x e) ∙ (and-true (p x) (all p xs) h).0, ih)
      go false e ih = ih

-- a trigger of a known event, or of a tick at least, can be tested
holdable : (code e ms : ℕ) (d : Bool) → case_of code ((1, is_event e) ∷ (2, d) ∷ (3, d) ∷ []) true ≡ true → ticking (trigger_by code e ms) ≡ true → Holdable (trigger_by code e ms)
unfolding case_of
holdable code e ms d = go (eqb code 1) (eqb code 2) (eqb code 3)
  where
    go : (a b c : Bool) → cond a (is_event e) (cond b d (cond c d true)) ≡ true →
        ticking (cond a (C.event e) (cond b (C.after ms) (cond c (C.every ms) C.always))) ≡ true → Holdable (cond a (C.event e) (cond b (C.after ms) (cond c (C.every ms) C.always)))
    go true b c h k = let l : e ≤ 31 = leb-true e 31 h in omega arith
    go false true c h k = ltb-true 0 (ticks ms) k
    go false false true h k = ltb-true 0 (ticks ms) k
    go false false false h k = tt

-- a deed of a known variable, or event, can be done
doable : (code x n variables nodes : ℕ) → deed_in_code code x ≡ true → deed_named variables nodes (read_deed code x n) ≡ true → Doable variables (read_deed code x n)
unfolding case_of
doable code x n variables nodes h = go (eqb code 2) (and-true (between 1 2 code) (case_of code ((2, is_event x) ∷ []) true) h).1
  where
    go : (a : Bool) → cond a (is_event x) true ≡ true → deed_named variables nodes (cond a (raise x) (assign x n)) ≡ true → Doable variables (cond a (raise x) (assign x n))
    go true e k = let l : x ≤ 31 = leb-true x 31 e in omega arith
    go false e k = ltb-true x variables (and-true (ltb x variables) (ltb n nodes) k).0

module _ (s : List ℕ) (sh : Shape) (ok : Accepted s sh) where
  -- of the tests, the one of number k does not apply
  off : (k : ℕ) → k < 10 → (get_or (chart_tests s) k (odd_length, false)).1 ≡ false
  off k h = not-true _ (all_get_d (λ x. not x.1) (chart_tests s) (odd_length, false) k (lowest-none (chart_tests s) ok.unrefused) h)

  in-codes : all in_code (records s) ≡ true
  in-codes = not-false (all in_code (records s)) (off 4 (omega arith))

  named : all_named (read_charts s) ≡ true
  named = not-false (all_named (read_charts s)) (off 5 (omega arith))

  fits : structured (read_charts s) ≡ true
  fits = not-false (structured (read_charts s)) (off 6 (omega arith))

  all-tick : (all (λ t. ticking t.trigger) (read_charts s).transitions ≡ true) × (all (λ x. ltb 0 (ticks x.1)) (read_charts s).waiting_times ≡ true)
  all-tick = and-true _ _ (not-false (all_ticking (read_charts s)) (off 8 (omega arith)))

  with-ticks : all (λ t. ticking t.trigger) (read_charts s).transitions ≡ true
  with-ticks = all-tick.0

  pub waits-tick : all (λ x. ltb 0 (ticks x.1)) (read_charts s).waiting_times ≡ true
  waits-tick = all-tick.1

  -- ---- names

  abbrev named_of_transition : Transition → Bool
  named_of_transition t = ltb t.source (length (read_charts s).homes) && ltb t.target (length (read_charts s).homes) && guard_named (length (read_charts s).nodes) t.guard

  abbrev owned : ℕ → List (ℕ × Action) → Bool
  owned = actions_named (read_charts s)

  -- transitions, entries, exits, transitions' actions and waiting ones
  all_named_lem : (all named_of_transition (read_charts s).transitions ≡ true)
      × (owned (length (read_charts s).homes) (read_charts s).entries ≡ true)
      × (owned (length (read_charts s).homes) (read_charts s).exits ≡ true)
      × (owned (length (read_charts s).transitions) (read_charts s).transition_actions ≡ true)
      × (owned (length (read_charts s).homes) (read_charts s).waiting_actions ≡ true)
  all_named_lem =
      go (all (λ i. ltb i (length (read_charts s).homes)) (read_charts s).initial) (all (λ c. ltb c (length (read_charts s).initial)) (read_charts s).homes)
      (all named_of_transition (read_charts s).transitions) (nodes_named (node_of (read_charts s).nodes) (length (read_charts s).nodes) (length (read_charts s).variables))
      (owned (length (read_charts s).homes) (read_charts s).entries) (owned (length (read_charts s).homes) (read_charts s).exits)
      (owned (length (read_charts s).transitions) (read_charts s).transition_actions) (owned (length (read_charts s).homes) (read_charts s).waiting_actions) named
    where
      go : (a b c d e f g i : Bool) → (a && b && c && d && e && f && g && i) ≡ true → (c ≡ true) × (e ≡ true) × (f ≡ true) × (g ≡ true) × (i ≡ true)
      go a b c d e f g i h =
          let v : ((a && b && c && d && e && f && g) ≡ true) × (i ≡ true) = and-true (a && b && c && d && e && f && g) i h in
          let z : ((a && b && c && d && e && f) ≡ true) × (g ≡ true) = and-true (a && b && c && d && e && f) g v.0 in
          let y : ((a && b && c && d && e) ≡ true) × (f ≡ true) = and-true (a && b && c && d && e) f z.0 in
          let x : ((a && b && c && d) ≡ true) × (e ≡ true) = and-true (a && b && c && d) e y.0 in
          ((and-true (a && b) c (and-true (a && b && c) d x.0).0).1, x.1, y.1, z.1, v.1)

  -- the priorities of those that leave a state
  pub differ : (st : ℕ) → st < sh.states → priorities_differ (read_charts s) st ≡ true
  differ st h = all-upto (priorities_differ (read_charts s)) (length (read_charts s).homes) st
      (go (inside_charts (read_charts s)) (all (initial_fits (read_charts s)) (upto (length (read_charts s).initial)))
      (all (priorities_differ (read_charts s)) (upto (length (read_charts s).homes)))
      (all (at_most_eight ((read_charts s).entries ++ (read_charts s).exits ++ (read_charts s).waiting_actions)) (upto (length (read_charts s).homes)))
      (all (at_most_eight (read_charts s).transition_actions) (upto (length (read_charts s).transitions))) fits)
      (rw (length-homes s sh ok.shape) h)
    where
      go : (a b c d e : Bool) → (a && b && c && d && e) ≡ true → c ≡ true
      go a b c d e h = (and-true (a && b) c (and-true (a && b && c) d (and-true (a && b && c && d) e h).0).0).1

  -- ---- codes, of the records of a kind

  coded : (k : ℕ) (q : List ℕ → Bool) → ((r : List ℕ) → kind r ≡ k → in_code r ≡ q r) → (i : ℕ) → i < how_many k s → q (record_at s (first_of k s + i)) ≡ true
  coded k q same i h =
      rw (sym (framed-thing 1 chart_limits s ok.shape.framed k i h))
      (all_get_d q (of_kind k s) [] i (all-kept in_code q (λ r. eqb (kind r) k) (λ r e. same r (eqb-true (kind r) k e)) (records s) in-codes) (rw (length-of_kind k s) h))

  -- ---- transitions

  module _ (t : ℕ) (h : t < sh.transitions) where
    transition-coded : transition_in_code (record_at s (first_transition sh + t)) ≡ true
    unfolding case_of
    transition-coded =
        ap (λ k. transition_in_code (record_at s (k + t))) (sym (first-transition s sh ok.shape))
        ∙ coded 3 transition_in_code (λ r e. ap (λ k. case_of k ((3, transition_in_code r) ∷ (4, variable_in_code r) ∷ (5, node_in_code r) ∷ (6, action_in_code r) ∷ []) true) e) t (omega (arith, ok.shape.transitions))

    -- as reads of the file
    abbrev at : ℕ → ℕ
    at k = byte s (16 * (first_transition sh + t) + k)

    abbrev duration : ℕ
    duration = four s (16 * (first_transition sh + t) + 8)

    coded-here : (between 1 16 (at 1) ≡ true) × (case_of (at 6) ((1, is_event (at 7)) ∷ (2, is_duration duration) ∷ (3, is_duration duration) ∷ []) true ≡ true)
    coded-here =
        let b : (k : ℕ) → k < 16 → byte (record_at s (first_transition sh + t)) k ≡ at k = byte-record s (first_transition sh + t) in
        let f : four (record_at s (first_transition sh + t)) 8 ≡ duration = four-record s (first_transition sh + t) 8 (omega arith) in
        let e : (between 1 16 (at 1) && leb (at 6) 3 && case_of (at 6) ((1, is_event (at 7)) ∷ (2, is_duration duration) ∷ (3, is_duration duration) ∷ []) true) ≡ true =
        sym (λ i. between 1 16 (b 1 (omega arith) i) && leb (b 6 (omega arith) i) 3 && case_of (b 6 (omega arith) i) ((1, is_event (b 7 (omega arith) i)) ∷ (2, is_duration (f i)) ∷ (3, is_duration (f i)) ∷ []) true) ∙ transition-coded
        in
        let z : ((between 1 16 (at 1) && leb (at 6) 3) ≡ true) × (case_of (at 6) ((1, is_event (at 7)) ∷ (2, is_duration duration) ∷ (3, is_duration duration) ∷ []) true ≡ true) =
        and-true (between 1 16 (at 1) && leb (at 6) 3) (case_of (at 6) ((1, is_event (at 7)) ∷ (2, is_duration duration) ∷ (3, is_duration duration) ∷ []) true) e
        in
        ((and-true (between 1 16 (at 1)) (leb (at 6) 3) z.0).0, z.1)

    pub priority-known : (1 ≤ (transition_at s sh t).priority) × ((transition_at s sh t).priority ≤ 16)
    priority-known =
        let z : (leb 1 (at 1) ≡ true) × (leb (at 1) 16 ≡ true) = and-true (leb 1 (at 1)) (leb (at 1) 16) coded-here.0 in
        (leb-true 1 (at 1) z.0, leb-true (at 1) 16 z.1)

    all_here : (p : Transition → Bool) → all p (read_charts s).transitions ≡ true → p (transition_at s sh t) ≡ true
    all_here p e = ap p (sym (transition-is s sh ok.shape t h)) ∙ all_get_d p (read_charts s).transitions no_transition t e (rw (length-transitions s sh ok.shape) h)

    pub trigger-holdable : Holdable (transition_at s sh t).trigger
    trigger-holdable = holdable (at 6) (at 7) duration (is_duration duration) coded-here.1 (all_here (λ t. ticking t.trigger) with-ticks)

    abbrev x : Transition
    x = transition_at s sh t

    ends-known : (ltb x.source (length (read_charts s).homes) ≡ true) × (ltb x.target (length (read_charts s).homes) ≡ true)
    ends-known =
        let a : Bool = ltb x.source (length (read_charts s).homes) in
        let b : Bool = ltb x.target (length (read_charts s).homes) in
        let g : Bool = guard_named (length (read_charts s).nodes) x.guard in
        and-true a b (and-true (a && b) g (all_here named_of_transition all_named_lem.0)).0

    pub source_known : (transition_at s sh t).source < sh.states
    source_known = rw (length-homes s sh ok.shape) at (ltb-true x.source (length (read_charts s).homes) ends-known.0)

    pub target-known : (transition_at s sh t).target < sh.states
    target-known = rw (length-homes s sh ok.shape) at (ltb-true x.target (length (read_charts s).homes) ends-known.1)

  -- ---- actions

  module _ (a : ℕ) (h : a < sh.actions) where
    abbrev m : ℕ
    m = first_action sh + a

    action-coded : action_in_code (record_at s (first_action sh + a)) ≡ true
    unfolding case_of
    action-coded =
        ap (λ k. action_in_code (record_at s (k + a))) (sym (first-action s sh ok.shape))
        ∙ coded 6 action_in_code (λ r e. ap (λ k. case_of k ((3, transition_in_code r) ∷ (4, variable_in_code r) ∷ (5, node_in_code r) ∷ (6, action_in_code r) ∷ []) true) e) a (omega (arith, ok.shape.actions))

    action-coded-here : (between 1 4 (place_at s sh a) ≡ true) × (deed_in_code (byte s (16 * m + 4)) (byte s (16 * m + 5)) ≡ true)
    action-coded-here =
        let b : (k : ℕ) → k < 16 → byte (record_at s m) k ≡ byte s (16 * m + k) = byte-record s m in
        and-true (between 1 4 (place_at s sh a)) (deed_in_code (byte s (16 * m + 4)) (byte s (16 * m + 5)))
        (sym (λ i. between 1 4 (b 1 (omega arith) i) && deed_in_code (b 4 (omega arith) i) (b 5 (omega arith) i)) ∙ (and-true _ _ action-coded).0)

    -- of its place's actions
    owner-named : (place owners : ℕ) → place_at s sh a ≡ place → owned owners (read_actions place s) ≡ true →
        ((action_at s sh a).0 < owners) × (action_named sh.variables (length (read_charts s).nodes) (action_at s sh a).1 ≡ true)
    owner-named place owners e all_of =
        let p : ℕ × Action → Bool = λ x. ltb x.0 owners && action_named (length (read_charts s).variables) (length (read_charts s).nodes) x.1 in
        let f : (not (eqb (place_at s sh a) place) || p (action_at s sh a)) ≡ true =
        all-upto (λ i. not (eqb (place_at s sh i) place) || p (action_at s sh i)) sh.actions a (sym (all-actions s sh ok.shape place p) ∙ all_of) h
        in
        let g : p (action_at s sh a) ≡ true = ap (λ b. not b || p (action_at s sh a)) (sym (eq-eqb (place_at s sh a) place e)) ∙ f in
        let z : (ltb (action_at s sh a).0 owners ≡ true) × (action_named (length (read_charts s).variables) (length (read_charts s).nodes) (action_at s sh a).1 ≡ true) =
        and-true (ltb (action_at s sh a).0 owners) (action_named (length (read_charts s).variables) (length (read_charts s).nodes) (action_at s sh a).1) g
        in
        (ltb-true (action_at s sh a).0 owners z.0, ap (λ v. action_named v (length (read_charts s).nodes) (action_at s sh a).1) (sym (length-variables s sh ok.shape)) ∙ z.1)

    abbrev Owned : Type 0
    Owned = KeyedOwner (place_at s sh a) (action_at s sh a).0 × (action_named sh.variables (length (read_charts s).nodes) (action_at s sh a).1 ≡ true)

    owned-here : Owned
    owned-here = go (eqb (place_at s sh a) 1) refl (eqb (place_at s sh a) 2) refl (eqb (place_at s sh a) 3) refl
      where
        z : (leb 1 (place_at s sh a) ≡ true) × (leb (place_at s sh a) 4 ≡ true)
        z = and-true (leb 1 (place_at s sh a)) (leb (place_at s sh a) 4) action-coded-here.0

        go : (b : Bool) → eqb (place_at s sh a) 1 ≡ b → (c : Bool) → eqb (place_at s sh a) 2 ≡ c → (d : Bool) → eqb (place_at s sh a) 3 ≡ d → Owned
        go true e c f d g =
            let p : place_at s sh a ≡ 1 = eqb-true (place_at s sh a) 1 e in
            let w = owner-named 1 (length (read_charts s).homes) p all_named_lem.1 in
            (inl (p, omega (arith, w.0, length-homes s sh ok.shape, most-states s sh ok.shape)), w.1)
        go false e true f d g =
            let p : place_at s sh a ≡ 2 = eqb-true (place_at s sh a) 2 f in
            let w = owner-named 2 (length (read_charts s).homes) p all_named_lem.2 in
            (inr (inl (p, omega (arith, w.0, length-homes s sh ok.shape, most-states s sh ok.shape))), w.1)
        go false e false f true g =
            let p : place_at s sh a ≡ 3 = eqb-true (place_at s sh a) 3 g in
            let w = owner-named 3 (length (read_charts s).transitions) p all_named_lem.3 in
            (inr (inr (inl (p, omega (arith, w.0, length-transitions s sh ok.shape, most-transitions s sh ok.shape)))), w.1)
        go false e false f false g =
            let l : 1 ≤ place_at s sh a = leb-true 1 (place_at s sh a) z.0 in
            let u : place_at s sh a ≤ 4 = leb-true (place_at s sh a) 4 z.1 in
            let n1 : place_at s sh a ≡ 1 → ⊥ = eqb-false (place_at s sh a) 1 e in
            let n2 : place_at s sh a ≡ 2 → ⊥ = eqb-false (place_at s sh a) 2 f in
            let n3 : place_at s sh a ≡ 3 → ⊥ = eqb-false (place_at s sh a) 3 g in
            let p : place_at s sh a ≡ 4 = omega arith in
            let w = owner-named 4 (length (read_charts s).homes) p all_named_lem.4 in
            (inr (inr (inr (p, omega (arith, w.0, length-homes s sh ok.shape, most-states s sh ok.shape)))), w.1)

    -- a waiting action is one of a state of the set
    pub waiting-owner : place_at s sh a ≡ 4 → (action_at s sh a).0 < sh.states
    waiting-owner p = omega (arith, (owner-named 4 (length (read_charts s).homes) p all_named_lem.4).0, length-homes s sh ok.shape)

    pub owner-placed : KeyedOwner (place_at s sh a) (action_at s sh a).0
    owner-placed = owned-here.0

    pub deed-doable : Doable sh.variables (action_at s sh a).1.deed
    deed-doable =
        doable (byte s (16 * m + 4)) (byte s (16 * m + 5)) (two s (16 * m + 6)) sh.variables (length (read_charts s).nodes) action-coded-here.1
        (and-true (guard_named (length (read_charts s).nodes) (action_at s sh a).1.guard) (deed_named sh.variables (length (read_charts s).nodes) (action_at s sh a).1.deed) owned-here.1).1
