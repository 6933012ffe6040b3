-- The twin of an accepted set names what there is, keeps inside its automata, and has the set's nodes in their order and sorts. Assumes nothing.
use mathlib.Core.Path.{◌≡◌, refl, sym, ap, subst}
use mathlib.Core.Logic.{◌⊎◌, inl, inr}
use mathlib.Core.Option.{none}
use mathlib.Core.Bool.{Bool, true, false, not, cond, ◌&&◌, ◌||◌}
use mathlib.Core.List.{List, [], ◌∷◌, ◌++◌, map}
use Prim.Native.Nat.{ℕ, ◌+◌, ◌-◌, ◌≤◌, ◌<◌}
use native.Mathlib.Omega.{arith}
use lib.Dec.{T, leb, ltb, eqb, ltb→lt, lt→ltb, leb→le, le→leb, eqb_refl}
use lib.ListN.{length, get_or}
use Rattle.prelude.specs.Lists.{keep, all, gather, upto}
use Rattle.expressions.specs.Nodes.{node_of}
use Rattle.expressions.specs.Sorts.{sort_of, is_number, is_truth, nodes_named, operands_fit, operand_uses}
use Rattle.model.specs.Limits.{most_priorities}
use Rattle.prelude.specs.Owned.{of}
use Rattle.model.specs.Owned.{home}
use Rattle.model.specs.Runs.{Action}
use Rattle.model.specs.ChartSet as C
use Rattle.model.specs.ChartSet.{ChartSet, Trigger, read_charts, transition, no_transition, waits}
use Rattle.model.specs.Charts.{ticks}
use Rattle.model.specs.ChartFile.{charts_refusal, between, is_duration, guard_named, action_named, actions_named, guard_nodes, assigned_nodes, all_actions, transition_guards, action_guards, uses, ticking}
use Rattle.model.specs.AutomataTable as A
use Rattle.model.specs.AutomataTable.{Automata, Edge, Literal, Clock}
use Rattle.model.specs.AutomataFile.{literal_trigger_named, table_named, clocks_tick, inside_automata, idle_edges_stay, table_nodes_fit}
use Rattle.model.specs.Translation.{Origin, from_transition, from_waiting, from_idling, clocks_of, state_count, transition_count, edge_of, transition_clocks, waiting_clocks, clock_of, waiting_clock, literal_trigger_of, literal, tried_before, must_nots, waiting_literal, literals_of, updates_of, clocks_leaving, resets_of, twin}
use Rattle.prelude.proofs.Bools.{and_left, and_right, both_of, of-true, eq→eqb}
use Rattle.prelude.proofs.Lists.{all_get_d, all-get_or-or, all_append, all_cons, all_nil, all-mapped, all-imp, all_keep, all_both, all-gather, all_take, all-upto, gather-all}
use Rattle.model.proofs.ChartsTicks.{ticks-nearest}
use Rattle.model.proofs.ChartFile.{coded_trigger, coded_transition, initial-named, homes-named, nodes-named, entries-named, exits-named, transition-actions-named, waiting-actions-named, waits-coded, waits-tick, source_in, target-in, guard-in, transitions-coded, transition-same-chart, initial-home, operands-fit, guards-truths, assigned-numbers, used-once, triggers-tick}
use Rattle.model.proofs.TranslationOrigins.{IsOrigin, waits_one, all_edges, by_edge-all}
use Rattle.model.proofs.TranslationClocks.{clock_of-in, waiting_clock-in}

module _ {A : Type 0} where
  all_left : (p : A → Bool) (xs ys : List A) → T (all p (xs ++ ys)) → T (all p xs)
  unfolding all
  all_left p [] ys t = tt
  all_left p (x ∷ xs) ys t = both_of (p x) (all p xs) (and_left (p x) (all p (xs ++ ys)) t) (all_left p xs ys (and_right (p x) (all p (xs ++ ys)) t))

  all_right : (p : A → Bool) (xs ys : List A) → T (all p (xs ++ ys)) → T (all p ys)
  unfolding all
  all_right p [] ys t = t
  all_right p (x ∷ xs) ys t = all_right p xs ys (and_right (p x) (all p (xs ++ ys)) t)

-- what is gathered passes a test where each part does
gathered-all : {A B : Type 0} (q : B → Bool) (f : A → List B) (xs : List A) → T (all q (gather f xs)) → T (all (λ x. all q (f x)) xs)
unfolding all gather
gathered-all q f [] t = tt
gathered-all q f (x ∷ xs) t = both_of (all q (f x)) (all (λ x. all q (f x)) xs) (all_left q (f x) (gather f xs) t) (gathered-all q f xs (all_right q (f x) (gather f xs) t))

all-seven : (a b c d e f g : Bool) → T a → T b → T c → T d → T e → T f → T g → T (a && b && c && d && e && f && g)
all-seven true true true true true true g t u v w x y z = z
all-seven true true true true true false g t u v w x y z = absurd y
all-seven true true true true false f g t u v w x y z = absurd x
all-seven true true true false e f g t u v w x y z = absurd w
all-seven true true false d e f g t u v w x y z = absurd v
all-seven true false c d e f g t u v w x y z = absurd u
all-seven false b c d e f g t u v w x y z = absurd t

all-five : (a b c d e : Bool) → T a → T b → T c → T d → T e → T (a && b && c && d && e)
all-five a b c d e t u v w x = all-seven true true a b c d e tt tt t u v w x

regroup : (a b c : Bool) → T (a && (b && c)) → T (a && b && c)
regroup true b c t = t
regroup false b c t = absurd t

-- ---- refusal 6 of one thing of a table

module _ (au : Automata) where
  abbrev pub edge_named : Edge → Bool
  edge_named e = ltb e.automaton (length au.initial) && ltb e.source (length au.homes) && ltb e.target (length au.homes)

  abbrev pub literal_named : ℕ × Literal → Bool
  literal_named x = ltb x.0 (length au.edges) && literal_trigger_named (length au.clocks) x.1.trigger && guard_named (length au.nodes) x.1.guard

  abbrev pub update_named : ℕ × Action → Bool
  update_named x = ltb x.0 (length au.edges) && action_named (length au.variables) (length au.nodes) x.1

  abbrev pub reset_named : ℕ × ℕ → Bool
  reset_named x = ltb x.0 (length au.edges) && ltb x.1 (length au.clocks)

-- ---- any set

-- what edges own
module _ (cs : ChartSet) where
  -- the must-nots are transitions
  pub tried_before-in : (z p : ℕ) → T (all (λ u. ltb u (transition_count cs)) (tried_before cs z p))
  tried_before-in z p =
      gather-all (λ u. ltb u (transition_count cs)) (λ q. keep (λ u. eqb (transition cs u).source z && eqb (transition cs u).priority q) (upto (transition_count cs))) 1 (p - 1)
      (λ q l. all_keep (λ u. ltb u (transition_count cs)) (λ u. eqb (transition cs u).source z && eqb (transition cs u).priority q) (upto (transition_count cs))
      (all-upto (λ u. ltb u (transition_count cs)) (transition_count cs) (λ k m. lt→ltb k (transition_count cs) m)))

  -- a test of literals that every transition's passes, and every waiting state's
  pub all-literals : (p : Literal → Bool) → ((must : Bool) (t : ℕ) → t < transition_count cs → T (p (literal cs must t))) → ((must : Bool) (z : ℕ) → IsOrigin cs (from_waiting z) → T (p (waiting_literal cs must z))) →
      T (all (λ x. ltb x.0 (length (twin cs).edges) && p x.1) (twin cs).literals)
  all-literals p h w = by_edge-all cs p (literals_of cs) own
    where
      nots : (z q : ℕ) → T (all p (map (literal cs false) (tried_before cs z q)))
      nots z q = all-mapped (λ u. ltb u (transition_count cs)) p (literal cs false) (λ u l. h false u (ltb→lt u (transition_count cs) l)) (tried_before cs z q) (tried_before-in z q)

      own : (o : Origin) → IsOrigin cs o → T (all p (literals_of cs o))
      own (from_waiting z) l = all_append p (must_nots cs z) (waiting_literal cs true z ∷ []) (nots z (most_priorities + 1)) (all_cons p (waiting_literal cs true z) [] (w true z l) (all_nil p))
      own (from_idling z) l = all_append p (must_nots cs z) (map (λ _. waiting_literal cs false z) (waits cs z)) (nots z (most_priorities + 1)) (clock (waits_one cs z))
        where
          clock : (waits cs z ≡ []) ⊎ ((ms : ℕ) × (waits cs z ≡ ms ∷ [])) → T (all p (map (λ _. waiting_literal cs false z) (waits cs z)))
          clock (inl e) = subst (λ x. T (all p (map (λ _. waiting_literal cs false z) x))) (sym e) (all_nil p)
          clock (inr e) = subst (λ x. T (all p (map (λ _. waiting_literal cs false z) x))) (sym e.1) (all_cons p (waiting_literal cs false z) [] (w false z (l, e)) (all_nil p))
      own (from_transition t) l =
          all_append p (map (literal cs false) (tried_before cs (transition cs t).source (transition cs t).priority)) (literal cs true t ∷ [])
          (nots (transition cs t).source (transition cs t).priority)
          (all_cons p (literal cs true t) [] (h true t l) (all_nil p))

  -- a test that every action passes
  pub all-updates : (p : Action → Bool) → T (all (λ x. p x.1) cs.exits) → T (all (λ x. p x.1) cs.transition_actions) → T (all (λ x. p x.1) cs.entries) → T (all (λ x. p x.1) cs.waiting_actions) →
      T (all (λ x. ltb x.0 (length (twin cs).edges) && p x.1) (twin cs).updates)
  all-updates p a b c d = by_edge-all cs p (updates_of cs) each
    where
      of-all : (n : ℕ) (xs : List (ℕ × Action)) → T (all (λ x. p x.1) xs) → T (all p (of n xs))
      of-all n xs t = all-mapped (λ x. p x.1) p (λ x. x.1) (λ x u. u) (keep (λ x. eqb x.0 n) xs) (all_keep (λ x. p x.1) (λ x. eqb x.0 n) xs t)

      each : (o : Origin) → IsOrigin cs o → T (all p (updates_of cs o))
      each (from_idling z) l = all_nil p
      each (from_waiting z) l = of-all z cs.waiting_actions d
      each (from_transition t) l =
          all_append p (of (transition cs t).source cs.exits ++ of t cs.transition_actions) (of (transition cs t).target cs.entries)
          (all_append p (of (transition cs t).source cs.exits) (of t cs.transition_actions) (of-all (transition cs t).source cs.exits a) (of-all t cs.transition_actions b))
          (of-all (transition cs t).target cs.entries c)

  waiting-in : (z : ℕ) → z < state_count cs → (ms : ℕ) → waits cs z ≡ ms ∷ [] → waiting_clock cs z < length (twin cs).clocks
  waiting-in z h ms e = waiting_clock-in cs z (record { timing = A.every; ticks = ticks ms }) h (ap (map (λ ms. record { timing = A.every; ticks = ticks ms })) e)

  -- resets are of clocks
  pub resets-named : ((t : ℕ) → t < transition_count cs → (transition cs t).target < state_count cs) → T (all (reset_named (twin cs)) (twin cs).resets)
  resets-named targets = by_edge-all cs is_clock (resets_of cs) each
    where
      is_clock : ℕ → Bool
      is_clock k = ltb k (length (twin cs).clocks)

      one : (t : ℕ) → t < transition_count cs → (g : Trigger) → (transition cs t).trigger ≡ g → T (all is_clock (map (λ _. clock_of cs t) (clocks_of g)))
      one t l C.always e = all_nil is_clock
      one t l (C.event x) e = all_nil is_clock
      one t l (C.after ms) e = all_cons is_clock (clock_of cs t) [] (lt→ltb (clock_of cs t) (length (twin cs).clocks) (clock_of-in cs t _ l (ap clocks_of e))) (all_nil is_clock)
      one t l (C.every ms) e = all_cons is_clock (clock_of cs t) [] (lt→ltb (clock_of cs t) (length (twin cs).clocks) (clock_of-in cs t _ l (ap clocks_of e))) (all_nil is_clock)

      either : (t : ℕ) → t < transition_count cs → (b : Bool) → T (all is_clock (cond b (map (λ _. clock_of cs t) (clocks_of (transition cs t).trigger)) []))
      either t l true = one t l (transition cs t).trigger refl
      either t l false = all_nil is_clock

      leaving : (z : ℕ) → T (all is_clock (clocks_leaving cs z))
      leaving z =
          gather-all is_clock (λ t. cond (eqb (transition cs t).source z) (map (λ _. clock_of cs t) (clocks_of (transition cs t).trigger)) []) 0 (transition_count cs)
          (λ t l. either t (omega arith) (eqb (transition cs t).source z))

      each : (o : Origin) → IsOrigin cs o → T (all is_clock (resets_of cs o))
      each (from_transition t) l = all_append is_clock (clocks_leaving cs g) (map (λ _. waiting_clock cs g) (waits cs g)) (leaving g) (clock (waits_one cs g))
        where
          g : ℕ
          g = (transition cs t).target

          clock : (waits cs g ≡ []) ⊎ ((ms : ℕ) × (waits cs g ≡ ms ∷ [])) → T (all is_clock (map (λ _. waiting_clock cs g) (waits cs g)))
          clock (inl e) = subst (λ x. T (all is_clock (map (λ _. waiting_clock cs g) x))) (sym e) (all_nil is_clock)
          clock (inr e) = subst (λ x. T (all is_clock (map (λ _. waiting_clock cs g) x))) (sym e.1) (all_cons is_clock (waiting_clock cs g) [] (lt→ltb (waiting_clock cs g) (length (twin cs).clocks) (waiting-in g (targets t l) e.0 e.1)) (all_nil is_clock))
      each (from_waiting z) l = all_nil is_clock
      each (from_idling z) l = all_nil is_clock

  pub literal-trigger-named : (t : ℕ) → t < transition_count cs → T (literal_trigger_named (length (twin cs).clocks) (literal_trigger_of cs t (transition cs t).trigger))
  literal-trigger-named t h = go (transition cs t).trigger refl
    where
      go : (g : Trigger) → (transition cs t).trigger ≡ g → T (literal_trigger_named (length (twin cs).clocks) (literal_trigger_of cs t g))
      go C.always e = tt
      go (C.event x) e = tt
      go (C.after ms) e = lt→ltb (clock_of cs t) (length (twin cs).clocks) (clock_of-in cs t _ h (ap clocks_of e))
      go (C.every ms) e = lt→ltb (clock_of cs t) (length (twin cs).clocks) (clock_of-in cs t _ h (ap clocks_of e))

-- ---- an accepted set

module _ (s : List ℕ) (ok : charts_refusal s ≡ none) where
  abbrev cs : ChartSet
  cs = read_charts s

  chart-in : (z : ℕ) → z < state_count cs → T (ltb (home cs.homes z) (length cs.initial))
  chart-in z h = all_get_d (λ c. ltb c (length cs.initial)) cs.homes 0 z (homes-named s ok) h

  pub edges-named : T (all (edge_named (twin cs)) (twin cs).edges)
  edges-named = all_edges cs (edge_named (twin cs)) each
    where
      all_three : (a b c : ℕ) → T (ltb a (length cs.initial)) → b < state_count cs → c < state_count cs → T (ltb a (length cs.initial) && ltb b (state_count cs) && ltb c (state_count cs))
      all_three a b c x y z =
          both_of (ltb a (length cs.initial) && ltb b (state_count cs)) (ltb c (state_count cs))
          (both_of (ltb a (length cs.initial)) (ltb b (state_count cs)) x (lt→ltb b (state_count cs) y)) (lt→ltb c (state_count cs) z)

      each : (o : Origin) → IsOrigin cs o → T (edge_named (twin cs) (edge_of cs o))
      each (from_transition t) h =
          all_three (home cs.homes (transition cs t).source) (transition cs t).source (transition cs t).target (chart-in (transition cs t).source (source_in s ok t h)) (source_in s ok t h) (target-in s ok t h)
      each (from_waiting z) h = all_three (home cs.homes z) z z (chart-in z h.0) h.0 h.0
      each (from_idling z) h = all_three (home cs.homes z) z z (chart-in z h) h h

  pub literals-named : T (all (literal_named (twin cs)) (twin cs).literals)
  literals-named =
      all-imp (λ x. ltb x.0 (length (twin cs).edges) && reads x.1) (literal_named (twin cs))
      (λ x t. regroup (ltb x.0 (length (twin cs).edges)) (literal_trigger_named (length (twin cs).clocks) x.1.trigger) (guard_named (length cs.nodes) x.1.guard) t) (twin cs).literals
      (all-literals cs reads
      (λ m t h. both_of (literal_trigger_named (length (twin cs).clocks) (literal_trigger_of cs t (transition cs t).trigger)) (guard_named (length cs.nodes) (transition cs t).guard) (literal-trigger-named cs t h) (guard-in s ok t))
      (λ m z h. both_of (ltb (waiting_clock cs z) (length (twin cs).clocks)) true (lt→ltb (waiting_clock cs z) (length (twin cs).clocks) (waiting-in cs z h.0 h.1.0 h.1.1)) tt))
    where
      reads : Literal → Bool
      reads l = literal_trigger_named (length (twin cs).clocks) l.trigger && guard_named (length cs.nodes) l.guard

  pub updates-named : T (all (update_named (twin cs)) (twin cs).updates)
  updates-named =
      all-updates cs named
      (those (state_count cs) cs.exits (exits-named s ok)) (those (transition_count cs) cs.transition_actions (transition-actions-named s ok)) (those (state_count cs) cs.entries (entries-named s ok)) (those (state_count cs) cs.waiting_actions (waiting-actions-named s ok))
    where
      named : Action → Bool
      named a = action_named (length cs.variables) (length cs.nodes) a

      those : (n : ℕ) (xs : List (ℕ × Action)) → T (actions_named cs n xs) → T (all (λ x. named x.1) xs)
      those n xs t = all-imp (λ x. ltb x.0 n && named x.1) (λ x. named x.1) (λ x u. and_right (ltb x.0 n) (named x.1) u) xs t

  -- 6
  pub twin-named : T (table_named (twin cs))
  twin-named =
      all-seven
      (all (λ z. ltb z (length cs.homes)) cs.initial)
      (all (λ c. ltb c (length cs.initial)) cs.homes)
      (all (edge_named (twin cs)) (twin cs).edges)
      (all (literal_named (twin cs)) (twin cs).literals)
      (nodes_named (node_of cs.nodes) (length cs.nodes) (length cs.variables))
      (all (update_named (twin cs)) (twin cs).updates)
      (all (reset_named (twin cs)) (twin cs).resets)
      (initial-named s ok) (homes-named s ok) edges-named literals-named (nodes-named s ok) updates-named (resets-named cs (target-in s ok))

  -- ---- ticks

  -- not "ticks outside 1 to 36,000"
  pub twin-ticks : T (clocks_tick (twin cs))
  twin-ticks =
      all_append ticks-fit (transition_clocks cs) (gather (waiting_clocks cs) (upto (state_count cs))) of-transitions
      (gather-all ticks-fit (waiting_clocks cs) 0 (state_count cs) (λ z l. of-waits z))
    where
      ticks-fit : Clock → Bool
      ticks-fit c = between 1 36_000 c.ticks

      of-duration : (ms : ℕ) → T (is_duration ms) → T (ltb 0 (ticks ms)) → T (between 1 36_000 (ticks ms))
      of-duration ms d t =
          let l : ms ≤ 3_600_000 = leb→le ms 3_600_000 (and_right (leb 1 ms) (leb ms 3_600_000) d) in
          let m : 0 < ticks ms = ltb→lt 0 (ticks ms) t in
          both_of (leb 1 (ticks ms)) (leb (ticks ms) 36_000) (le→leb 1 (ticks ms) m) (le→leb (ticks ms) 36_000 (omega (arith, l, (ticks-nearest ms).0)))

      of-trigger : (g : Trigger) → T (coded_trigger g) → T (ticking g) → T (all ticks-fit (clocks_of g))
      of-trigger C.always d t = all_nil ticks-fit
      of-trigger (C.event e) d t = all_nil ticks-fit
      of-trigger (C.after ms) d t = all_cons ticks-fit (record { timing = A.after; ticks = ticks ms }) [] (of-duration ms d t) (all_nil ticks-fit)
      of-trigger (C.every ms) d t = all_cons ticks-fit (record { timing = A.every; ticks = ticks ms }) [] (of-duration ms d t) (all_nil ticks-fit)

      -- a state's waiting times are among all of them
      lasting : ℕ → Bool
      lasting ms = is_duration ms && ltb 0 (ticks ms)

      of-waits : (z : ℕ) → T (all ticks-fit (waiting_clocks cs z))
      of-waits z =
          all-mapped lasting ticks-fit (λ ms. record { timing = A.every; ticks = ticks ms }) (λ ms t. of-duration ms (and_left (is_duration ms) (ltb 0 (ticks ms)) t) (and_right (is_duration ms) (ltb 0 (ticks ms)) t)) (waits cs z)
          (all_take lasting 1 (of z cs.waiting_times)
          (all-mapped (λ x. lasting x.1) lasting (λ x. x.1) (λ x t. t) (keep (λ x. eqb x.0 z) cs.waiting_times)
          (all_keep (λ x. lasting x.1) (λ x. eqb x.0 z) cs.waiting_times (all_both (λ x. is_duration x.1) (λ x. ltb 0 (ticks x.1)) cs.waiting_times (waits-coded s ok) (waits-tick s ok)))))

      of-transitions : T (all ticks-fit (transition_clocks cs))
      of-transitions =
          all-gather (λ x. coded_transition x && ticking x.trigger) ticks-fit (λ x. clocks_of x.trigger)
          (λ x t. of-trigger x.trigger (and_right (between 1 16 x.priority) (coded_trigger x.trigger) (and_left (coded_transition x) (ticking x.trigger) t)) (and_right (coded_transition x) (ticking x.trigger) t))
          cs.transitions (all_both coded_transition (λ x. ticking x.trigger) cs.transitions (transitions-coded s ok) (triggers-tick s ok))

  -- ---- automata

  -- not "ends or initial location in another automaton"
  pub twin_inside : T (inside_automata (twin cs))
  twin_inside =
      both_of (all inside (twin cs).edges) (all starts (upto (length cs.initial)))
      (all_edges cs inside each)
      (all-upto starts (length cs.initial) (λ a h. initial-home s ok a h))
    where
      inside : Edge → Bool
      inside e = eqb (home cs.homes e.source) e.automaton && eqb (home cs.homes e.target) e.automaton

      each : (o : Origin) → IsOrigin cs o → T (inside (edge_of cs o))
      each (from_transition t) h =
          both_of (eqb (home cs.homes (transition cs t).source) (home cs.homes (transition cs t).source)) (eqb (home cs.homes (transition cs t).target) (home cs.homes (transition cs t).source))
          (eqb_refl (home cs.homes (transition cs t).source)) (of-true (eq→eqb (sym (transition-same-chart s ok t h))))
      each (from_idling z) h =
          both_of (eqb (home cs.homes z) (home cs.homes z)) (eqb (home cs.homes z) (home cs.homes z)) (eqb_refl (home cs.homes z)) (eqb_refl (home cs.homes z))
      each (from_waiting z) h =
          both_of (eqb (home cs.homes z) (home cs.homes z)) (eqb (home cs.homes z) (home cs.homes z)) (eqb_refl (home cs.homes z)) (eqb_refl (home cs.homes z))

      starts : ℕ → Bool
      starts a = eqb (home cs.homes (get_or cs.initial a 0)) a

  -- not "an idle edge with two different ends"
  pub twin-stays : T (idle_edges_stay (twin cs))
  twin-stays = all_edges cs (λ e. not e.idles || eqb e.source e.target) each
    where
      each : (o : Origin) → IsOrigin cs o → T (not (edge_of cs o).idles || eqb (edge_of cs o).source (edge_of cs o).target)
      each (from_transition t) h = tt
      each (from_waiting z) h = eqb_refl z
      each (from_idling z) h = eqb_refl z

  -- ---- nodes

  -- not "node sorts or order; a node operand twice"
  pub twin-nodes : T (table_nodes_fit (twin cs))
  twin-nodes =
      all-five
      (operands_fit (node_of cs.nodes) (length cs.nodes))
      (all truths (gather (λ x. guard_nodes x.1.guard) (twin cs).literals))
      (all truths (gather (λ x. guard_nodes x.1.guard) (twin cs).updates))
      (all numbers (gather (λ x. assigned_nodes x.1.deed) (twin cs).updates))
      (all (λ n. leb (operand_uses (node_of cs.nodes) (length cs.nodes) n) 1) (upto (length cs.nodes)))
      (operands-fit s ok) literal-guards
      (update-nodes truths (λ a. guard_nodes a.guard) action-guards)
      (update-nodes numbers (λ a. assigned_nodes a.deed) (assigned-numbers s ok))
      (all-upto (λ n. leb (operand_uses (node_of cs.nodes) (length cs.nodes) n) 1) (length cs.nodes) once)
    where
      truths : ℕ → Bool
      truths n = is_truth (sort_of (node_of cs.nodes n))

      numbers : ℕ → Bool
      numbers n = is_number (sort_of (node_of cs.nodes n))

      transition-guards : T (all truths (transition_guards cs))
      transition-guards = all_left truths (transition_guards cs) (action_guards cs) (guards-truths s ok)

      action-guards : T (all truths (action_guards cs))
      action-guards = all_right truths (transition_guards cs) (action_guards cs) (guards-truths s ok)

      literal-guards : T (all truths (gather (λ x. guard_nodes x.1.guard) (twin cs).literals))
      literal-guards =
          all-gather (λ x. ltb x.0 (length (twin cs).edges) && all truths (guard_nodes x.1.guard)) truths (λ x. guard_nodes x.1.guard)
          (λ x t. and_right (ltb x.0 (length (twin cs).edges)) (all truths (guard_nodes x.1.guard)) t) (twin cs).literals
          (all-literals cs (λ l. all truths (guard_nodes l.guard))
          (λ m t h. all-get_or-or (λ x. all truths (guard_nodes x.guard)) cs.transitions no_transition t (gathered-all truths (λ x. guard_nodes x.guard) cs.transitions transition-guards) (all_nil truths))
          (λ m z h. all_nil truths))

      -- what the actions' nodes pass, the updates' do
      update-nodes : (p : ℕ → Bool) (f : Action → List ℕ) → T (all p (gather (λ x. f x.1) (all_actions cs))) → T (all p (gather (λ x. f x.1) (twin cs).updates))
      update-nodes p f t =
          all-gather (λ x. ltb x.0 (length (twin cs).edges) && all p (f x.1)) p (λ x. f x.1) (λ x u. and_right (ltb x.0 (length (twin cs).edges)) (all p (f x.1)) u) (twin cs).updates
          (all-updates cs (λ a. all p (f a)) (all_right each cs.entries cs.exits of-states) (all_right each (cs.entries ++ cs.exits) cs.transition_actions of_three) (all_left each cs.entries cs.exits of-states)
          (all_right each (cs.entries ++ cs.exits ++ cs.transition_actions) cs.waiting_actions of-all))
        where
          each : ℕ × Action → Bool
          each x = all p (f x.1)

          of-all : T (all each (all_actions cs))
          of-all = gathered-all p (λ x. f x.1) (all_actions cs) t

          of_three : T (all each (cs.entries ++ cs.exits ++ cs.transition_actions))
          of_three = all_left each (cs.entries ++ cs.exits ++ cs.transition_actions) cs.waiting_actions of-all

          of-states : T (all each (cs.entries ++ cs.exits))
          of-states = all_left each (cs.entries ++ cs.exits) cs.transition_actions of_three

      once : (n : ℕ) → n < length cs.nodes → T (leb (operand_uses (node_of cs.nodes) (length cs.nodes) n) 1)
      once n h = let u : uses cs n ≡ 1 = used-once s ok n h in le→leb (operand_uses (node_of cs.nodes) (length cs.nodes) n) 1 (omega arith)
