-- Refusal 7 of a framed file, by its transitions' and its actions' numbers. Assumes nothing.
use mathlib.Core.Path.{◌≡◌, refl, sym, ap, ◌∙◌}
use mathlib.Core.Bool.{Bool, true, false, not, ◌&&◌, ◌||◌}
use mathlib.Core.List.{List, ◌++◌, map}
use Prim.Native.Nat.{ℕ, zero, suc, ◌+◌, ◌*◌, ◌≤◌, ◌<◌}
use native.Mathlib.Omega.{arith}
use borrow.Author.Tests.{lt-leb, le-leb, lt-ltb, ltb-true, eqb-true, ne_eqb}
use lib.Dec.{leb, ltb, eqb}
use lib.ListN.{length, replicate}
use Rattle.prelude.specs.Lists.{all, any, count, keep, upto, distinct}
use Rattle.records.specs.Bytes.{records}
use Rattle.prelude.proofs.Counts.{length-keep, and-true, impossible}
use Rattle.expressions.proofs.Uses.{times}
use Rattle.prelude.proofs.Loops.{and_assoc}
use Rattle.model.specs.Owned.{home}
use Rattle.model.specs.Runs.{Action}
use Rattle.model.specs.ChartSet.{Transition, read_charts, read_actions}
use Rattle.model.specs.ChartFile.{between, in_code, inside_charts, leaving_state, unconditional, initial_fits, priorities_differ, at_most_eight}
use Rattle.chart_records.specs.declared.Shape.{Shape}
use Rattle.chart_records.specs.Shape.{IsShape}
use Rattle.chart_records.specs.Places.{transition_at, place_at, action_at, initial_at}
use Rattle.chart_checks.specs.Names.{initial_named, action_named}
use Rattle.chart_files.specs.Tallies.{none_above}
use Rattle.chart_files.specs.Structure.{inside_chart, transition_fits_initials, action_fits_initials, left_once, source_at, pair_at, owner_at}
use Rattle.prelude.proofs.Maps.{all_map, count_map, keep-map, map-map, all_keep}
use Rattle.chart_records.proofs.PlacesRead.{length-homes, length-transitions, initial-is, transitions-are, all-actions, count-actions, most-states}
use Rattle.prelude.proofs.Numbers.{all-at, all-by, all_alike, all_append, count-append, not-any, all_both, count-either}
use Rattle.chart_files.proofs.StructureInitials.{marks, apart-once, idle-once, left-once}
use Rattle.chart_checks.proofs.InCode.{place-in-code}
use Rattle.chart_files.proofs.StructureOwners.{owners-within}
use Rattle.chart_files.proofs.StructurePriorities.{differ-within}

-- ---- places 1 and 2

first_two : (p : ℕ) → between 1 2 p ≡ (eqb p 1 || eqb p 2)
first_two zero = refl
first_two (suc zero) = refl
first_two (suc (suc zero)) = refl
first_two (suc (suc (suc n))) =
    (λ i. le-leb 1 (suc (suc (suc n))) (omega arith) i && lt-leb (suc (suc (suc n))) 2 (omega arith) i)
    ∙ sym (λ i. ne_eqb (suc (suc (suc n))) 1 (λ e. omega arith) i || ne_eqb (suc (suc (suc n))) 2 (λ e. omega arith) i)

module _ (s : List ℕ) (sh : Shape) (is : IsShape s sh) where
  pub inside_is : inside_charts (read_charts s) ≡ all (inside_chart s sh) (upto sh.transitions)
  inside_is =
      ap (all (λ t. eqb (home (read_charts s).homes t.source) (home (read_charts s).homes t.target))) (transitions-are s sh is)
      ∙ all_map (transition_at s sh) (λ t. eqb (home (read_charts s).homes t.source) (home (read_charts s).homes t.target)) (upto sh.transitions)

  -- ---- initial states

  -- of one of them: the transition enters it not, and leaves it, if it does, always; action i is not among its own
  abbrev apart_from : ℕ → ℕ → Bool
  apart_from state t =
      not (eqb (transition_at s sh t).target state)
      && (not (eqb (transition_at s sh t).source state) || unconditional (transition_at s sh t).trigger (transition_at s sh t).guard)

  abbrev idle_in : ℕ → ℕ → Bool
  idle_in state i = not (between 1 2 (place_at s sh i) && eqb (action_at s sh i).0 state)

  module _ (state : ℕ) where
    leaving-is : length (leaving_state (read_charts s) state) ≡ times state (map (source_at s sh) (upto sh.transitions))
    leaving-is =
        length-keep (λ t. eqb t.source state) (read_charts s).transitions
        ∙ ap (count (λ t. eqb t.source state)) (transitions-are s sh is)
        ∙ count_map (transition_at s sh) (λ t. eqb t.source state) (upto sh.transitions)
        ∙ sym (count_map (source_at s sh) (λ n. eqb n state) (upto sh.transitions))

    apart-is : (all (λ t. unconditional t.trigger t.guard) (leaving_state (read_charts s) state) && not (any (λ t. eqb t.target state) (read_charts s).transitions))
        ≡ all (apart_from state) (upto sh.transitions)
    apart-is =
        (λ i. all_keep (λ t. eqb t.source state) (λ t. unconditional t.trigger t.guard) (read_charts s).transitions i && not-any (λ t. eqb t.target state) (read_charts s).transitions i)
        ∙ (λ i. all leaves (transitions-are s sh is i) && all enters (transitions-are s sh is i))
        ∙ (λ i. all_map (transition_at s sh) leaves (upto sh.transitions) i && all_map (transition_at s sh) enters (upto sh.transitions) i)
        ∙ swap (all (λ t. leaves (transition_at s sh t)) (upto sh.transitions)) (all (λ t. enters (transition_at s sh t)) (upto sh.transitions))
        ∙ sym (all_both (λ t. enters (transition_at s sh t)) (λ t. leaves (transition_at s sh t)) (upto sh.transitions))
      where
        leaves : Transition → Bool
        leaves t = not (eqb t.source state) || unconditional t.trigger t.guard

        enters : Transition → Bool
        enters t = not (eqb t.target state)

        swap : (a b : Bool) → (a && b) ≡ (b && a)
        swap true true = refl
        swap true false = refl
        swap false true = refl
        swap false false = refl

    idle-is : not (any (λ x. eqb x.0 state) ((read_charts s).entries ++ (read_charts s).exits)) ≡ all (idle_in state) (upto sh.actions)
    idle-is =
        not-any (λ x. eqb x.0 state) (read_actions 1 s ++ read_actions 2 s)
        ∙ all_append (λ x. not (eqb x.0 state)) (read_actions 1 s) (read_actions 2 s)
        ∙ (λ i. all-actions s sh is 1 (λ x. not (eqb x.0 state)) i && all-actions s sh is 2 (λ x. not (eqb x.0 state)) i)
        ∙ sym (all_both (λ i. not (eqb (place_at s sh i) 1) || not (eqb (action_at s sh i).0 state)) (λ i. not (eqb (place_at s sh i) 2) || not (eqb (action_at s sh i).0 state)) (upto sh.actions))
        ∙ (λ j. all (λ i. at (place_at s sh i) (eqb (action_at s sh i).0 state) j) (upto sh.actions))
      where
        neither : (a b c : Bool) → ((not a || not c) && (not b || not c)) ≡ not ((a || b) && c)
        neither true true true = refl
        neither true true false = refl
        neither true false true = refl
        neither true false false = refl
        neither false b c = by b c
          where
            by : (b c : Bool) → (not b || not c) ≡ not (b && c)
            by true c = refl
            by false c = refl

        at : (p : ℕ) (b : Bool) → ((not (eqb p 1) || not b) && (not (eqb p 2) || not b)) ≡ not (between 1 2 p && b)
        at p b = neither (eqb p 1) (eqb p 2) b ∙ ap (λ t. not (t && b)) (sym (first_two p))

  initial-fits-is : (c : ℕ) → c < sh.charts →
      initial_fits (read_charts s) c
      ≡ (eqb (home (read_charts s).homes (initial_at s sh c)) c
      && eqb (times (initial_at s sh c) (map (source_at s sh) (upto sh.transitions))) 1
      && all (apart_from (initial_at s sh c)) (upto sh.transitions)
      && all (idle_in (initial_at s sh c)) (upto sh.actions))
  initial-fits-is c h =
      ap fits (initial-is s sh is c h)
      ∙ ap (λ b. b && not (any (λ x. eqb x.0 state) ((read_charts s).entries ++ (read_charts s).exits))) (sym (and_assoc (eqb (home (read_charts s).homes state) c && eqb (length (leaving_state (read_charts s) state)) 1) _ _))
      ∙ (λ i. eqb (home (read_charts s).homes state) c && eqb (leaving-is state i) 1 && apart-is state i && idle-is state i)
    where
      state : ℕ
      state = initial_at s sh c

      fits : ℕ → Bool
      fits state =
          eqb (home (read_charts s).homes state) c
          && eqb (length (leaving_state (read_charts s) state)) 1
          && all (λ t. unconditional t.trigger t.guard) (leaving_state (read_charts s) state)
          && not (any (λ t. eqb t.target state) (read_charts s).transitions)
          && not (any (λ x. eqb x.0 state) ((read_charts s).entries ++ (read_charts s).exits))

  -- all charts, in one pass over transitions and one over actions
  module _ (named : all (initial_named s sh) (upto sh.charts) ≡ true) where
    pub initials-is :
        all (initial_fits (read_charts s)) (upto sh.charts)
        ≡ (all (left_once s sh (marks (map (source_at s sh) (upto sh.transitions)))) (upto sh.charts)
        && all (transition_fits_initials s sh (marks (map (initial_at s sh) (upto sh.charts)))) (upto sh.transitions)
        && all (action_fits_initials s sh (marks (map (initial_at s sh) (upto sh.charts)))) (upto sh.actions))
    initials-is =
        all_alike (initial_fits (read_charts s)) (λ c. once c && all (apart_from (initial_at s sh c)) (upto sh.transitions) && all (idle_in (initial_at s sh c)) (upto sh.actions)) sh.charts
        (λ c h. initial-fits-is c h ∙ ap (λ b. eqb (home (read_charts s).homes (initial_at s sh c)) c && b && all (apart_from (initial_at s sh c)) (upto sh.transitions) && all (idle_in (initial_at s sh c)) (upto sh.actions)) (left-once sh.charts (initial_at s sh) below (map (source_at s sh) (upto sh.transitions)) c h))
        ∙ all_both (λ c. once c && all (apart_from (initial_at s sh c)) (upto sh.transitions)) (λ c. all (idle_in (initial_at s sh c)) (upto sh.actions)) (upto sh.charts)
        ∙ (λ i. all_both once (λ c. all (apart_from (initial_at s sh c)) (upto sh.transitions)) (upto sh.charts) i && all (λ c. all (idle_in (initial_at s sh c)) (upto sh.actions)) (upto sh.charts))
        ∙ (λ i. all once (upto sh.charts)
        && apart-once sh.charts (initial_at s sh) below sh.transitions (source_at s sh) (λ t. (transition_at s sh t).target) (λ t. unconditional (transition_at s sh t).trigger (transition_at s sh t).guard) i
        && idle-once sh.charts (initial_at s sh) below sh.actions (λ i. between 1 2 (place_at s sh i)) (λ i. (action_at s sh i).0) i)
      where
        once : ℕ → Bool
        once = left_once s sh (marks (map (source_at s sh) (upto sh.transitions)))

        below : all (λ c. ltb (initial_at s sh c) 128) (upto sh.charts) ≡ true
        below =
            all-by (λ c. ltb (initial_at s sh c) 128) sh.charts
            (λ c h. lt-ltb (initial_at s sh c) 128 (omega (arith, most-states s sh is, ltb-true (initial_at s sh c) sh.states (all-at (initial_named s sh) sh.charts c h named))))

  -- ---- actions of an owner

  state-actions : (owner : ℕ) →
      count (λ x. eqb x.0 owner) ((read_charts s).entries ++ (read_charts s).exits ++ (read_charts s).waiting_actions)
      ≡ count (λ i. (eqb (place_at s sh i) 1 || eqb (place_at s sh i) 2 || eqb (place_at s sh i) 4) && eqb (action_at s sh i).0 owner) (upto sh.actions)
  state-actions owner =
      count-append mine (read_actions 1 s ++ read_actions 2 s) (read_actions 4 s)
      ∙ ap (λ n. n + count mine (read_actions 4 s)) (count-append mine (read_actions 1 s) (read_actions 2 s))
      ∙ (λ i. count-actions s sh is 1 mine i + count-actions s sh is 2 mine i + count-actions s sh is 4 mine i)
      ∙ ap (λ n. n + count (at 4) (upto sh.actions)) (count-either (at 1) (at 2) (λ i. never_both (place_at s sh i) (eqb (action_at s sh i).0 owner)) (upto sh.actions))
      ∙ count-either (λ i. at 1 i || at 2 i) (at 4) (λ i. nor-waiting (place_at s sh i) (eqb (action_at s sh i).0 owner)) (upto sh.actions)
      ∙ (λ j. count (λ i. either (eqb (place_at s sh i) 1) (eqb (place_at s sh i) 2) (eqb (place_at s sh i) 4) (eqb (action_at s sh i).0 owner) j) (upto sh.actions))
    where
      mine : ℕ × Action → Bool
      mine x = eqb x.0 owner

      at : ℕ → ℕ → Bool
      at place i = eqb (place_at s sh i) place && eqb (action_at s sh i).0 owner

      never : (a : Bool) → (a && false) ≡ false
      never true = refl
      never false = refl

      never_both : (p : ℕ) (c : Bool) → ((eqb p 1 && c) && (eqb p 2 && c)) ≡ false
      never_both p c = go (eqb p 2) refl
        where
          go : (b : Bool) → eqb p 2 ≡ b → ((eqb p 1 && c) && (b && c)) ≡ false
          go true e = ap (λ q. (eqb q 1 && c) && c) (eqb-true p 2 e)
          go false e = never (eqb p 1 && c)

      nor-waiting : (p : ℕ) (c : Bool) → (((eqb p 1 && c) || (eqb p 2 && c)) && (eqb p 4 && c)) ≡ false
      nor-waiting p c = go (eqb p 4) refl
        where
          go : (b : Bool) → eqb p 4 ≡ b → (((eqb p 1 && c) || (eqb p 2 && c)) && (b && c)) ≡ false
          go true e = ap (λ q. ((eqb q 1 && c) || (eqb q 2 && c)) && c) (eqb-true p 4 e)
          go false e = never ((eqb p 1 && c) || (eqb p 2 && c))

      or-and : (a b c : Bool) → ((a && c) || (b && c)) ≡ ((a || b) && c)
      or-and true true true = refl
      or-and true true false = refl
      or-and true false true = refl
      or-and true false false = refl
      or-and false b c = refl

      either : (a b d c : Bool) → ((a && c) || (b && c) || (d && c)) ≡ ((a || b || d) && c)
      either a b d c = ap (λ x. x || (d && c)) (or-and a b c) ∙ or-and (a || b) d c

  module _ (in_code : all in_code (records s) ≡ true) (named : all (action_named s sh) (upto sh.actions) ≡ true) where
    owner-known : (i : ℕ) → i < sh.actions → (1 ≤ place_at s sh i) × (place_at s sh i ≤ 4) × (eqb (place_at s sh i) 3 ≡ false → (action_at s sh i).0 < sh.states)
    owner-known i h =
        let p : (1 ≤ place_at s sh i) × (place_at s sh i ≤ 4) = place-in-code s sh is in_code i h in
        (p.0, p.1, at (place_at s sh i) (action_at s sh i).0 _ p.0 p.1 (and-true _ _ (all-at (action_named s sh) sh.actions i h named)).0)
      where
        at : (p x : ℕ) (d : Bool) → 1 ≤ p → p ≤ 4 → (not (eqb p 1 || eqb p 2 || eqb p 4) || (ltb x sh.states && d)) ≡ true → eqb p 3 ≡ false → x < sh.states
        at zero x d a b e l = absurd (omega arith)
        at (suc zero) x d a b e l = ltb-true x sh.states (and-true (ltb x sh.states) d e).0
        at (suc (suc zero)) x d a b e l = ltb-true x sh.states (and-true (ltb x sh.states) d e).0
        at (suc (suc (suc zero))) x d a b e l = impossible l
        at (suc (suc (suc (suc zero)))) x d a b e l = ltb-true x sh.states (and-true (ltb x sh.states) d e).0
        at (suc (suc (suc (suc (suc p))))) x d a b e l = absurd (omega arith)

    pub owners-is :
        (all (at_most_eight ((read_charts s).entries ++ (read_charts s).exits ++ (read_charts s).waiting_actions)) (upto (length (read_charts s).homes))
        && all (at_most_eight (read_charts s).transition_actions) (upto (length (read_charts s).transitions)))
        ≡ none_above 8 (replicate (sh.states + sh.transitions) 0) (map (owner_at s sh) (upto sh.actions))
    owners-is =
        (λ i. all (λ owner. leb (state-actions owner i) 8) (upto (length-homes s sh is i))
        && all (λ owner. leb (count-actions s sh is 3 (λ x. eqb x.0 owner) i) 8) (upto (length-transitions s sh is i)))
        ∙ owners-within sh.actions sh.states sh.transitions (place_at s sh) (λ i. (action_at s sh i).0) owner-known

  -- ---- priorities

  module _ (in_code : (t : ℕ) → t < sh.transitions → (1 ≤ (transition_at s sh t).priority) × ((transition_at s sh t).priority ≤ 16)) where
    pub priorities-is : all (priorities_differ (read_charts s)) (upto (length (read_charts s).homes)) ≡ none_above 1 (replicate (16 * sh.states) 0) (map (pair_at s sh) (upto sh.transitions))
    priorities-is =
        ap (λ n. all (priorities_differ (read_charts s)) (upto n)) (length-homes s sh is)
        ∙ (λ j. all (λ state. distinct (priorities state j)) (upto sh.states))
        ∙ differ-within sh.transitions (λ t. (transition_at s sh t).source) (λ t. (transition_at s sh t).priority) in_code sh.states
      where
        priorities : (state : ℕ) → map (λ t. t.priority) (leaving_state (read_charts s) state) ≡ map (λ t. (transition_at s sh t).priority) (keep (λ t. eqb (transition_at s sh t).source state) (upto sh.transitions))
        priorities state =
            ap (λ l. map (λ t. t.priority) (keep (λ t. eqb t.source state) l)) (transitions-are s sh is)
            ∙ ap (map (λ t. t.priority)) (keep-map (transition_at s sh) (λ t. eqb t.source state) (upto sh.transitions))
            ∙ map-map (transition_at s sh) (λ t. t.priority) (keep (λ t. eqb (transition_at s sh t).source state) (upto sh.transitions))
