-- What a framed chart file says, as reads of its bytes: each list of `read_charts` by its things' numbers. Assumes nothing.
use mathlib.Core.Path.{◌≡◌, sym, ap, ◌∙◌}
use mathlib.Core.Bool.{Bool, not, cond, ◌&&◌, ◌||◌}
use mathlib.Core.List.{List, [], ◌∷◌, map}
use Prim.Native.Nat.{ℕ, ◌+◌, ◌*◌, ◌^◌, ◌≤◌, ◌<◌}
use native.Mathlib.Nat.{zero-add}
use native.Mathlib.Omega.{arith}
use lib.Dec.{eqb}
use lib.ListN.{length, get_or, length-map}
use Rattle.prelude.specs.Lists.{all, count, keep, gather, upto, case_of}
use Rattle.records.specs.Bytes.{byte, two, four, signed, of_kind}
use Rattle.framing.specs.Framing.{how_many, first_of}
use Rattle.records.proofs.Records.{record_at, byte-record}
use Rattle.records.proofs.RoundTrips.{two-record, four-record}
use Rattle.prelude.proofs.Counts.{get_or-upto}
use Rattle.framing.proofs.Framed.{length-of_kind, first-and-many, framed-most}
use Rattle.expressions.specs.Nodes.{read_node, node_of, node_at}
use Rattle.prelude.specs.Owned.{of}
use Rattle.model.specs.Runs.{Action}
use Rattle.model.specs.ChartSet.{event, after, every, always, no_transition, transition, read_guard, action_by, read_transition, read_variable, read_action, of_place, read_actions, read_charts}
use Rattle.model.specs.ChartFile.{chart_limits}
use Rattle.chart_records.specs.declared.Shape.{Shape}
use Rattle.chart_records.specs.Shape.{IsShape}
use Rattle.chart_records.specs.Places.{first_state, first_transition, first_variable, first_node, first_action, transition_in, variable_in, action_in, wait_in, initial_at, home_at, transition_at, variable_at, place_at, action_at, wait_at, node_part}
use Rattle.chart_records.proofs.Places.{things, none_below, next-first, things-read, node-part, node-lookup}
use Rattle.prelude.proofs.Maps.{all_map, count_map, keep-map, map-map, gather-map, all_keep, count-keep, keep-keep, gather-keep}

-- ---- what record n says, read where it stands

module _ (s : List ℕ) (n : ℕ) where
  pub transition-record : read_transition (record_at s n) ≡ transition_in s n
  transition-record =
      let b : (k : ℕ) → k < 16 → byte (record_at s n) k ≡ byte s (16 * n + k) = byte-record s n in
      let f : four (record_at s n) 8 ≡ four s (16 * n + 8) = four-record s n 8 (omega arith) in
      λ i. record {
        priority = b 1 (omega arith) i;
        source = two-record s n 2 (omega arith) i;
        target = two-record s n 4 (omega arith) i;
        trigger = case_of (b 6 (omega arith) i) ((1, event (b 7 (omega arith) i)) ∷ (2, after (f i)) ∷ (3, every (f i)) ∷ []) always;
        guard = read_guard (two-record s n 12 (omega arith) i);
      }

  pub variable-record : read_variable (record_at s n) ≡ variable_in s n
  variable-record = λ i. record {
    lowest = signed (2 ^ 15) (two-record s n 2 (omega arith) i);
    highest = signed (2 ^ 15) (two-record s n 4 (omega arith) i);
    start = signed (2 ^ 15) (two-record s n 6 (omega arith) i);
  }

  pub action-record : read_action (record_at s n) ≡ action_in s n
  action-record = λ i. (
    two-record s n 2 (omega arith) i,
    action_by (two-record s n 8 (omega arith) i) (byte-record s n 4 (omega arith) i) (byte-record s n 5 (omega arith) i) (two-record s n 6 (omega arith) i),
  )

-- ---- where each kind starts

module _ (s : List ℕ) (sh : Shape) (is : IsShape s sh) where
  pub first-chart : first_of 1 s ≡ 0
  first-chart = none_below 1 chart_limits s is.framed

  pub first-state : first_of 2 s ≡ first_state sh
  first-state = omega (arith, first-chart, next-first s 1)

  pub first-transition : first_of 3 s ≡ first_transition sh
  first-transition = omega (arith, first-state, next-first s 2)

  pub first-variable : first_of 4 s ≡ first_variable sh
  first-variable = omega (arith, first-transition, next-first s 3)

  pub first-node : first_of 5 s ≡ first_node sh
  first-node = omega (arith, first-variable, next-first s 4)

  pub first-action : first_of 6 s ≡ first_action sh
  first-action = omega (arith, first-node, next-first s 5)

  -- ---- amounts

  pub at_most : (j : ℕ) → j < 6 → how_many (1 + j) s ≤ get_or chart_limits j 0
  at_most j h = framed-most 1 chart_limits s is.framed j (omega arith) h

  pub most-charts : sh.charts ≤ 8
  most-charts = omega (arith, at_most 0 (omega arith))

  pub most-states : sh.states ≤ 128
  most-states = omega (arith, at_most 1 (omega arith))

  pub most-transitions : sh.transitions ≤ 256
  most-transitions = omega (arith, at_most 2 (omega arith))

  pub most-variables : sh.variables ≤ 64
  most-variables = omega (arith, at_most 3 (omega arith))

  pub most-nodes : sh.nodes ≤ 1024
  most-nodes = omega (arith, at_most 4 (omega arith))

  pub most-actions : sh.actions ≤ 512
  most-actions = omega (arith, at_most 5 (omega arith))

  -- all records are in the file
  pub inside : 16 * (first_action sh + sh.actions) ≤ length s
  inside = omega (arith, first-action, first-and-many 6 s)

  -- ---- lengths

  pub length-initial : length (read_charts s).initial ≡ sh.charts
  length-initial = length-map (of_kind 1 s) (λ r. two r 2) ∙ length-of_kind 1 s ∙ sym is.charts

  pub length-homes : length (read_charts s).homes ≡ sh.states
  length-homes = length-map (of_kind 2 s) (λ r. byte r 1) ∙ length-of_kind 2 s ∙ sym is.states

  pub length-transitions : length (read_charts s).transitions ≡ sh.transitions
  length-transitions = length-map (of_kind 3 s) read_transition ∙ length-of_kind 3 s ∙ sym is.transitions

  pub length-variables : length (read_charts s).variables ≡ sh.variables
  length-variables = length-map (of_kind 4 s) read_variable ∙ length-of_kind 4 s ∙ sym is.variables

  pub length-nodes : length (read_charts s).nodes ≡ sh.nodes
  length-nodes = length-map (of_kind 5 s) read_node ∙ length-of_kind 5 s ∙ sym is.nodes

  -- ---- whole lists, by the numbers of their things

  pub initial-are : (read_charts s).initial ≡ map (initial_at s sh) (upto sh.charts)
  initial-are =
      things-read 1 chart_limits s is.framed (λ r. two r 2) (initial_at s sh) 1 sh.charts 0 is.charts first-chart
      (λ i l. two-record s (0 + i) 2 (omega arith) ∙ ap (λ n. two s (16 * n + 2)) (zero-add i))

  pub homes-are : (read_charts s).homes ≡ map (home_at s sh) (upto sh.states)
  homes-are = things-read 1 chart_limits s is.framed (λ r. byte r 1) (home_at s sh) 2 sh.states (first_state sh) is.states first-state (λ i l. byte-record s (first_state sh + i) 1 (omega arith))

  pub transitions-are : (read_charts s).transitions ≡ map (transition_at s sh) (upto sh.transitions)
  transitions-are = things-read 1 chart_limits s is.framed read_transition (transition_at s sh) 3 sh.transitions (first_transition sh) is.transitions first-transition (λ i l. transition-record s (first_transition sh + i))

  pub variables-are : (read_charts s).variables ≡ map (variable_at s sh) (upto sh.variables)
  variables-are = things-read 1 chart_limits s is.framed read_variable (variable_at s sh) 4 sh.variables (first_variable sh) is.variables first-variable (λ i l. variable-record s (first_variable sh + i))

  -- a node is that of the part of the file that has the nodes' records
  pub nodes-are : (read_charts s).nodes ≡ map (node_at (node_part s sh)) (upto sh.nodes)
  nodes-are = things-read 1 chart_limits s is.framed read_node (node_at (node_part s sh)) 5 sh.nodes (first_node sh) is.nodes first-node (node-part s (first_node sh) sh.nodes)

  -- ---- thing i

  pub initial-is : (c : ℕ) → c < sh.charts → get_or (read_charts s).initial c 0 ≡ initial_at s sh c
  initial-is c h = ap (λ l. get_or l c 0) initial-are ∙ get_or-upto (initial_at s sh) 0 sh.charts c h

  pub home-is : (n : ℕ) → n < sh.states → get_or (read_charts s).homes n 0 ≡ home_at s sh n
  home-is n h = ap (λ l. get_or l n 0) homes-are ∙ get_or-upto (home_at s sh) 0 sh.states n h

  pub transition-is : (t : ℕ) → t < sh.transitions → transition (read_charts s) t ≡ transition_at s sh t
  transition-is t h = ap (λ l. get_or l t no_transition) transitions-are ∙ get_or-upto (transition_at s sh) no_transition sh.transitions t h

  -- also past the end, where both are unknown
  pub node-is : (n : ℕ) → node_of (read_charts s).nodes n ≡ node_at (node_part s sh) n
  node-is = node-lookup s (first_node sh) sh.nodes (read_charts s).nodes length-nodes nodes-are

  -- the same, as lookups
  pub lookup-is : node_of (read_charts s).nodes ≡ node_at (node_part s sh)
  lookup-is = λ j n. node-is n j

  -- ---- actions of a place: 1 entry, 2 exit, 3 transition, 4 waiting

  module _ (place : ℕ) where
    -- what the records of a place say, each read by itself
    of-place : {A : Type 0} (read : List ℕ → A) (at : ℕ → A) → ((n : ℕ) → read (record_at s n) ≡ at n) →
        map read (of_place place s) ≡ map (λ i. at (first_action sh + i)) (keep (λ i. eqb (place_at s sh i) place) (upto sh.actions))
    of-place read at e =
        ap (λ l. map read (keep here l)) records-are
        ∙ ap (map read) (keep-map (λ i. record_at s (first_action sh + i)) here (upto sh.actions))
        ∙ map-map (λ i. record_at s (first_action sh + i)) read (keep (λ i. here (record_at s (first_action sh + i))) (upto sh.actions))
        ∙ (λ j. map (λ i. e (first_action sh + i) j) (keep (λ i. eqb (byte-record s (first_action sh + i) 1 (omega arith) j) place) (upto sh.actions)))
      where
        here : List ℕ → Bool
        here r = eqb (byte r 1) place

        records-are : of_kind 6 s ≡ map (λ i. record_at s (first_action sh + i)) (upto sh.actions)
        records-are = things 1 chart_limits s is.framed 6 ∙ (λ j. map (λ i. record_at s (first-action j + i)) (upto (sym is.actions j)))

    pub actions-are : read_actions place s ≡ map (action_at s sh) (keep (λ i. eqb (place_at s sh i) place) (upto sh.actions))
    actions-are = of-place read_action (action_in s) (action-record s)

    module _ (p : ℕ × Action → Bool) where
      pub all-actions : all p (read_actions place s) ≡ all (λ i. not (eqb (place_at s sh i) place) || p (action_at s sh i)) (upto sh.actions)
      all-actions =
          ap (all p) actions-are
          ∙ all_map (action_at s sh) p (keep (λ i. eqb (place_at s sh i) place) (upto sh.actions))
          ∙ all_keep (λ i. eqb (place_at s sh i) place) (λ i. p (action_at s sh i)) (upto sh.actions)

      pub count-actions : count p (read_actions place s) ≡ count (λ i. eqb (place_at s sh i) place && p (action_at s sh i)) (upto sh.actions)
      count-actions =
          ap (count p) actions-are
          ∙ count_map (action_at s sh) p (keep (λ i. eqb (place_at s sh i) place) (upto sh.actions))
          ∙ count-keep (λ i. eqb (place_at s sh i) place) (λ i. p (action_at s sh i)) (upto sh.actions)

    pub gather-actions : {A : Type 0} (f : ℕ × Action → List A) →
        gather f (read_actions place s) ≡ gather (λ i. cond (eqb (place_at s sh i) place) (f (action_at s sh i)) []) (upto sh.actions)
    gather-actions f =
        ap (gather f) actions-are
        ∙ gather-map (action_at s sh) f (keep (λ i. eqb (place_at s sh i) place) (upto sh.actions))
        ∙ gather-keep (λ i. eqb (place_at s sh i) place) (λ i. f (action_at s sh i)) (upto sh.actions)

    -- the actions of an owner, in file order
    pub of-actions : (owner : ℕ) →
        of owner (read_actions place s)
        ≡ map (λ i. (action_at s sh i).1) (keep (λ i. eqb (place_at s sh i) place && eqb (action_at s sh i).0 owner) (upto sh.actions))
    of-actions owner =
        ap (of owner) actions-are
        ∙ ap (map (λ x. x.1)) (keep-map (action_at s sh) (λ x. eqb x.0 owner) (keep (λ i. eqb (place_at s sh i) place) (upto sh.actions)))
        ∙ map-map (action_at s sh) (λ x. x.1) (keep (λ i. eqb (action_at s sh i).0 owner) (keep (λ i. eqb (place_at s sh i) place) (upto sh.actions)))
        ∙ ap (map (λ i. (action_at s sh i).1)) (keep-keep (λ i. eqb (place_at s sh i) place) (λ i. eqb (action_at s sh i).0 owner) (upto sh.actions))

  -- ---- waiting times

  pub waits-are : (read_charts s).waiting_times ≡ map (wait_at s sh) (keep (λ i. eqb (place_at s sh i) 4) (upto sh.actions))
  waits-are = of-place 4 (λ r. (two r 2, four r 12)) (wait_in s) (λ n i. (two-record s n 2 (omega arith) i, four-record s n 12 (omega arith) i))
