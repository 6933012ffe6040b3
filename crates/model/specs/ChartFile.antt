-- The refusals of a chart file, 1 to 9 and 25. Assumes nothing: these are definitions.
use Rattle.std.proofs.Math.Option.{Option, some, none}
use Rattle.std.specs.Prelude.{Bool, true, false, not, ◌&&◌, ◌||◌, List, [], ◌∷◌, ◌++◌, map, ℕ, ◌+◌, ◌-◌, leb, ltb, eqb, length, get_or, take, drop}
use Rattle.std.specs.Int.Signed.{le_z}
use Rattle.prelude.specs.Lists.{keep, all, any, count, case_of, gather, upto, distinct}
use Rattle.records.specs.Refusal.{Refusal, stray_byte, broken_code, dangling_number, broken_structure, broken_node, zero_ticks, unlike_waits, lowest}
use Rattle.records.specs.Bytes.{byte, four, two±, records, kind}
use Rattle.framing.specs.Framing.{framing_tests, Framing}
use Rattle.expressions.specs.Nodes.{node_of}
use Rattle.expressions.specs.Sorts.{sort_of, is_number, is_truth, nodes_named, operands_fit, operand_uses, Sorts}
use Rattle.model.specs.Limits.{most_charts, most_states, most_transitions, most_variables, most_nodes, most_actions, last_event, most_priorities, most_owned, most_milliseconds}
use Rattle.prelude.specs.Owned.{of}
use Rattle.model.specs.Owned.{home}
use Rattle.model.specs.Runs.{Deed, assign, raise, Action}
use Rattle.model.specs.ChartSet.{Trigger, always, event, after, every, Transition, ChartSet, read_charts, waits, ChartSet·}
use Rattle.model.specs.Charts.{ticks}

-- ---- 1 to 3: "Chart set, with the most of each kind", from kind 1 on

abbrev pub chart_limits : List ℕ
chart_limits = most_charts ∷ most_states ∷ most_transitions ∷ most_variables ∷ most_nodes ∷ most_actions ∷ []

-- ---- 4: "an unnamed or unused byte not zero (under an unknown code, an unnamed one)"

-- bytes a to b, as the paper counts them: both are among them
abbrev pub zero_bytes : ℕ → ℕ → List ℕ → Bool
zero_bytes a b r = all (λ x. eqb x 0) (take (b + 1 - a) (drop a r))

-- The unnamed bytes of each kind, and those that the record's codes leave unused, as ranges: (14, 15) are bytes 14 and 15.
abbrev pub unused_transition : List ℕ → List (ℕ × ℕ)
unused_transition r =
    (14, 15)
    ∷ case_of (byte r 6) ((0, (7, 11) ∷ []) ∷ (1, (8, 11) ∷ []) ∷ (2, (7, 7) ∷ []) ∷ (3, (7, 7) ∷ []) ∷ []) []

abbrev pub unused_variable : List (ℕ × ℕ)
unused_variable = (1, 1) ∷ (8, 15) ∷ []

abbrev pub unused_node : List ℕ → List (ℕ × ℕ)
unused_node r =
    (12, 15)
    ∷ case_of (byte r 1)
    ((1, (2, 7) ∷ []) ∷ (2, (4, 11) ∷ []) ∷ (8, (8, 11) ∷ []) ∷ (19, (4, 11) ∷ [])
    ∷ map (λ o. (o, (6, 11) ∷ [])) (3 ∷ 4 ∷ 5 ∷ 6 ∷ 7 ∷ 16 ∷ 17 ∷ 18 ∷ 20 ∷ 21 ∷ [])) []

-- a place other than 4 leaves the milliseconds unused
abbrev pub unused_action : List ℕ → List (ℕ × ℕ)
unused_action r =
    (10, 11)
    ∷ case_of (byte r 1) (map (λ p. (p, (12, 15) ∷ [])) (1 ∷ 2 ∷ 3 ∷ [])) []
    ++ case_of (byte r 4) ((2, (6, 7) ∷ []) ∷ []) []

abbrev pub unused : List ℕ → List (ℕ × ℕ)
unused r =
    case_of (kind r)
    ((1, (1, 1) ∷ (4, 15) ∷ [])
    ∷ (2, (2, 15) ∷ [])
    ∷ (3, unused_transition r)
    ∷ (4, unused_variable)
    ∷ (5, unused_node r)
    ∷ (6, unused_action r)
    ∷ [])
    []

abbrev pub unused_are_zero : List (ℕ × ℕ) → List ℕ → Bool
unused_are_zero ranges r = all (λ x. zero_bytes x.0 x.1 r) ranges

-- ---- 5: "a code or range above broken"

abbrev pub between : ℕ → ℕ → ℕ → Bool
between a b n = leb a n && leb n b

-- the range "event 0 to 31"
abbrev pub is_event : ℕ → Bool
is_event e = leb e last_event

-- the range "milliseconds 1 to 3,600,000"
abbrev pub is_duration : ℕ → Bool
is_duration ms = between 1 most_milliseconds ms

abbrev pub transition_in_code : List ℕ → Bool
transition_in_code r =
    between 1 most_priorities (byte r 1) && leb (byte r 6) 3
    && case_of (byte r 6) ((1, is_event (byte r 7)) ∷ (2, is_duration (four r 8)) ∷ (3, is_duration (four r 8)) ∷ []) true

-- the range "lowest ≤ start ≤ highest"
abbrev pub variable_in_code : List ℕ → Bool
variable_in_code r = le_z (two± r 2) (two± r 6) && le_z (two± r 6) (two± r 4)

abbrev pub node_in_code : List ℕ → Bool
node_in_code r = between 1 8 (byte r 1) || between 16 21 (byte r 1)

-- a deed's code, and its event if it raises one
abbrev pub deed_in_code : ℕ → ℕ → Bool
deed_in_code code x = between 1 2 code && case_of code ((2, is_event x) ∷ []) true

abbrev pub action_in_code : List ℕ → Bool
action_in_code r = between 1 4 (byte r 1) && deed_in_code (byte r 4) (byte r 5) && case_of (byte r 1) ((4, is_duration (four r 12)) ∷ []) true

abbrev pub in_code : List ℕ → Bool
in_code r = case_of (kind r) ((3, transition_in_code r) ∷ (4, variable_in_code r) ∷ (5, node_in_code r) ∷ (6, action_in_code r) ∷ []) true

-- ---- 6: "a number naming nothing"

abbrev pub guard_named : ℕ → Option ℕ → Bool
guard_named nodes none = true
guard_named nodes (some n) = ltb n nodes

-- a deed's variable and node, of so many
abbrev pub deed_named : ℕ → ℕ → Deed → Bool
deed_named variables nodes (assign v n) = ltb v variables && ltb n nodes
deed_named variables nodes (raise e) = true

-- an action's or an update's
abbrev pub action_named : ℕ → ℕ → Action → Bool
action_named variables nodes a = guard_named nodes a.guard && deed_named variables nodes a.deed

-- actions whose owners are of so many
abbrev pub actions_named : ChartSet → ℕ → List (ℕ × Action) → Bool
actions_named cs owners actions = all (λ x. ltb x.0 owners && action_named (length cs.variables) (length cs.nodes) x.1) actions

abbrev pub all_named : ChartSet → Bool
all_named cs =
    let states = length cs.homes in
    let charts = length cs.initial in
    let nodes = length cs.nodes in
    all (λ s. ltb s states) cs.initial
    && all (λ c. ltb c charts) cs.homes
    && all (λ t. ltb t.source states && ltb t.target states && guard_named nodes t.guard) cs.transitions
    && nodes_named (node_of cs.nodes) nodes (length cs.variables)
    && actions_named cs states cs.entries
    && actions_named cs states cs.exits
    && actions_named cs (length cs.transitions) cs.transition_actions
    && actions_named cs states cs.waiting_actions

-- ---- 7

-- neither trigger nor guard
abbrev pub unconditional : Trigger → Option ℕ → Bool
unconditional always none = true
unconditional always (some n) = false
unconditional (event e) g = false
unconditional (after ms) g = false
unconditional (every ms) g = false

-- not "a ninth action" ("at most 8 an owner"; a state's entry, exit and waiting actions count together)
abbrev pub at_most_eight : List (ℕ × Action) → ℕ → Bool
at_most_eight actions owner = leb (count (λ x. eqb x.0 owner) actions) most_owned

module _ (cs : ChartSet) where
  -- not "transition across charts"
  abbrev pub inside_charts : Bool
  inside_charts = all (λ t. eqb (home cs.homes t.source) (home cs.homes t.target)) cs.transitions

  -- the transitions that leave a state, in file order
  abbrev pub leaving_state : ℕ → List Transition
  leaving_state s = keep (λ t. eqb t.source s) cs.transitions

  -- not "initial state of another chart; initial state without exactly one leaving transition, or that one with trigger or guard, or entered, or with entry
  -- or exit action"
  abbrev pub initial_fits : ℕ → Bool
  initial_fits c =
      let s = get_or cs.initial c 0 in
      eqb (home cs.homes s) c
      && eqb (length (leaving_state s)) 1
      && all (λ t. unconditional t.trigger t.guard) (leaving_state s)
      && not (any (λ t. eqb t.target s) cs.transitions)
      && not (any (λ x. eqb x.0 s) (cs.entries ++ cs.exits))

  -- not "equal priorities leaving a state"
  abbrev pub priorities_differ : ℕ → Bool
  priorities_differ s = distinct (map (λ t. t.priority) (leaving_state s))

  abbrev pub structured : Bool
  structured =
      inside_charts
      && all initial_fits (upto (length cs.initial))
      && all priorities_differ (upto (length cs.homes))
      && all (at_most_eight (cs.entries ++ cs.exits ++ cs.waiting_actions)) (upto (length cs.homes))
      && all (at_most_eight cs.transition_actions) (upto (length cs.transitions))

-- ---- 8

abbrev pub guard_nodes : Option ℕ → List ℕ
guard_nodes none = []
guard_nodes (some n) = n ∷ []

abbrev pub assigned_nodes : Deed → List ℕ
assigned_nodes (assign v n) = n ∷ []
assigned_nodes (raise e) = []

module _ (cs : ChartSet) where
  -- of all places
  abbrev pub all_actions : List (ℕ × Action)
  all_actions = cs.entries ++ cs.exits ++ cs.transition_actions ++ cs.waiting_actions

  abbrev pub transition_guards : List ℕ
  transition_guards = gather (λ t. guard_nodes t.guard) cs.transitions

  abbrev pub action_guards : List ℕ
  action_guards = gather (λ x. guard_nodes x.1.guard) all_actions

  abbrev pub guards : List ℕ
  guards = transition_guards ++ action_guards

  abbrev pub assigned : List ℕ
  assigned = gather (λ x. assigned_nodes x.1.deed) all_actions

  -- as an operand, a guard and an assigned node, all together
  abbrev pub uses : ℕ → ℕ
  uses n = operand_uses (node_of cs.nodes) (length cs.nodes) n + count (λ g. eqb g n) guards + count (λ a. eqb a n) assigned

  -- not "operand node not lower, or of the wrong sort; guard no truth; assigned node no number; a node not used exactly once"
  abbrev pub nodes_fit : Bool
  nodes_fit =
      operands_fit (node_of cs.nodes) (length cs.nodes)
      && all (λ n. is_truth (sort_of (node_of cs.nodes n))) guards
      && all (λ n. is_number (sort_of (node_of cs.nodes n))) assigned
      && all (λ n. eqb (uses n) 1) (upto (length cs.nodes))

-- ---- 9: not "timing trigger of 0 ticks"; a waiting action's refusal 9 is that of the timing triggers (request 4)

abbrev pub ticking : Trigger → Bool
ticking always = true
ticking (event e) = true
ticking (after ms) = ltb 0 (ticks ms)
ticking (every ms) = ltb 0 (ticks ms)

abbrev pub all_ticking : ChartSet → Bool
all_ticking cs = all (λ t. ticking t.trigger) cs.transitions && all (λ x. ltb 0 (ticks x.1)) cs.waiting_times

-- ---- 25: not "waiting actions of one state with different milliseconds" (request 4)

abbrev pub wait_alike : ChartSet → Bool
wait_alike cs = all (λ s. all (λ ms. all (eqb ms) (waits cs s)) (of s cs.waiting_times)) (upto (length cs.homes))

-- ---- all

abbrev pub chart_tests : List ℕ → List (Refusal × Bool)
chart_tests s =
    let cs = read_charts s in
    framing_tests 1 chart_limits s ++ (
    (stray_byte, not (all (λ r. unused_are_zero (unused r) r) (records s)))
    ∷ (broken_code, not (all in_code (records s)))
    ∷ (dangling_number, not (all_named cs))
    ∷ (broken_structure, not (structured cs))
    ∷ (broken_node, not (nodes_fit cs))
    ∷ (zero_ticks, not (all_ticking cs))
    ∷ (unlike_waits, not (wait_alike cs))
    ∷ [])

-- why a chart file is refused, if it is
abbrev pub charts_refusal : List ℕ → Option Refusal
charts_refusal s = lowest (chart_tests s)

-- what a proof that computes with these opens
unfoldable pub ChartFile : Type 0
unfolding ChartSet· Sorts Framing
ChartFile = Unit
