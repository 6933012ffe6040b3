-- "The translation": the automata of a chart set. Assumes nothing: these are definitions.
use Rattle.std.proofs.Math.Option.{none}
use Rattle.std.specs.Prelude.{Bool, true, false, cond, ◌&&◌, List, [], ◌∷◌, ◌++◌, map, ℕ, ◌+◌, ◌-◌, ltb, eqb, length, get_or, take, drop}
use Rattle.prelude.specs.Lists.{keep, gather, from, upto}
use Rattle.records.specs.Refusal.{short_buffer, Out, val, ◌>>◌, fault_if, unless_refused}
use Rattle.model.specs.Limits.{most_priorities}
use Rattle.prelude.specs.Owned.{of, by_owner}
use Rattle.model.specs.Owned.{home}
use Rattle.model.specs.Outcome.{Outcome, settled}
use Rattle.model.specs.Runs.{Action}
use Rattle.model.specs.ChartSet as C
use Rattle.model.specs.ChartSet.{ChartSet, transition, waits, read_charts}
use Rattle.model.specs.Charts.{ticks, Charts}
use Rattle.model.specs.ChartFile.{charts_refusal, ChartFile}
use Rattle.model.specs.AutomataTable as A
use Rattle.model.specs.AutomataTable.{Automata, Edge, Literal, LiteralTrigger, Clock, write_automata}
use Rattle.model.specs.Automata.{Automata·}

-- a timing trigger's clock
abbrev pub clocks_of : C.Trigger → List Clock
clocks_of C.always = []
clocks_of (C.event e) = []
clocks_of (C.after ms) = record { timing = A.after; ticks = ticks ms } ∷ []
clocks_of (C.every ms) = record { timing = A.every; ticks = ticks ms } ∷ []

-- what an edge came of: a transition, the waiting actions of a state that are due, or the idling in a state
pub data Origin : Type 0 where
  from_transition : ℕ → Origin
  from_waiting : ℕ → Origin
  from_idling : ℕ → Origin

module _ (cs : ChartSet) where
  abbrev pub state_count : ℕ
  state_count = length cs.homes

  abbrev pub transition_count : ℕ
  transition_count = length cs.transitions

  -- ---- "Edges: one per transition, in order, then one idle edge per state, in state order." "The idle edge of such a state becomes two, in the place of the
  -- one: first due, updated by those actions, then not due" (request 4).

  abbrev pub idle_origins : ℕ → List Origin
  idle_origins s = map (λ _. from_waiting s) (waits cs s) ++ (from_idling s ∷ [])

  abbrev pub origins : List Origin
  origins = map from_transition (upto transition_count) ++ gather idle_origins (upto state_count)

  -- the number of an origin's edge, and the origin of edge e (past the last one none that gives a row)
  abbrev pub first_idle : ℕ → ℕ
  first_idle s = transition_count + length (gather idle_origins (upto s))

  abbrev pub edge_number : Origin → ℕ
  edge_number (from_transition t) = t
  edge_number (from_waiting s) = first_idle s
  edge_number (from_idling s) = first_idle s + length (waits cs s)

  abbrev pub origin_of : ℕ → Origin
  origin_of e = get_or origins e (from_idling 0)

  abbrev pub edge_of : Origin → Edge
  edge_of (from_transition t) = record { automaton = home cs.homes (transition cs t).source; source = (transition cs t).source; target = (transition cs t).target; idles = false }
  edge_of (from_waiting s) = record { automaton = home cs.homes s; source = s; target = s; idles = true }
  edge_of (from_idling s) = record { automaton = home cs.homes s; source = s; target = s; idles = true }

  -- what origins have, by edge
  abbrev pub by_edge : {A : Type 0} → (Origin → List A) → List (ℕ × A)
  by_edge f = by_owner (length origins) (λ e. f (origin_of e))

  -- ---- "Clocks: one per timing trigger, in transition order", then "one more every-clock, numbered after the transitions' clocks in state order" (request 4)

  abbrev pub transition_clocks : List Clock
  transition_clocks = gather (λ x. clocks_of x.trigger) cs.transitions

  abbrev pub waiting_clocks : ℕ → List Clock
  waiting_clocks s = map (λ ms. record { timing = A.every; ticks = ticks ms }) (waits cs s)

  -- the number of transition t's clock, and of waiting state s's
  abbrev pub clock_of : ℕ → ℕ
  clock_of t = length (gather (λ x. clocks_of x.trigger) (take t cs.transitions))

  abbrev pub waiting_clock : ℕ → ℕ
  waiting_clock s = length transition_clocks + length (gather waiting_clocks (upto s))

  abbrev pub literal_trigger_of : ℕ → C.Trigger → LiteralTrigger
  literal_trigger_of t C.always = A.always
  literal_trigger_of t (C.event e) = A.event e
  literal_trigger_of t (C.after ms) = A.clock (clock_of t)
  literal_trigger_of t (C.every ms) = A.clock (clock_of t)

  -- ---- "Literals by edge: for each leaving transition of higher priority, ascending, one that must not hold; then the edge's own. An idle edge has the
  -- must-nots of all. Negations come first."

  abbrev pub literal : Bool → ℕ → Literal
  literal must t = record { must = must; trigger = literal_trigger_of t (transition cs t).trigger; guard = (transition cs t).guard }

  -- the transitions that leave s and are tried before one of priority p: those of priority 1, then of 2, … up to p − 1
  abbrev pub tried_before : ℕ → ℕ → List ℕ
  tried_before s p = gather (λ q. keep (λ u. eqb (transition cs u).source s && eqb (transition cs u).priority q) (upto transition_count)) (from 1 (p - 1))

  abbrev pub must_nots : ℕ → List Literal
  must_nots s = map (literal false) (tried_before s (most_priorities + 1))

  -- "Each due or not-due edge reads the must-nots, then the clock" (request 4).
  abbrev pub waiting_literal : Bool → ℕ → Literal
  waiting_literal must s = record { must = must; trigger = A.clock (waiting_clock s); guard = none }

  abbrev pub literals_of : Origin → List Literal
  literals_of (from_transition t) = map (literal false) (tried_before (transition cs t).source (transition cs t).priority) ++ (literal true t ∷ [])
  literals_of (from_waiting s) = must_nots s ++ (waiting_literal true s ∷ [])
  literals_of (from_idling s) = must_nots s ++ map (λ _. waiting_literal false s) (waits cs s)

  -- ---- "Updates by edge: exit, transition, entry."

  abbrev pub updates_of : Origin → List Action
  updates_of (from_transition t) = of (transition cs t).source cs.exits ++ of t cs.transition_actions ++ of (transition cs t).target cs.entries
  updates_of (from_waiting s) = of s cs.waiting_actions
  updates_of (from_idling s) = []

  -- ---- "Resets by edge, then clock: all clocks of transitions leaving the target; idle edges have none."

  abbrev pub clocks_leaving : ℕ → List ℕ
  clocks_leaving s =
      gather (λ t. cond (eqb (transition cs t).source s) (map (λ _. clock_of t) (clocks_of (transition cs t).trigger)) []) (upto transition_count)

  -- those of the transitions, then the waiting clock, "reset on entering the state" (request 4)
  abbrev pub clocks_of_state : ℕ → List ℕ
  clocks_of_state s = clocks_leaving s ++ map (λ _. waiting_clock s) (waits cs s)

  abbrev pub resets_of : Origin → List ℕ
  resets_of (from_transition t) = clocks_of_state (transition cs t).target
  resets_of (from_waiting s) = []
  resets_of (from_idling s) = []

  -- ---- "Each chart gives the automaton, each state the location of its own number; variables and nodes are copied."

  abbrev pub twin : Automata
  twin = record {
    initial = cs.initial;
    homes = cs.homes;
    edges = map edge_of origins;
    literals = by_edge literals_of;
    clocks = transition_clocks ++ gather waiting_clocks (upto state_count);
    variables = cs.variables;
    nodes = cs.nodes;
    updates = by_edge updates_of;
    resets = by_edge resets_of;
  }

-- the twin's file
abbrev pub twin_bytes : List ℕ → List ℕ
twin_bytes s = write_automata (twin (read_charts s))

-- 10 "result longer than the buffer". "Its answer is its length; bytes beyond are kept."
abbrev pub written : List ℕ → List ℕ → Out (ℕ × List ℕ)
written out buffer =
    fault_if (ltb (length buffer) (length out)) short_buffer >> val (length out, out ++ drop (length out) buffer)

-- a set translated into a lent buffer
abbrev pub translate : List ℕ → List ℕ → Outcome ℕ (List ℕ)
translate s buffer = settled buffer (unless_refused (charts_refusal s) (written (twin_bytes s) buffer))

-- what a proof that computes with these opens
unfoldable pub Translation : Type 0
unfolding ChartFile Charts Automata·
Translation = Unit
