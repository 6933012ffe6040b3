-- Automata, kinds 33 to 41: what a file says, and the file of given automata. Assumes nothing: these are definitions.
use Rattle.std.proofs.Math.Option.{Option, some, none}
use Rattle.std.specs.Prelude.{Bool, false, cond, List, [], ◌∷◌, ◌++◌, map, ℕ, ◌+◌, eqb, get_or}
use Rattle.prelude.specs.Lists.{gather, case_of, padded, Lists, bit}
use Rattle.records.specs.Bytes.{byte, two, bytes2, bytes2±, of_kind, Bytes}
use Rattle.expressions.specs.Nodes.{Node, read_node, write_node}
use Rattle.model.specs.Runs.{Variable, Deed, assign, raise, Action}
use Rattle.model.specs.ChartSet.{read_variable, read_guard, action_by}

-- a literal's trigger: "0 none, 1 event, 2 clock"
pub data LiteralTrigger : Type 0 where
  always : LiteralTrigger
  event : ℕ → LiteralTrigger
  clock : ℕ → LiteralTrigger

pub record Edge : Type 0 where
  pub automaton : ℕ
  pub source : ℕ
  pub target : ℕ
  pub idles : Bool

pub record Literal : Type 0 where
  -- must hold, or must not
  pub must : Bool
  pub trigger : LiteralTrigger
  pub guard : Option ℕ

-- "as trigger 2 or 3"
pub data Timing : Type 0 where
  after every : Timing

pub record Clock : Type 0 where
  pub timing : Timing
  pub ticks : ℕ

pub record Automata : Type 0 where
  -- of each automaton its initial location, of each location its automaton
  pub initial : List ℕ
  pub homes : List ℕ
  pub edges : List Edge
  -- each with its edge
  pub literals : List (ℕ × Literal)
  pub clocks : List Clock
  pub variables : List Variable
  pub nodes : List Node
  -- each with its edge
  pub updates : List (ℕ × Action)
  pub resets : List (ℕ × ℕ)

-- ---- reading

-- "35 edge: 1 automaton, 2-3 source, 4-5 target, 6: 1 for an idle edge, else 0"
abbrev pub read_edge : List ℕ → Edge
read_edge r = record { automaton = byte r 1; source = two r 2; target = two r 4; idles = eqb (byte r 6) 1 }

-- "36 literal: 1 sign: 1 must hold, 2 must not; 2-3 edge; 4 trigger: 0 none, 1 event, 2 clock; 5 event; 6-7 clock; 8-9 node or 65,535"
abbrev pub read_literal : List ℕ → ℕ × Literal
read_literal r = (
  two r 2,
  record {
    must = eqb (byte r 1) 1;
    trigger = case_of (byte r 4) ((1, event (byte r 5)) ∷ (2, clock (two r 6)) ∷ []) always;
    guard = read_guard (two r 8);
  },
)

-- "37 clock: 1 as trigger 2 or 3; 2-3 ticks"
abbrev pub read_clock : List ℕ → Clock
read_clock r = record { timing = case_of (byte r 1) ((2, after) ∷ []) every; ticks = two r 2 }

-- "40 update: 1 deed, 2-3 edge, 4 variable or event, 6-7 node", and 8-9 the guard (request 4)
abbrev pub read_update : List ℕ → ℕ × Action
read_update r = (two r 2, action_by (two r 8) (byte r 1) (byte r 4) (two r 6))

-- "41 reset: 2-3 edge, 4-5 clock"
abbrev pub read_reset : List ℕ → ℕ × ℕ
read_reset r = (two r 2, two r 4)

abbrev pub read_automata : List ℕ → Automata
read_automata s = record {
  initial = map (λ r. two r 2) (of_kind 33 s);
  homes = map (λ r. byte r 1) (of_kind 34 s);
  edges = map read_edge (of_kind 35 s);
  literals = map read_literal (of_kind 36 s);
  clocks = map read_clock (of_kind 37 s);
  variables = map read_variable (of_kind 38 s);
  nodes = map read_node (of_kind 39 s);
  updates = map read_update (of_kind 40 s);
  resets = map read_reset (of_kind 41 s);
}

-- ---- writing: bytes 1 and on of each kind's records

abbrev pub write_edge : Edge → List ℕ
write_edge e = e.automaton ∷ bytes2 e.source ++ bytes2 e.target ++ (bit e.idles ∷ [])

abbrev pub write_literal_trigger : LiteralTrigger → List ℕ
write_literal_trigger always = 0 ∷ 0 ∷ bytes2 0
write_literal_trigger (event e) = 1 ∷ e ∷ bytes2 0
write_literal_trigger (clock k) = 2 ∷ 0 ∷ bytes2 k

abbrev pub write_guard : Option ℕ → List ℕ
write_guard none = bytes2 65535
write_guard (some n) = bytes2 n

abbrev pub write_literal : ℕ × Literal → List ℕ
write_literal l = cond l.1.must 1 2 ∷ bytes2 l.0 ++ write_literal_trigger l.1.trigger ++ write_guard l.1.guard

abbrev pub timing_code : Timing → ℕ
timing_code after = 2
timing_code every = 3

abbrev pub write_clock : Clock → List ℕ
write_clock c = timing_code c.timing ∷ bytes2 c.ticks

abbrev pub write_variable : Variable → List ℕ
write_variable v = 0 ∷ bytes2± v.lowest ++ bytes2± v.highest ++ bytes2± v.start

abbrev pub write_deed : ℕ → Deed → List ℕ
write_deed e (assign v n) = 1 ∷ bytes2 e ++ (v ∷ 0 ∷ bytes2 n)
write_deed e (raise x) = 2 ∷ bytes2 e ++ (x ∷ 0 ∷ bytes2 0)

abbrev pub write_plus_one : Option ℕ → List ℕ
write_plus_one none = bytes2 0
write_plus_one (some n) = bytes2 (n + 1)

abbrev pub write_update : ℕ × Action → List ℕ
write_update u = write_deed u.0 u.1.deed ++ write_plus_one u.1.guard

abbrev pub write_reset : ℕ × ℕ → List ℕ
write_reset x = 0 ∷ bytes2 x.0 ++ bytes2 x.1

-- the file: of each kind its records, without the kind
abbrev pub sections : Automata → List (ℕ × List (List ℕ))
sections au =
    (33, map (λ i. 0 ∷ bytes2 i) au.initial)
    ∷ (34, map (λ h. h ∷ []) au.homes)
    ∷ (35, map write_edge au.edges)
    ∷ (36, map write_literal au.literals)
    ∷ (37, map write_clock au.clocks)
    ∷ (38, map write_variable au.variables)
    ∷ (39, map write_node au.nodes)
    ∷ (40, map write_update au.updates)
    ∷ (41, map write_reset au.resets)
    ∷ []

-- "Unnamed bytes are zero."
abbrev pub automata_records : Automata → List (List ℕ)
automata_records au = gather (λ x. map (λ body. padded 16 0 (x.0 ∷ body)) x.1) (sections au)

abbrev pub write_automata : Automata → List ℕ
write_automata au = gather (λ r. r) (automata_records au)

-- ---- what a number names

abbrev pub no_edge : Edge
no_edge = record { automaton = 0; source = 0; target = 0; idles = false }

abbrev pub edge : Automata → ℕ → Edge
edge au e = get_or au.edges e no_edge

abbrev pub no_clock : Clock
no_clock = record { timing = after; ticks = 0 }

abbrev pub clock_at : Automata → ℕ → Clock
clock_at au k = get_or au.clocks k no_clock

-- what a proof that computes with these opens
unfoldable pub AutomataTable : Type 0
unfolding Lists Bytes
AutomataTable = Unit
