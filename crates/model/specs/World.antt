-- What charts and automata have in common: variables, present events, a run, and what actions and updates do. Assumes nothing: these are definitions.
use Rattle.std.proofs.Math.Option.{Option, some, none}
use Rattle.std.specs.Prelude.{Bool, true, not, cond, ◌&&◌, List, [], ◌∷◌, ℕ, ◌+◌, ◌/◌, ◌%◌, ◌^◌, eqb, get_or, set, ℤ, pos}
use Rattle.std.specs.Int.Signed.{le_z}
use Rattle.records.specs.Refusal.{out_of_bounds, Out, val, ◌>>=◌, ◌>>◌, fault_if, choose}
use Rattle.expressions.specs.Nodes.{Node, node_of}
use Rattle.expressions.specs.Values.{number, truth}

-- ---- variables and events

-- "4 variable: 2-3 lowest, 4-5 highest, 6-7 start"
pub record Variable : Type 0 where
  pub lowest : ℤ
  pub highest : ℤ
  pub start : ℤ

abbrev pub in_bounds : Variable → ℤ → Bool
in_bounds v z = le_z v.lowest z && le_z z v.highest

abbrev pub no_variable : Variable
no_variable = record { lowest = pos 0; highest = pos 0; start = pos 0 }

-- Events are a mask of 32 bits: bit e for event e.
abbrev pub present : ℕ → ℕ → Bool
present e mask = eqb ((mask / 2 ^ e) % 2) 1

abbrev pub raised : ℕ → ℕ → ℕ
raised e mask = cond (present e mask) mask (mask + 2 ^ e)

-- ---- a run

-- what must be equal in corresponding runs
pub record World : Type 0 where
  pub vars : List ℤ
  pub events : ℕ
  pub position : ℕ
  pub cycles : ℕ

-- Of charts: the present states, and their ages. Of automata: the present locations, and the clocks.
pub record Run : Type 0 where
  pub at : List ℕ
  pub timers : List ℕ
  pub world : World

abbrev pub set_var : ℕ → ℤ → World → World
set_var v z w = record { vars = set w.vars v z; events = w.events; position = w.position; cycles = w.cycles }

abbrev pub set_events : ℕ → World → World
set_events mask w = record { vars = w.vars; events = mask; position = w.position; cycles = w.cycles }

-- ---- actions and updates

-- "4 deed: 1 assign, 2 raise; 5 variable or event; 6-7 node (assign only)"
pub data Deed : Type 0 where
  assign : ℕ → ℕ → Deed
  raise : ℕ → Deed

-- "Bytes 8-9 of an action hold its guard node plus one, zero for none"; "an update carries the same bytes" (request 4).
pub record Action : Type 0 where
  pub guard : Option ℕ
  pub deed : Deed

-- a guard: a truth, or none, which holds
abbrev pub guard_holds : List Node → List ℤ → Option ℕ → Out Bool
guard_holds nodes vars none = val true
guard_holds nodes vars (some n) = truth (node_of nodes) vars n

module _ (nodes : List Node) (variables : List Variable) where
  -- "17: assigned value outside its variable"
  abbrev pub deed : Deed → World → Out World
  deed (assign v n) w = do
    z ← number (node_of nodes) w.vars n
    fault_if (not (in_bounds (get_or variables v no_variable) z)) out_of_bounds
    val (set_var v z w)
  deed (raise e) w = val (set_events (raised e w.events) w)

  -- "if false when the action's turn comes, it is skipped" (request 4)
  abbrev pub action : Action → World → Out World
  action a w = choose (guard_holds nodes w.vars a.guard) (deed a.deed w) (val w)

  -- "in sequence, each seeing the last"
  unfoldable pub actions : List Action → World → Out World
  actions [] w = val w
  actions (a ∷ rest) w = action a w >>= λ w'. actions rest w'
