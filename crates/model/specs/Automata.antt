-- An automaton's turn, by its open edges, and its clocks. Assumes nothing: these are definitions.
use Rattle.std.specs.Prelude.{Bool, true, false, cond, ◌&&◌, List, [], ◌∷◌, ℕ, ◌+◌, min, leb, ltb, eqb, length, get_or, set}
use Rattle.prelude.specs.Lists.{keep, map_from, upto}
use Rattle.records.specs.Refusal.{none_open, many_open, Out, val, fault, ◌>>=◌, choose}
use Rattle.model.specs.Limits.{most_clocks}
use Rattle.prelude.specs.Owned.{of}
use Rattle.model.specs.Runs.{Run, present, actions, guard_holds, Answer, taken, Machine, Runs}
use Rattle.model.specs.AutomataTable.{LiteralTrigger, always, event, clock, Literal, Timing, after, every, Automata, edge, clock_at, AutomataTable}

-- ---- time

-- of after: "its clock stops at its ticks" (request 2); "an every-clock at ticks, its top"
abbrev pub top : Timing → ℕ → ℕ
top after d = d
top every d = d

-- an after-clock grows by 1 up to its top; "an every-clock at ticks, its top, goes to 1, else grows by 1"
abbrev pub grown : Timing → ℕ → ℕ → ℕ
grown after d x = min (x + 1) (top after d)
grown every d x = cond (eqb x (top every d)) 1 (x + 1)

-- ---- open edges

-- "An event trigger holds while the event is present; a clock trigger at clock = ticks."
abbrev pub literal_trigger_holds : Automata → Run → LiteralTrigger → Bool
literal_trigger_holds au r always = true
literal_trigger_holds au r (event e) = present e r.world.events
literal_trigger_holds au r (clock k) = eqb (get_or r.timers k 0) (clock_at au k).ticks

-- "A literal's condition is its trigger and then, only if that holds, its guard."
abbrev pub condition_holds : Automata → Run → Literal → Out Bool
condition_holds au r l = cond (literal_trigger_holds au r l.trigger) (guard_holds au.nodes r.world.vars l.guard) (val false)

-- "1 must hold, 2 must not"
abbrev pub literal_holds : Automata → Run → Literal → Out Bool
literal_holds au r l = cond l.must (condition_holds au r l) (choose (condition_holds au r l) (val false) (val true))

-- "all its literals, read in order up to the first that fails, hold"
unfoldable pub reads : (Literal → Out Bool) → List Literal → Out Bool
reads holds [] = val true
reads holds (l ∷ ls) = choose (holds l) (reads holds ls) (val false)

-- the open ones of some edges: "a fault in any edge's reading faults the turn, the lowest edge's counting"
unfoldable pub opens : (ℕ → Out Bool) → List ℕ → Out (List ℕ)
opens isOpen [] = val []
opens isOpen (e ∷ es) = isOpen e >>= λ o. opens isOpen es >>= λ rest. val (cond o (e ∷ rest) rest)

-- ---- taking an edge

-- 18 "no edge open", 19 "two or more open"
abbrev pub the_one : List ℕ → Out ℕ
the_one [] = fault none_open
the_one (e ∷ []) = val e
the_one (e ∷ e' ∷ es) = fault many_open

-- in file order
unfoldable pub reset : List ℕ → List ℕ → List ℕ
reset [] clocks = clocks
reset (k ∷ ks) clocks = reset ks (set clocks k 0)

module _ (au : Automata) where
  abbrev pub leaving : ℕ → ℕ → List ℕ
  leaving a l = keep (λ e. eqb (edge au e).automaton a && eqb (edge au e).source l) (upto (length au.edges))

  -- "In the automaton of the present position, an edge is open if it leaves the present location and all its literals .. hold"
  abbrev pub open_edges : ℕ → Run → Out (List ℕ)
  open_edges a r = opens (λ e. reads (literal_holds au r) (of e au.literals)) (leaving a (get_or r.at a 0))

  -- "The one open edge is taken: updates in file order, then resets."
  abbrev pub edge_step : ℕ → Run → Out (Answer × Run)
  edge_step a r = do
    es ← open_edges a r
    e ← the_one es
    w ← actions au.nodes au.variables (of e au.updates) r.world
    val (taken e, record { at = set r.at a (edge au e).target; timers = reset (of e au.resets) r.timers; world = w })

  abbrev pub clocks_grown : Run → List ℕ
  clocks_grown r = map_from 0 (λ k x. cond (ltb k (length au.clocks)) (grown (clock_at au k).timing (clock_at au k).ticks x) x) r.timers

  abbrev pub automata : Machine
  automata = record {
    initial = au.initial;
    homes = au.homes;
    variables = au.variables;
    timers_used = length au.clocks;
    timers_room = most_clocks;
    timer_possible = λ cycles k x. leb x (top (clock_at au k).timing (clock_at au k).ticks);
    step = edge_step;
    passed = clocks_grown;
  }

-- what a proof that computes with these opens
unfoldable pub Automata· : Type 0
unfolding reads opens reset Runs AutomataTable
Automata· = Unit
