-- The path that a table's calls take, and the rows that a set's own calls give. Assumes nothing: these are definitions.
use Rattle.std.specs.Prelude.{List, [], ◌∷◌, ◌++◌, ℕ, ◌-◌}
use Rattle.records.specs.Refusal.{Out, val, fault}
use Rattle.model.specs.Runs.{Run, Answer, taken, idle, time, Call, Trace, done, stopped, turned, ended}
use Rattle.model.specs.PathBack.{Row, time_mark}
use Rattle.model.specs.Calls.{Format, chart_sets, automata_tables, call_trace}
use Rattle.model.specs.Correspondence.{lent_after}

-- what one turn, taken in r, adds to a path: "edges, and 65,535 for time"; an automaton takes an edge where its chart idles
abbrev pub mark_of : Run → Answer → List ℕ
mark_of r (taken e) = e ∷ []
mark_of r idle = []
mark_of r time = time_mark ∷ []

-- and to the rows: "cycle, chart, transition"
abbrev pub row_of : Run → Answer → List Row
row_of r (taken t) = record { cycle = r.world.cycles; chart = r.world.position - 1; transition = t } ∷ []
row_of r idle = []
row_of r time = []

-- a call that is not done leaves the run as it was, and so adds nothing
abbrev pub when_done : {A : Type 0} → Out Run → List A → List A
when_done (val r) xs = xs
when_done (fault w) xs = []

module _ {A : Type 0} (added : Run → Answer → List A) where
  unfoldable pub of_turns : Trace → List A
  of_turns done = []
  of_turns (stopped w) = []
  of_turns (turned r a r₁ t) = added r a ++ of_turns t

  abbrev pub of_trace : Run → Trace → List A
  of_trace r t = when_done (ended r t) (of_turns t)

  -- each call gets the run that the last one left
  unfoldable pub of_calls : Format → List ℕ → List Call → Run → List A
  of_calls f s [] r = []
  of_calls f s (c ∷ calls) r = of_trace r (call_trace f s c r) ++ of_calls f s calls (lent_after f s c r)

-- the path of calls on a table, from a run on
abbrev pub taken_path : List ℕ → List Call → Run → List ℕ
taken_path t calls q = of_calls mark_of automata_tables t calls q

-- the rows of calls on a set, from a run on
abbrev pub taken_rows : List ℕ → List Call → Run → List Row
taken_rows s calls r = of_calls row_of chart_sets s calls r

-- what a proof that computes with these opens
unfoldable pub TakenPath : Type 0
unfolding of_turns of_calls
TakenPath = Unit
