-- The code's answers, read as the model's outcomes. Assumes nothing: these are definitions.
use Rattle.std.specs.Prelude.{◌≡◌, true, cond, List, [], ◌∷◌, ℕ, ◌+◌, ◌-◌, ◌*◌, ◌≤◌, ◌<◌, ltb, eqb, length, get_or, take, Option, Some, None, Result}
use Rattle.records.specs.Refusal.{broken_path, Out, val, fault, ◌>>=◌}
use Rattle.records.specs.RefusalOf.{refusal_of, out_of}
use Rattle.records.specs.declared.refusals.Refusal.{Refusal}
use Rattle.model.specs.Outcome.{Outcome, settled}
use Rattle.model.specs.ChartSet.{ChartSet, read_charts}
use Rattle.model.specs.AutomataTable.{edge}
use Rattle.model.specs.Translation.{from_idling, edge_of, twin}
use Rattle.model.specs.PathBack as M
use Rattle.chart_records.specs.declared.Shape.{Shape}
use Rattle.paths.specs.declared.Edge.{Edge}
use Rattle.paths.specs.declared.EdgeTable.{EdgeTable}
use Rattle.paths.specs.declared.Idling.{Idling}
use Rattle.paths.specs.declared.Walk.{Walk}
use Rattle.paths.specs.Along.{all_fit, rows_along}

-- a walk of so many charts, the locations in the first places
abbrev pub walk_in : ℕ → List ℕ → Walk → M.Walk
walk_in charts locations w = record { locations = take charts locations; position = w.position; cycles = w.cycles }

-- position and count of cycles after a step
abbrev pub next_position : ℕ → ℕ → ℕ
next_position e position = cond (eqb e M.time_mark) 1 (position + 1)

abbrev pub next_cycles : ℕ → ℕ → ℕ
next_cycles e cycles = cond (eqb e M.time_mark) (cycles + 1) cycles

-- of each idle edge its state, of so many: the due edge of a waiting state has the ends of the other
pub record HasIdling (s : List ℕ) (sh : Shape) (idling : Idling) : Type 0 where
  pub count : length (twin (read_charts s)).edges ≡ sh.transitions + idling.count
  pub known : (j : ℕ) → j < idling.count → get_or idling.states j 0 < sh.states
  pub each : (j : ℕ) → j < idling.count → edge (twin (read_charts s)) (sh.transitions + j) ≡ edge_of (read_charts s) (from_idling (get_or idling.states j 0))

-- the ends of an edge of the twin, and whose it is, of so many charts
pub record IsEdge (s : List ℕ) (charts e : ℕ) (x : Edge) : Type 0 where
  pub known : x.automaton < charts
  pub automaton : x.automaton ≡ (edge (twin (read_charts s)) e).automaton
  pub source : x.source ≡ (edge (twin (read_charts s)) e).source
  pub target : x.target ≡ (edge (twin (read_charts s)) e).target

-- what stands past a table's edges
abbrev pub no_edge : Edge
no_edge = record { automaton = 0; source = 0; target = 0 }

-- a table that holds each edge, in an array of the most that there can be
pub record HasEdges (s : List ℕ) (sh : Shape) (table : EdgeTable) : Type 0 where
  pub count : table.count ≡ length (twin (read_charts s)).edges
  pub each : (e : ℕ) → e < table.count → IsEdge s sh.charts e (get_or table.edges e no_edge)

abbrev pub count_of : Option ℕ → Out ℕ
count_of (Some n) = val n
count_of None = fault broken_path

-- how many rows
abbrev pub counted : Out (List M.Row) → Out ℕ
counted o = o >>= λ rows. val (length rows)

-- the words of a step's row, if it has one, of so many transitions
abbrev pub step_words : ℕ → ℕ → ℕ → ℕ → List ℕ
step_words transitions e position cycles = cond (ltb e transitions) (cycles ∷ (position - 1) ∷ e ∷ []) []

-- a path that can be written: its steps fit, and there is room for its rows
pub record Writable (s path lent : List ℕ) : Type 0 where
  pub fits : all_fit (read_charts s) path (M.walk_start (read_charts s)) ≡ true
  pub room : 3 * length (rows_along (read_charts s) path (M.walk_start (read_charts s))) ≤ length lent

abbrev pub answer_of : Result ℕ Refusal → Out ℕ
answer_of r = out_of refusal_of r

abbrev pub led_of : Result ℕ Refusal → List ℕ → Outcome ℕ (List ℕ)
led_of r lent = record { answer = answer_of r; lent = lent }

-- a path of a set that is not refused
abbrev pub led : ChartSet → List ℕ → List ℕ → Outcome ℕ (List ℕ)
led cs path lent = settled lent (M.led_back cs path (M.walk_start cs) >>= λ rows. M.rows_written rows lent)
