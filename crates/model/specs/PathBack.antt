-- "Leading a path back". Assumes nothing: these are definitions.
use Rattle.std.specs.Prelude.{Bool, not, cond, ◌&&◌, List, [], ◌∷◌, ◌++◌, ℕ, ◌+◌, ◌*◌, ◌-◌, ◌/◌, ltb, eqb, length, get_or, set, drop}
use Rattle.prelude.specs.Lists.{gather}
use Rattle.records.specs.Refusal.{broken_path, short_rows, Out, val, ◌>>=◌, ◌>>◌, fault_if, unless_refused}
use Rattle.model.specs.Limits.{most_cycles}
use Rattle.model.specs.Outcome.{Outcome, settled}
use Rattle.model.specs.ChartSet.{ChartSet, read_charts}
use Rattle.model.specs.ChartFile.{charts_refusal}
use Rattle.model.specs.AutomataTable.{edge}
use Rattle.model.specs.Translation.{Origin, from_transition, from_waiting, from_idling, origin_of, twin, Translation}

-- "65,535 for time"
abbrev pub time_mark : ℕ
time_mark = 65535

-- where a path stands: the automata's locations, the position and the cycles done
pub record Walk : Type 0 where
  pub locations : List ℕ
  pub position : ℕ
  pub cycles : ℕ

-- "one row: cycle, chart, transition"
pub record Row : Type 0 where
  pub cycle : ℕ
  pub chart : ℕ
  pub transition : ℕ

module _ (cs : ChartSet) where
  -- "It starts at position 1 in the initial locations."
  abbrev pub walk_start : Walk
  walk_start = record { locations = cs.initial; position = 1; cycles = 0 }

  -- time is the turn of position n + 1, and there is none after 1,000,000 cycles
  abbrev pub time_fits : Walk → Bool
  time_fits w = eqb w.position (length cs.initial + 1)

  -- the path names an edge, of the automaton whose turn it is, which leaves where that stands
  abbrev pub edge_fits : ℕ → Walk → Bool
  edge_fits e w =
      ltb e (length (twin cs).edges)
      && eqb ((edge (twin cs) e).automaton + 1) w.position
      && eqb (edge (twin cs) e).source (get_or w.locations (edge (twin cs) e).automaton 0)

  -- 20 "the path names no edge, breaks turn order, goes on after 1,000,000 cycles, or an edge does not leave where its automaton stands"
  abbrev pub step_fits : ℕ → Walk → Bool
  step_fits e w = ltb w.cycles most_cycles && cond (eqb e time_mark) (time_fits w) (edge_fits e w)

  abbrev pub walked : ℕ → Walk → Walk
  walked e w =
      cond (eqb e time_mark)
      (record { locations = w.locations; position = 1; cycles = w.cycles + 1 })
      (record { locations = set w.locations (edge (twin cs) e).automaton (edge (twin cs) e).target; position = w.position + 1; cycles = w.cycles })

  -- "Each edge that came of a transition gives one row. Idle edges and time give none."
  abbrev pub rows_from : Origin → Walk → List Row
  rows_from (from_transition t) w = record { cycle = w.cycles; chart = w.position - 1; transition = t } ∷ []
  rows_from (from_waiting s) w = []
  rows_from (from_idling s) w = []

  abbrev pub step_rows : ℕ → Walk → List Row
  step_rows e w = rows_from (origin_of cs e) w

  -- "follows the turns; it may stop anywhere"
  unfoldable pub led_back : List ℕ → Walk → Out (List Row)
  led_back [] w = val []
  led_back (e ∷ es) w = do
    fault_if (not (step_fits e w)) broken_path
    rows ← led_back es (walked e w)
    val (step_rows e w ++ rows)

-- three words a row
abbrev pub row_words : List Row → List ℕ
row_words rows = gather (λ r. r.cycle ∷ r.chart ∷ r.transition ∷ []) rows

-- 21 "more rows than lent". "The answer is their number; rows beyond are kept."
abbrev pub rows_written : List Row → List ℕ → Out (ℕ × List ℕ)
rows_written rows lent =
    fault_if (ltb (length lent / 3) (length rows)) short_rows >> val (length rows, row_words rows ++ drop (3 * length rows) lent)

-- a path led back into lent rows
abbrev pub path_back : List ℕ → List ℕ → List ℕ → Outcome ℕ (List ℕ)
path_back s path lent =
    settled lent (unless_refused (charts_refusal s) (led_back (read_charts s) path (walk_start (read_charts s)) >>= λ rows. rows_written rows lent))

-- what a proof that computes with these opens
unfoldable pub PathBack : Type 0
unfolding led_back Translation
PathBack = Unit
