-- One step of a path: when it fits, and where it leads, from the edge that it names. Assumes nothing.
use mathlib.Core.Path.{◌≡◌, refl, sym, ap, ◌∙◌}
use mathlib.Core.Bool.{Bool, true, false, cond, ◌&&◌}
use mathlib.Core.List.{List}
use Prim.Native.Nat.{ℕ, ◌+◌, ◌≤◌, ◌<◌}
use native.Mathlib.Omega.{arith}
use borrow.Author.Tests.{lt-ltb, le-ltb, eq-eqb, ne_eqb, ltb-true, eqb-true, eqb-false}
use lib.Dec.{ltb, eqb}
use lib.ListN.{length, get_or, set, take}
use lib.Seq.{get_or-take, take-set-lt}
use Rattle.model.specs.Limits.{most_edges}
use Rattle.prelude.proofs.Counts.{and-true}
use Rattle.model.specs.ChartSet.{ChartSet, read_charts}
use Rattle.model.specs.AutomataTable.{edge}
use Rattle.model.specs.Translation.{twin}
use Rattle.model.specs.PathBack as M
use Rattle.model.specs.PathBack.{time_mark, time_fits, edge_fits, step_fits, walked}
use Rattle.chart_records.specs.declared.Shape.{Shape}
use Rattle.chart_records.proofs.PlacesRead.{length-initial, most-charts}
use Rattle.chart_records.specs.Accepted.{Accepted}
use Rattle.paths.specs.declared.Edge.{Edge}
use Rattle.paths.specs.declared.EdgeTable.{EdgeTable}
use Rattle.paths.specs.declared.Walk.{Walk}
use Rattle.paths.specs.LedOf.{walk_in, next_position, next_cycles, no_edge, IsEdge, HasEdges}
use Rattle.paths.proofs.LedOfEdges.{edges-in, automaton-known}

module _ (s : List ℕ) (sh : Shape) (ok : Accepted s sh) (e : ℕ) (at : List ℕ) (w : Walk) where
  abbrev pub here : M.Walk
  here = walk_in sh.charts at w

  abbrev onward : M.Walk
  onward = record {
    locations = set here.locations (edge (twin (read_charts s)) e).automaton (edge (twin (read_charts s)) e).target;
    position = w.position + 1;
    cycles = w.cycles;
  }

  abbrev later : M.Walk
  later = record { locations = here.locations; position = 1; cycles = w.cycles + 1 }

  -- ---- the edge that is named

  module _ (x : Edge) (is : IsEdge s sh.charts e x) (h : e < length (twin (read_charts s)).edges) where
    fits_by : (b : Bool) → eqb (x.automaton + 1) w.position ≡ b → edge_fits (read_charts s) e here ≡ (b && eqb x.source (get_or (take sh.charts at) x.automaton 0))
    fits_by b eb =
        (λ i. lt-ltb e (length (twin (read_charts s)).edges) h i
        && eqb (sym is.automaton i + 1) w.position && eqb (sym is.source i) (get_or (take sh.charts at) (sym is.automaton i) 0))
        ∙ ap (λ t. t && eqb x.source (get_or (take sh.charts at) x.automaton 0)) eb

    pub edge-there : eqb (x.automaton + 1) w.position ≡ true → edge_fits (read_charts s) e here ≡ eqb x.source (get_or at x.automaton 0)
    edge-there n = fits_by true n ∙ ap (eqb x.source) (get_or-take sh.charts at x.automaton 0 is.known)

    -- where it leads
    pub led-edge : (e ≡ 65535 → ⊥) → walk_in sh.charts (set at x.automaton x.target) (record { position = w.position + 1; cycles = w.cycles }) ≡ walked (read_charts s) e here
    led-edge n =
        (λ i. record { locations = take-set-lt sh.charts at x.automaton x.target is.known i; position = w.position + 1; cycles = w.cycles })
        ∙ (λ i. record { locations = set (take sh.charts at) (is.automaton i) (is.target i); position = w.position + 1; cycles = w.cycles })
        ∙ sym (ap (λ b. cond b later onward) (ne_eqb e 65535 n))

  pub led-time : e ≡ 65535 → walk_in sh.charts at (record { position = 1; cycles = w.cycles + 1 }) ≡ walked (read_charts s) e here
  led-time m = sym (ap (λ b. cond b later onward) (eq-eqb e 65535 m))

-- ---- the step, from anywhere

module _ (cs : ChartSet) (e : ℕ) (w : M.Walk) where
  -- by whether the step is time's
  abbrev led : Bool → M.Walk
  led b =
      cond b
      (record { locations = w.locations; position = 1; cycles = w.cycles + 1 })
      (record { locations = set w.locations (edge (twin cs) e).automaton (edge (twin cs) e).target; position = w.position + 1; cycles = w.cycles })

  pub position-next : (walked cs e w).position ≡ next_position e w.position
  position-next = go (eqb e time_mark)
    where
      go : (b : Bool) → (led b).position ≡ cond b 1 (w.position + 1)
      go true = refl
      go false = refl

  pub cycles-next : (walked cs e w).cycles ≡ next_cycles e w.cycles
  cycles-next = go (eqb e time_mark)
    where
      go : (b : Bool) → (led b).cycles ≡ cond b (w.cycles + 1) w.cycles
      go true = refl
      go false = refl

module _ (s : List ℕ) (sh : Shape) (ok : Accepted s sh) (e : ℕ) (w : M.Walk) where
  -- an edge that fits is of the automaton whose turn it is
  fitting : edge_fits (read_charts s) e w ≡ true → (e < length (twin (read_charts s)).edges) × ((edge (twin (read_charts s)) e).automaton + 1 ≡ w.position)
  fitting t =
      let z = (and-true (ltb e (length (twin (read_charts s)).edges) && eqb ((edge (twin (read_charts s)) e).automaton + 1) w.position) (eqb (edge (twin (read_charts s)) e).source (get_or w.locations (edge (twin (read_charts s)) e).automaton 0)) t).0 in
      let y = and-true (ltb e (length (twin (read_charts s)).edges)) (eqb ((edge (twin (read_charts s)) e).automaton + 1) w.position) z in
      (ltb-true e (length (twin (read_charts s)).edges) y.0, eqb-true ((edge (twin (read_charts s)) e).automaton + 1) w.position y.1)

  pub step-time : w.cycles < 1_000_000 → e ≡ 65535 → step_fits (read_charts s) e w ≡ eqb w.position (sh.charts + 1)
  step-time h m =
      (λ i. lt-ltb w.cycles 1_000_000 h i && cond (eq-eqb e 65535 m i) (time_fits (read_charts s) w) (edge_fits (read_charts s) e w))
      ∙ ap (λ n. eqb w.position (n + 1)) (length-initial s sh ok.shape)

  pub step-edge : w.cycles < 1_000_000 → (e ≡ 65535 → ⊥) → step_fits (read_charts s) e w ≡ edge_fits (read_charts s) e w
  step-edge h n = λ i. lt-ltb w.cycles 1_000_000 h i && cond (ne_eqb e 65535 n i) (time_fits (read_charts s) w) (edge_fits (read_charts s) e w)

  pub in-time : step_fits (read_charts s) e w ≡ true → w.cycles < 1_000_000
  in-time t = ltb-true w.cycles 1_000_000 (and-true (ltb w.cycles 1_000_000) (cond (eqb e time_mark) (time_fits (read_charts s) w) (edge_fits (read_charts s) e w)) t).0

  -- a step that fits, and is not time's, names an edge of the automaton whose turn it is
  pub fits-edge : (e ≡ 65535 → ⊥) → step_fits (read_charts s) e w ≡ true → (e < length (twin (read_charts s)).edges) × ((edge (twin (read_charts s)) e).automaton + 1 ≡ w.position)
  fits-edge n t = fitting (sym (step-edge (in-time t) n) ∙ t)

  -- position and cycles of a step that fits
  pub in-turn : step_fits (read_charts s) e w ≡ true → (w.position ≤ 9) × (w.cycles < 1_000_000)
  in-turn t = (go (eqb e time_mark) refl, in-time t)
    where
      go : (b : Bool) → eqb e time_mark ≡ b → w.position ≤ 9
      go true q =
          let p = eqb-true w.position (sh.charts + 1) (sym (step-time (in-time t) (eqb-true e time_mark q)) ∙ t) in
          omega (arith, p, most-charts s sh ok.shape)
      go false q =
          let p = fits-edge (eqb-false e time_mark q) t in
          omega (arith, p.1, automaton-known s sh ok e p.0, most-charts s sh ok.shape)

-- ---- edges in their table

module _ {s : List ℕ} {sh : Shape} (ok : Accepted s sh) {table : EdgeTable} (has : HasEdges s sh table) {e : ℕ} (h : e < table.count) where
  pub edge-room : e < most_edges
  edge-room = omega (arith, has.count, edges-in s sh ok)

  pub few-automata : (get_or table.edges e no_edge).automaton < 8
  few-automata = omega (arith, (has.each e h).known, most-charts s sh ok.shape)
