-- How many rows a path has at most: a run takes at most nine turns in each of 1,000,000 cycles. Assumes nothing.
use mathlib.Core.Path.{◌≡◌, refl, sym, ap, ◌∙◌, subst}
use mathlib.Core.Bool.{Bool, true, false, cond, ◌&&◌}
use mathlib.Core.Option.{Option, some, none}
use mathlib.Core.List.{List, [], ◌∷◌, ◌++◌}
use Prim.Native.Nat.{ℕ, ◌+◌, ◌*◌, ◌/◌, ◌≤◌, ◌<◌}
use native.Mathlib.Omega.{arith}
use borrow.Author.Tests.{ltb-true, eqb-true}
use lib.Dec.{ltb, eqb}
use lib.ListN.{length, get_or, set, drop, length-append}
use Rattle.framing.specs.Framing.{how_many, framing_tests}
use Rattle.records.specs.Refusal.{Refusal, broken_path, short_rows, Out, val, fault, ◌>>=◌, ◌>>◌, fault_if, unless_refused, lowest}
use Rattle.prelude.proofs.Counts.{and-true}
use Rattle.model.specs.Outcome.{settled}
use Rattle.model.specs.ChartSet.{ChartSet, read_charts}
use Rattle.model.specs.AutomataTable.{edge}
use Rattle.model.specs.ChartFile.{chart_limits, charts_refusal}
use Rattle.model.specs.Translation.{Origin, from_transition, from_waiting, from_idling, origin_of, twin}
use Rattle.model.specs.PathBack.{time_mark, Walk, Row, walk_start, time_fits, edge_fits, step_fits, walked, rows_from, step_rows, led_back, row_words, rows_written, path_back}
use Rattle.chart_records.specs.declared.Shape.{Shape}
use Rattle.chart_records.proofs.PlacesRead.{length-initial, most-charts}
use Rattle.chart_records.specs.Accepted.{Accepted}
use Rattle.paths.specs.Along.{all_fit, rows_along}
use Rattle.paths.proofs.Along.{led-is}
use Rattle.paths.proofs.LedOfEdges.{automaton-known}

-- ---- the shape of a file that is not refused

lowest-first : (xs ys : List (Refusal × Bool)) → lowest (xs ++ ys) ≡ none → lowest xs ≡ none
unfolding lowest
lowest-first [] ys e = refl
lowest-first (x ∷ xs) ys e = go x.1 e (lowest-first xs ys)
  where
    go : (b : Bool) → cond b (some x.0) (lowest (xs ++ ys)) ≡ none → (lowest (xs ++ ys) ≡ none → lowest xs ≡ none) → cond b (some x.0) (lowest xs) ≡ none
    go true e ih = e
    go false e ih = ih e

module _ (s : List ℕ) where
  abbrev shape_in : Shape
  shape_in = record { charts = how_many 1 s; states = how_many 2 s; transitions = how_many 3 s; variables = how_many 4 s; nodes = how_many 5 s; actions = how_many 6 s }

  accepted-in : charts_refusal s ≡ none → Accepted s shape_in
  accepted-in e = record {
    shape = record { framed = lowest-first (framing_tests 1 chart_limits s) _ e; charts = refl; states = refl; transitions = refl; variables = refl; nodes = refl; actions = refl };
    unrefused = e;
  }

-- ---- steps

module _ (s : List ℕ) (sh : Shape) (ok : Accepted s sh) where
  abbrev cs : ChartSet
  cs = read_charts s

  -- the turns taken, and one more
  abbrev turns : Walk → ℕ
  turns w = 9 * w.cycles + w.position

  fitting : (e : ℕ) (w : Walk) → step_fits cs e w ≡ true → (turns w + 1 ≤ turns (walked cs e w)) × (turns (walked cs e w) ≤ 9_000_001)
  fitting e w f = go (eqb e time_mark) refl
    where
      young : w.cycles < 1_000_000
      young = ltb-true w.cycles 1_000_000 (and-true (ltb w.cycles 1_000_000) (cond (eqb e time_mark) (time_fits cs w) (edge_fits cs e w)) f).0

      by : (b : Bool) → eqb e time_mark ≡ b → cond b (time_fits cs w) (edge_fits cs e w) ≡ true
      by b q = ap (λ b. cond b (time_fits cs w) (edge_fits cs e w)) (sym q) ∙ (and-true (ltb w.cycles 1_000_000) (cond (eqb e time_mark) (time_fits cs w) (edge_fits cs e w)) f).1

      Leads : Walk → Type 0
      Leads v = (turns w + 1 ≤ turns v) × (turns v ≤ 9_000_001)

      later : Walk
      later = record { locations = w.locations; position = 1; cycles = w.cycles + 1 }

      onward : Walk
      onward = record {
        locations = set w.locations (edge (twin cs) e).automaton (edge (twin cs) e).target;
        position = w.position + 1;
        cycles = w.cycles;
      }

      timed : time_fits cs w ≡ true → Leads later
      timed t =
          let p : w.position ≡ length cs.initial + 1 = eqb-true w.position (length cs.initial + 1) t in
          (omega (arith, young, p, length-initial s sh ok.shape, most-charts s sh ok.shape), omega (arith, young))

      place : edge_fits cs e w ≡ true → w.position ≤ 8
      place t =
          let z = (and-true (ltb e (length (twin cs).edges) && eqb ((edge (twin cs) e).automaton + 1) w.position) (eqb (edge (twin cs) e).source (get_or w.locations (edge (twin cs) e).automaton 0)) t).0 in
          let y = and-true (ltb e (length (twin cs).edges)) (eqb ((edge (twin cs) e).automaton + 1) w.position) z in
          let p : (edge (twin cs) e).automaton + 1 ≡ w.position = eqb-true ((edge (twin cs) e).automaton + 1) w.position y.1 in
          omega (arith, p, automaton-known s sh ok e (ltb-true e (length (twin cs).edges) y.0), most-charts s sh ok.shape)

      go : (b : Bool) → eqb e time_mark ≡ b → Leads (walked cs e w)
      go true q = subst Leads (sym (ap (λ b. cond b later onward) q)) (timed (by true q))
      go false q =
          let p = place (by false q) in
          subst Leads (sym (ap (λ b. cond b later onward) q)) (omega (arith, young, p), omega (arith, young, p))

  few-rows : (e : ℕ) (w : Walk) → length (step_rows cs e w) ≤ 1
  few-rows e w = go (origin_of cs e)
    where
      go : (o : Origin) → length (rows_from cs o w) ≤ 1
      go (from_transition t) = omega arith
      go (from_waiting s) = omega arith
      go (from_idling s) = omega arith

  few-along : (path : List ℕ) (w : Walk) → turns w ≤ 9_000_001 → all_fit cs path w ≡ true → length (rows_along cs path w) + turns w ≤ 9_000_001
  unfolding all_fit rows_along
  few-along [] w h f = omega (arith, h)
  few-along (e ∷ es) w h f =
      let a = and-true (step_fits cs e w) (all_fit cs es (walked cs e w)) f in
      let t = fitting e w a.0 in
      let rest = few-along es (walked cs e w) t.1 a.1 in
      omega (arith, rest, t.0, few-rows e w, length-append (step_rows cs e w) (rows_along cs es (walked cs e w)))

  few-led : (path lent : List ℕ) (n : ℕ) → (settled lent (led_back cs path (walk_start cs) >>= λ rows. rows_written rows lent)).answer ≡ val n → n ≤ 9_000_000
  few-led path lent n e = go (all_fit cs path (walk_start cs)) refl
    where
      rows : List Row
      rows = rows_along cs path (walk_start cs)

      by-fit : (b : Bool) → all_fit cs path (walk_start cs) ≡ b → (settled lent (cond b (val rows) (fault broken_path) >>= λ rows. rows_written rows lent)).answer ≡ val n
      by-fit b q = ap (λ o. (settled lent (o >>= λ rows. rows_written rows lent)).answer) (sym (led-is cs path (walk_start cs) ∙ ap (λ y. cond y (val rows) (fault broken_path)) q)) ∙ e

      counted : (b : Bool) → (settled lent (fault_if b short_rows >> val (length rows, row_words rows ++ drop (3 * length rows) lent))).answer ≡ val n → n ≡ length rows
      counted true d = let z : ◌≡◌ {A = ℕ} 0 1 = cc in absurd (omega arith)
      counted false d = cc

      go : (b : Bool) → all_fit cs path (walk_start cs) ≡ b → n ≤ 9_000_000
      go true q =
          let m : n ≡ length rows = counted (ltb (length lent / 3) (length rows)) (by-fit true q) in
          omega (arith, m, few-along path (walk_start cs) (omega arith) q)
      go false q = let d = by-fit false q in let z : ◌≡◌ {A = ℕ} 0 1 = cc in absurd (omega arith)

-- of any bytes
pub few : (s path lent : List ℕ) (n : ℕ) → (path_back s path lent).answer ≡ val n → n ≤ 9_000_000
few s path lent n e = go (charts_refusal s) refl
  where
    answered : Option Refusal → Out ℕ
    answered o = (settled lent (unless_refused o (led_back (read_charts s) path (walk_start (read_charts s)) >>= λ rows. rows_written rows lent))).answer

    go : (o : Option Refusal) → charts_refusal s ≡ o → n ≤ 9_000_000
    go none q = few-led s (shape_in s) (accepted-in s q) path lent n (ap answered (sym q) ∙ e)
    go (some w) q = let d : answered (some w) ≡ val n = ap answered (sym q) ∙ e in let z : ◌≡◌ {A = ℕ} 0 1 = cc in absurd (omega arith)
