use mathlib.Core.Path.{◌≡◌, sym, ap, ◌∙◌, subst}
use mathlib.Core.List.{List, []}
use Prim.Native.Nat.{ℕ, ◌+◌, ◌-◌, ◌≤◌, ◌<◌, max}
use native.Mathlib.Omega.{arith}
use lib.ListN.{get_or, set, replicate}
use Rattle.chart_records.specs.declared.Shape.{Shape}
use Rattle.chart_records.specs.Places.{transition_at}
use Rattle.chart_records.specs.Accepted.{Accepted}
use Rattle.chart_records.proofs.PlacesRead.{most-states, most-transitions}
use Rattle.chart_steps.proofs.Accepted.{source_known, priority-known}
use Rattle.chart_steps.proofs.TablesFilled.{Rows, rows_none, rows_more, Ended, ends-none, ends_more}
use Rattle.chart_steps.proofs.TablesRow.{source_at, priority_at, rows_are, ends-are}
use Rattle.chart_steps.proofs.tables.fill_rows.Goals as goal
use Rattle.chart_steps.proofs.tables.fill_rows.Goals.{In-loop-t}

-- the transition before the loop's is one of the set's, and its fields fit the rows
known : (c : In-loop-t) → c.loop-t.t - 1 < c.args.shape.transitions
known c = omega (arith, c.loop-t.invariant.0.bound, c.loop-t-test.true)

module _ (s : List ℕ) (sh : Shape) (ok : Accepted s sh) (t : ℕ) (in-file : t < sh.transitions) where
  source_fits : (source : ℕ) → source ≡ (transition_at s sh t).source → source < 128
  source_fits source e = omega (arith, e, source_known s sh ok t in-file, most-states s sh ok.shape)

  priority-fits : (priority : ℕ) → priority ≡ (transition_at s sh t).priority → (1 ≤ priority) × (priority ≤ 16)
  priority-fits priority e = rw e (priority-known s sh ok t in-file)

pub loop-t-init : goal.loop-t-init
loop-t-init c =
    let x = c.args in
    let source = source_at x.s.now x.shape in
    let priority = priority_at x.s.now x.shape in (
      subst (λ rows. Rows source priority x.shape.transitions 128 rows x.shape.transitions) (sym c.requires.1) (rows_none source priority x.shape.transitions 128),
      subst (λ rows. Ended source priority x.shape.transitions rows x.ends.now x.shape.transitions) (sym c.requires.1)
          (subst (λ ends. Ended source priority x.shape.transitions (replicate 128 (replicate {A = ℕ} 16 256)) ends x.shape.transitions) (sym c.requires.2) (ends-none source priority x.shape.transitions)),
    )

pub overflow_sub-place : goal.overflow_sub-place
overflow_sub-place c =
    (priority-fits c.args.s.now c.args.shape c.requires.0 (c.loop-t.t - 1) (known (goal.at.overflow_sub-place c).In-loop-t) c.priority_of-priority.result c.priority_of-priority.ensures).0

pub bounds-ends-source : goal.bounds-ends-source
bounds-ends-source c =
    source_fits c.args.s.now c.args.shape c.requires.0 (c.loop-t.t - 1) (known (goal.at.bounds-ends-source c).In-loop-t) c.source_of-source.result c.source_of-source.ensures

pub bounds-ends-source-in-loop-t : goal.bounds-ends-source-in-loop-t
bounds-ends-source-in-loop-t c =
    source_fits c.args.s.now c.args.shape c.requires.0 (c.loop-t.t - 1) (known (goal.at.bounds-ends-source-in-loop-t c).In-loop-t) c.source_of-source.result c.source_of-source.ensures

pub bounds-rows-source : goal.bounds-rows-source
bounds-rows-source c =
    source_fits c.args.s.now c.args.shape c.requires.0 (c.loop-t.t - 1) (known (goal.at.bounds-rows-source c).In-loop-t) c.source_of-source.result c.source_of-source.ensures

pub bounds-rows-place : goal.bounds-rows-place
bounds-rows-place c =
    omega (arith, priority-fits c.args.s.now c.args.shape c.requires.0 (c.loop-t.t - 1) (known (goal.at.bounds-rows-place c).In-loop-t) c.priority_of-priority.result c.priority_of-priority.ensures)

pub loop-t-preserved : goal.loop-t-preserved
loop-t-preserved c =
    let in-file = known (goal.at.loop-t-preserved c).In-loop-t in
    let fits = priority-fits c.args.s.now c.args.shape c.requires.0 (c.loop-t.t - 1) in-file c.priority_of-priority.result c.priority_of-priority.ensures in
    let source_in = source_fits c.args.s.now c.args.shape c.requires.0 (c.loop-t.t - 1) in-file c.source_of-source.result c.source_of-source.ensures in
    let x = c.args in
    let l = c.loop-t in
    let source = source_at x.s.now x.shape in
    let priority = priority_at x.s.now x.shape in
    let more = c.loop-t-test.true in
    let e : l.t ≡ l.t - 1 + 1 = omega (arith, more) in
    let rows = subst (Rows source priority x.shape.transitions 128 l.rows) e l.invariant.0 in
    let ends = subst (Ended source priority x.shape.transitions l.rows l.ends) e l.invariant.1 in
    let at_source = sym c.source_of-source.ensures in
    let i = c.source_of-source.result in
    let k = c.priority_of-priority.result - 1 in
    let at-priority : priority (l.t - 1) ≡ k + 1 = omega (arith, fits, c.priority_of-priority.ensures) in
    let in_row : k < 16 = omega (arith, fits) in
    let top : max (get_or l.ends i 0) (k + 1) ≡ c.max.result = ap (max (get_or l.ends i 0)) (let z : k + 1 ≡ c.priority_of-priority.result = omega (arith, fits) in z) ∙ sym c.max.ensures in (
      rows_more source priority x.shape.transitions 128 l.rows (l.t - 1) i k rows at_source at-priority source_in in_row (omega (arith, in-file, most-transitions x.s.now x.shape c.requires.0.shape)),
      subst (λ n. Ended source priority x.shape.transitions (set l.rows i (set (get_or l.rows i []) k (l.t - 1))) (set l.ends i n) (l.t - 1)) top
          (ends_more source priority x.shape.transitions l.rows l.ends (l.t - 1) i k ends rows.long in-file at_source at-priority source_in in_row),
    )

pub returns : goal.returns
returns c =
    let x = c.args in
    let l = c.loop-t in
    let source = source_at x.s.now x.shape in
    let priority = priority_at x.s.now x.shape in
    let e : l.t ≡ 0 = omega (arith, c.loop-t-test.false) in (
      rows_are x.s.now x.shape c.requires.0 l.rows (subst (Rows source priority x.shape.transitions 128 l.rows) e l.invariant.0),
      ends-are x.s.now x.shape c.requires.0 l.rows l.ends (subst (Ended source priority x.shape.transitions l.rows l.ends) e l.invariant.1),
    )
