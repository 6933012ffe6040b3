use mathlib.Core.Path.{refl, sym, ap, ◌∙◌}
use mathlib.Core.Bool.{cond}
use mathlib.Core.List.{List}
use mathlib.Core.Option.{some, none}
use Prim.Native.Nat.{ℕ, ◌+◌, ◌-◌, ◌<◌}
use native.Mathlib.Omega.{arith}
use lib.Dec.{eqb}
use lib.IntN.{ℤ}
use lib.ListN.{get_or}
use Rattle.std.specs.Prelude.{Bool}
use Rattle.records.specs.Refusal.{Out, val, ◌>>=◌}
use Rattle.expressions.specs.Answers.{value_reason_of}
use Rattle.model.specs.ChartSet.{read_charts}
use Rattle.model.specs.Charts.{first_that, transition_holds}
use Rattle.chart_records.specs.declared.Shape.{Shape}
use Rattle.chart_records.proofs.PlacesRead.{most-states, most-transitions}
use Rattle.machines.specs.Worlds.{bare_world}
use Rattle.machines.proofs.WorldsCodes.{is_code}
use Rattle.chart_steps.specs.declared.tables.Tables.{Tables}
use Rattle.chart_steps.specs.StepOf.{ChoiceOf}
use Rattle.chart_steps.specs.Prepared.{Prepared}
use Rattle.chart_steps.proofs.StepOf.{choice-some, tried-none, tried-more, tried-found, tried-fault, tried-end, holds_named, named-one, unnamed, row-outside}
use Rattle.chart_steps.proofs.steps.first_that.Goals as goal

none-chosen : (n : ℕ) → ChoiceOf n 65535
none-chosen n = record { exact = refl; small = λ h. omega arith; known = λ h. absurd (omega arith) }

-- whether a transition holds, by the code's arguments
abbrev test : List ℕ → List ℤ → ℕ → ℕ → ℕ → Out Bool
test s vars events age = transition_holds (read_charts s) (bare_world vars events) age

-- the places of the row of a state that the set has
module _ (s : List ℕ) (sh : Shape) (t : Tables) (set : Prepared s sh t) (st : ℕ) (known : st < sh.states) where
  small : st < 128
  small = omega (arith, most-states s sh set.accepted.shape)

  in_row : (j : ℕ) → j < get_or t.ends st 0 → j < 16
  in_row j h = omega (arith, set.has_ends.short st small)

pub returns-then-shape-state : goal.returns-then-shape-state
unfolding first_that
returns-then-shape-state c =
    let x = c.args in
    (sym (ap (first_that (test x.s.now x.vars.now x.events x.age)) (row-outside x.s.now x.shape c.requires.accepted x.state c.if-shape-state.true)), none-chosen x.shape.transitions)

pub bounds-tables-i : goal.bounds-tables-i
bounds-tables-i c = let x = c.args in small x.s.now x.shape x.tables.now c.requires x.state c.if-shape-state.false

pub loop-j-init : goal.loop-j-init
loop-j-init c = let x = c.args in tried-none x.s.now x.shape c.requires.accepted x.state (test x.s.now x.vars.now x.events x.age) c.if-shape-state.false

pub slot_holds-requires : goal.slot_holds-requires
slot_holds-requires c =
    let x = c.args in
    (c.requires.accepted, λ n. named-one x.s.now x.shape c.requires.accepted x.state (c.loop-j.j + 1) c.slot_of-t.result c.slot_of-t.ensures n)

pub returns-in-Err : goal.returns-in-Err
returns-in-Err c =
    let x = c.args in
    let l = c.loop-j in
    let far = c.fault_code.ensures.0 in (
      ap (λ o. o >>= λ t. val (cond (eqb t 65535) none (some t))) c.fault_code.ensures.1
          ∙ tried-fault (read_charts x.s.now) x.state (test x.s.now x.vars.now x.events x.age) l.j c.slot_of-t.result l.invariant (in_row x.s.now x.shape x.tables.now c.requires x.state c.if-shape-state.false l.j c.loop-j-test.true) c.slot_of-t.ensures (value_reason_of c.in-Err.w)
          (c.in-Err.ensures),
      record { exact = c.fault_code.ensures.2; small = λ h. absurd (omega (arith, far)); known = λ h. absurd (omega (arith, far)) },
    )

pub returns-in-Ok-true : goal.returns-in-Ok-true
returns-in-Ok-true c =
    let x = c.args in
    let l = c.loop-j in
    let t : ℕ = c.slot_of-t.result in
    let holding = ap val (sym c.in-Ok-true.field-0-test) ∙ c.in-Ok-true.ensures in
    let one : t < x.shape.transitions = named-one x.s.now x.shape c.requires.accepted x.state (l.j + 1) t c.slot_of-t.ensures (holds_named (test x.s.now x.vars.now x.events x.age) t holding) in
    let few = most-transitions x.s.now x.shape c.requires.accepted.shape in (
      choice-some t (omega (arith, one, few))
          ∙ tried-found (read_charts x.s.now) x.state (test x.s.now x.vars.now x.events x.age) l.j t l.invariant (in_row x.s.now x.shape x.tables.now c.requires x.state c.if-shape-state.false l.j c.loop-j-test.true) c.slot_of-t.ensures holding,
      record { exact = is_code t (omega (arith, one, few)); small = λ h. omega (arith, one, few); known = λ h. one },
    )

pub loop-j-preserved : goal.loop-j-preserved
loop-j-preserved c =
    let x = c.args in
    let l = c.loop-j in
    tried-more (read_charts x.s.now) x.state (test x.s.now x.vars.now x.events x.age) l.j c.slot_of-t.result l.invariant (in_row x.s.now x.shape x.tables.now c.requires x.state c.if-shape-state.false l.j c.loop-j-test.true) c.slot_of-t.ensures
    (ap val (sym c.in-Ok-false.field-0-test) ∙ c.in-Ok-false.ensures)

pub returns : goal.returns
returns c =
    let x = c.args in
    let l = c.loop-j in
    let k = small x.s.now x.shape x.tables.now c.requires x.state c.if-shape-state.false in
    let past = c.loop-j-test.false in (
      tried-end (read_charts x.s.now) x.state (test x.s.now x.vars.now x.events x.age) (16 - l.j) l.j (omega (arith, l.invariant.0)) l.invariant
          (λ i le lt. unnamed x.s.now x.shape c.requires.accepted x.state (i + 1) (sym (c.requires.has_rows x.state i k lt) ∙ c.requires.has_ends.empty x.state i k (omega (arith, past)) lt)),
      none-chosen x.shape.transitions,
    )
