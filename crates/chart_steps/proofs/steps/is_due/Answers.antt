use mathlib.Core.Path.{◌≡◌, sym, ap, ◌∙◌}
use mathlib.Core.List.{List}
use Prim.Native.Nat.{ℕ, ◌+◌, ◌<◌}
use native.Mathlib.Omega.{arith}
use lib.ListN.{get_or}
use Rattle.std.proofs.lemmas.Bool.{false≢true}
use Rattle.model.specs.Charts.{ticks, every_holds}
use Rattle.chart_records.specs.declared.Shape.{Shape}
use Rattle.chart_records.specs.Places.{place_at}
use Rattle.chart_records.proofs.PlacesRead.{most-states}
use Rattle.machines.specs.Chains.{earliest}
use Rattle.chart_steps.specs.declared.tables.Tables.{Tables}
use Rattle.chart_steps.specs.Tables.{waiting_keys, keyed}
use Rattle.chart_steps.specs.Prepared.{Prepared}
use Rattle.chart_steps.proofs.Waiting.{due-outside, due-none, due-first, first-waits, wait-ticks}
use Rattle.chart_steps.proofs.steps.is_due.Goals as goal

-- the first waiting action of a state that the set has
module _ (s : List ℕ) (sh : Shape) (t : Tables) (set : Prepared s sh t) (st : ℕ) (known : st < sh.states) where
  abbrev first : ℕ
  first = get_or t.first (waiting_keys + st) 0

  small : st < 128
  small = omega (arith, most-states s sh set.accepted.shape)

  found : first ≡ earliest (keyed s sh (waiting_keys + st)) 0 sh.actions
  found = set.has_actions.first_of (waiting_keys + st) (omega (arith, small))

  waits : (first ≡ 65535 → ⊥) → (first < sh.actions) × (place_at s sh first ≡ 4)
  waits = first-waits s sh set.accepted st first small found

pub returns-then-shape-state : goal.returns-then-shape-state
returns-then-shape-state c =
    let x = c.args in
    (sym (due-outside x.s.now x.shape c.requires.accepted x.state x.age c.if-shape-state.true), λ e. absurd (false≢true e))

pub overflow_add-a : goal.overflow_add-a
overflow_add-a c = omega (arith, c.if-shape-state.false, most-states c.args.s.now c.args.shape c.requires.accepted.shape)

pub bounds-tables-state : goal.bounds-tables-state
bounds-tables-state c = omega (arith, c.if-shape-state.false, most-states c.args.s.now c.args.shape c.requires.accepted.shape)

pub returns-then-a : goal.returns-then-a
returns-then-a c =
    let x = c.args in
    let known = c.if-shape-state.false in
    (sym (due-none x.s.now x.shape c.requires.accepted x.state _ x.age (small x.s.now x.shape x.tables.now c.requires x.state known) (found x.s.now x.shape x.tables.now c.requires x.state known) c.if-a.true), λ e. absurd (false≢true e))

pub wait_of-requires : goal.wait_of-requires
wait_of-requires c =
    let x = c.args in
    (c.requires.accepted, (waits x.s.now x.shape x.tables.now c.requires x.state c.if-shape-state.false c.if-a.false).0)

pub every_holds-requires : goal.every_holds-requires
every_holds-requires c =
    let x = c.args in
    let one = waits x.s.now x.shape x.tables.now c.requires x.state c.if-shape-state.false c.if-a.false in
    omega (arith, c.ticks.ensures ∙ ap ticks c.wait_of.ensures, wait-ticks x.s.now x.shape c.requires.accepted _ one.0 one.1)

pub returns : goal.returns
returns c =
    let x = c.args in
    let known = c.if-shape-state.false in (
      c.every_holds.ensures
          ∙ ap (λ d. every_holds d x.age) (c.ticks.ensures ∙ ap ticks c.wait_of.ensures)
          ∙ due-first x.s.now x.shape c.requires.accepted x.state _ x.age (small x.s.now x.shape x.tables.now c.requires x.state known) (found x.s.now x.shape x.tables.now c.requires x.state known) c.if-a.false,
      λ e. known,
    )
