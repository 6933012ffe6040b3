use mathlib.Core.Bool.{cond}
use mathlib.Core.List.{List}
use mathlib.Core.Path.{◌≡◌, refl, sym, ap, ◌∙◌, subst}
use Prim.Native.Nat.{ℕ, ◌+◌, ◌-◌, ◌≤◌, ◌<◌}
use native.Mathlib.Omega.{arith}
use Rattle.std.proofs.lemmas.Result.{err_from_is_err_and}
use borrow.Author.Tests.{lt-ltb, le-ltb}
use lib.ListN.{get_or}
use Rattle.model.specs.Limits.{most_edges, table_records}
use Rattle.records.specs.Refusal.{Out, fault}
use Rattle.prelude.specs.Owned.{of}
use Rattle.model.specs.Runs.{World, actions}
use Rattle.model.specs.AutomataTable.{read_automata}
use Rattle.automata_records.specs.Places.{first_update, first_reset, update_in}
use Rattle.automata_records.proofs.PlacesRead.{most-edges, edge-is}
use Rattle.machines.specs.Chains.{earliest}
use Rattle.answers.specs.Answers.{reason_of}
use Rattle.machines.specs.Worlds.{Moment, world_in, run_in}
use Rattle.automata_steps.specs.Index.{owner_in, owned_by, effect_keys}
use Rattle.automata_steps.proofs.IndexWalk.{Walk, walk_from, walk_at, walk-to, walk_ends, walk-done, up_to, Ahead, ahead-first, ahead-second, rises}
use Rattle.automata_steps.proofs.IndexRecords.{few-records, updates-of}
use Rattle.automata_steps.proofs.StepOf.{do_on, do-fault, do-more, do-none, take-fault, take_done}
use Rattle.automata_steps.proofs.steps.take_edge.Goals as goal

pub first_reset-reset-requires : goal.first_reset-reset-requires
first_reset-reset-requires c =
    let small : first_reset c.args.shape + c.args.shape.resets ≤ table_records = few-records c.args.s.now c.args.shape c.requires.0.shape in
    small

pub overflow_add-n : goal.overflow_add-n
overflow_add-n c =
    let few-edges : c.args.e < most_edges = omega (arith, c.requires.3, most-edges c.args.s.now c.args.shape c.requires.0.shape) in
    omega (arith, few-edges)

pub bounds-first-e : goal.bounds-first-e
bounds-first-e c =
    let few-edges : c.args.e < most_edges = omega (arith, c.requires.3, most-edges c.args.s.now c.args.shape c.requires.0.shape) in
    omega (arith, few-edges)

pub loop-n-init : goal.loop-n-init
loop-n-init c =
    let few-edges : c.args.e < most_edges = omega (arith, c.requires.3, most-edges c.args.s.now c.args.shape c.requires.0.shape) in
    let small : first_reset c.args.shape + c.args.shape.resets ≤ table_records = few-records c.args.s.now c.args.shape c.requires.0.shape in
    let few-updates : first_reset c.args.shape ≤ table_records = omega (arith, small) in
    let seen : (n : ℕ) → let x = c.args in (h : Ahead (owned_by x.s.now x.e) (first_reset x.shape) (first_reset x.shape + x.shape.resets) n) → up_to (first_reset x.shape) n ≡ earliest (owned_by x.s.now x.e) h.since (first_reset x.shape - h.since) = λ n h. let x = c.args in
    ahead-first (owned_by x.s.now x.e) (first_reset x.shape) (first_reset x.shape + x.shape.resets) (omega arith) (omega (arith, small)) h in
    let x = c.args in
    let h : Ahead (owned_by x.s.now x.e) (first_reset x.shape) (first_reset x.shape + x.shape.resets) (get_or x.first.now (effect_keys + x.e) 0)
    = record { since = first_update x.shape; early = omega arith; at = c.requires.1.effects.first_of x.e few-edges } in (
      walk_from few-updates (world_in x.vars.now x.events) _ (seen (get_or x.first.now (effect_keys + x.e) 0) h)
          (λ i m. actions (read_automata x.s.now).nodes (read_automata x.s.now).variables (updates-of x.s.now x.shape c.requires.0.shape x.e i) (world_in x.vars.now x.events m)),
      h,
    )

pub loop-n-smaller : goal.loop-n-smaller
loop-n-smaller c =
    let here : c.loop-n.n < first_reset c.args.shape = omega (arith, c.loop-n-test.true, c.first_reset-reset.ensures) in
    let small : first_reset c.args.shape + c.args.shape.resets ≤ table_records = few-records c.args.s.now c.args.shape c.requires.0.shape in
    let few-updates : first_reset c.args.shape ≤ table_records = omega (arith, small) in
    let work : List ℕ → (Moment → World) → Moment → Out World = let s = c.args.s.now in do_on (read_automata s).nodes (read_automata s).variables (λ m. (update_in s m).1) in
    let whole : Moment → Out World = let x = c.args in λ m. actions (read_automata x.s.now).nodes (read_automata x.s.now).variables (of x.e (read_automata x.s.now).updates) (world_in x.vars.now x.events m) in
    let walk : let x = c.args in let l = c.loop-n in Walk work whole x.s.now (first_update x.shape) (first_reset x.shape) x.e (world_in l.vars l.raised) l.n = let x = c.args in
    let l = c.loop-n in
    subst (Walk work whole x.s.now (first_update x.shape) (first_reset x.shape) x.e (world_in l.vars l.raised))
    (ap (λ b. cond b l.n 65535) (lt-ltb l.n (first_reset x.shape) here))
    l.invariant.0 in
    let some-record : c.loop-n.n ≡ 65535 → ⊥ = λ q. omega (arith, here, few-updates) in
    let place : let x = c.args in (first_update x.shape ≤ c.loop-n.n) × (c.loop-n.n < first_reset x.shape) × (owner_in x.s.now c.loop-n.n ≡ x.e) = walk_at (few-updates) walk some-record in
    let next-is : let x = c.args in let n = c.loop-n.n in get_or x.next.now n 0 ≡ earliest (owned_by x.s.now x.e) (n + 1) (first_reset x.shape + x.shape.resets - (n + 1)) = let x = c.args in
    let n = c.loop-n.n in
    c.requires.1.effects.next_of n place.0 (omega (arith, here))
    ∙ ap (λ k. earliest (owned_by x.s.now k) (n + 1) (first_reset x.shape + x.shape.resets - (n + 1))) place.2 in
    let x = c.args in
    let n = c.loop-n.n in
    omega (
      arith,
      here,
      rises (owned_by x.s.now x.e) (first_reset x.shape + x.shape.resets) (omega (arith, small)) n (get_or x.next.now n 0) (omega (arith, here)) next-is,
    )

pub loop-n-preserved : goal.loop-n-preserved
loop-n-preserved c =
    let here : c.loop-n.n < first_reset c.args.shape = omega (arith, c.loop-n-test.true, c.first_reset-reset.ensures) in
    let small : first_reset c.args.shape + c.args.shape.resets ≤ table_records = few-records c.args.s.now c.args.shape c.requires.0.shape in
    let few-updates : first_reset c.args.shape ≤ table_records = omega (arith, small) in
    let work : List ℕ → (Moment → World) → Moment → Out World = let s = c.args.s.now in do_on (read_automata s).nodes (read_automata s).variables (λ m. (update_in s m).1) in
    let whole : Moment → Out World = let x = c.args in λ m. actions (read_automata x.s.now).nodes (read_automata x.s.now).variables (of x.e (read_automata x.s.now).updates) (world_in x.vars.now x.events m) in
    let walk : let x = c.args in let l = c.loop-n in Walk work whole x.s.now (first_update x.shape) (first_reset x.shape) x.e (world_in l.vars l.raised) l.n = let x = c.args in
    let l = c.loop-n in
    subst (Walk work whole x.s.now (first_update x.shape) (first_reset x.shape) x.e (world_in l.vars l.raised))
    (ap (λ b. cond b l.n 65535) (lt-ltb l.n (first_reset x.shape) here))
    l.invariant.0 in
    let some-record : c.loop-n.n ≡ 65535 → ⊥ = λ q. omega (arith, here, few-updates) in
    let place : let x = c.args in (first_update x.shape ≤ c.loop-n.n) × (c.loop-n.n < first_reset x.shape) × (owner_in x.s.now c.loop-n.n ≡ x.e) = walk_at (few-updates) walk some-record in
    let next-is : let x = c.args in let n = c.loop-n.n in get_or x.next.now n 0 ≡ earliest (owned_by x.s.now x.e) (n + 1) (first_reset x.shape + x.shape.resets - (n + 1)) = let x = c.args in
    let n = c.loop-n.n in
    c.requires.1.effects.next_of n place.0 (omega (arith, here))
    ∙ ap (λ k. earliest (owned_by x.s.now k) (n + 1) (first_reset x.shape + x.shape.resets - (n + 1))) place.2 in
    let seen : (n : ℕ) → let x = c.args in (h : Ahead (owned_by x.s.now x.e) (first_reset x.shape) (first_reset x.shape + x.shape.resets) n) → up_to (first_reset x.shape) n ≡ earliest (owned_by x.s.now x.e) h.since (first_reset x.shape - h.since) = λ n h. let x = c.args in
    ahead-first (owned_by x.s.now x.e) (first_reset x.shape) (first_reset x.shape + x.shape.resets) (omega arith) (omega (arith, small)) h in
    let x = c.args in
    let l = c.loop-n in
    let h : Ahead (owned_by x.s.now x.e) (first_reset x.shape) (first_reset x.shape + x.shape.resets) (get_or x.next.now l.n 0)
    = record { since = l.n + 1; early = omega (arith, here); at = next-is } in (
      walk-to (few-updates) walk some-record _ (seen (get_or x.next.now l.n 0) h) (world_in c.do_update.new.vars c.in_ok-raised.raised)
          (do-more (read_automata x.s.now).nodes (read_automata x.s.now).variables (λ m. (update_in x.s.now m).1) l.n (world_in l.vars l.raised) (world_in c.do_update.new.vars c.in_ok-raised.raised)
          c.in_ok-raised.ensures),
      h,
    )

pub reset_clocks-requires : goal.reset_clocks-requires
reset_clocks-requires c =
    let small : first_reset c.args.shape + c.args.shape.resets ≤ table_records = few-records c.args.s.now c.args.shape c.requires.0.shape in
    let done : first_reset c.args.shape ≤ c.loop-n.n = omega (arith, c.loop-n-test.false, c.first_reset-reset.ensures) in
    let x = c.args in (
      c.requires.0,
      λ n h k. c.requires.1.effects.next_of n (omega arith) k,
      c.requires.1.places,
      ahead-second (owned_by x.s.now x.e) (first_reset x.shape) (first_reset x.shape + x.shape.resets) (omega arith) (omega (arith, small)) c.loop-n.invariant.1 done,
    )

pub returns-in_err-raised-clause-m_after : goal.returns-in_err-raised-clause-m_after
returns-in_err-raised-clause-m_after c =
    let here : c.loop-n.n < first_reset c.args.shape = omega (arith, c.loop-n-test.true, c.first_reset-reset.ensures) in
    let small : first_reset c.args.shape + c.args.shape.resets ≤ table_records = few-records c.args.s.now c.args.shape c.requires.0.shape in
    let few-updates : first_reset c.args.shape ≤ table_records = omega (arith, small) in
    let some-record : c.loop-n.n ≡ 65535 → ⊥ = λ q. omega (arith, here, few-updates) in
    let x = c.args in
    let l = c.loop-n in
    let w = reason_of c.in_err-raised.field-0.0 in
    let p = err_from_is_err_and c.from_residual.result c.from_residual.ensures.1 in
    λ m.
    rw (p.1, p.2)
    (take-fault (read_automata x.s.now) x.automaton (run_in x.locations.now x.clocks.now x.vars.now x.events m) x.e w
    (ap (λ f. f m)
    (sym
    (walk_ends few-updates
    (subst (Walk (do_on (read_automata x.s.now).nodes (read_automata x.s.now).variables (λ k. (update_in x.s.now k).1)) (λ k. actions (read_automata x.s.now).nodes (read_automata x.s.now).variables (of x.e (read_automata x.s.now).updates) (world_in x.vars.now x.events k)) x.s.now (first_update x.shape) (first_reset x.shape) x.e (world_in l.vars l.raised))
    (ap (λ b. cond b l.n 65535) (lt-ltb l.n (first_reset x.shape) here))
    l.invariant.0)
    some-record (λ k. fault w)
    (do-fault (read_automata x.s.now).nodes (read_automata x.s.now).variables (λ k. (update_in x.s.now k).1) l.n (world_in l.vars l.raised) w c.in_err-raised.ensures)))))

pub returns-clause-m_after : goal.returns-clause-m_after
returns-clause-m_after c =
    let done : first_reset c.args.shape ≤ c.loop-n.n = omega (arith, c.loop-n-test.false, c.first_reset-reset.ensures) in
    let x = c.args in
    let l = c.loop-n in
    λ m.
    take_done (read_automata x.s.now) x.automaton (run_in x.locations.now x.clocks.now x.vars.now x.events m) x.e (world_in l.vars l.raised m)
    (ap (λ f. f m)
    (sym
    (walk-done l.invariant.0 (ap (λ b. cond b l.n 65535) (le-ltb l.n (first_reset x.shape) done))
    ∙ do-none (read_automata x.s.now).nodes (read_automata x.s.now).variables (λ k. (update_in x.s.now k).1) (world_in l.vars l.raised))))
    c.target_of.result (c.target_of.ensures ∙ sym (ap (λ u. u.target) (edge-is x.s.now x.shape c.requires.0.shape x.e c.requires.3)))
    c.reset_clocks.new.clocks c.reset_clocks.ensures _ refl
