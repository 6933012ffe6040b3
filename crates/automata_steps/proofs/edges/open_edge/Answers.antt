use mathlib.Core.Path.{◌≡◌, sym, ap, ◌∙◌}
use mathlib.Core.Bool.{Bool, cond}
use mathlib.Core.List.{List, ◌∷◌, map}
use Prim.Native.Nat.{ℕ, ◌+◌, ◌-◌, ◌≤◌, ◌<◌}
use native.Mathlib.Nat.{zero-add}
use native.Mathlib.Omega.{arith}
use Rattle.std.proofs.lemmas.Result.{err_from_is_err_and}
use lib.Dec.{eqb}
use lib.ListN.{get_or}
use Rattle.model.specs.Limits.{table_records}
use Rattle.prelude.specs.Lists.{keep}
use Rattle.records.specs.Refusal.{Out, fault, ◌>>=◌}
use Rattle.model.specs.AutomataTable.{read_automata}
use Rattle.model.specs.Automata.{opens, the_one}
use Rattle.automata_records.specs.declared.Shape.{Shape}
use Rattle.automata_records.specs.Places.{first_edge, first_literal, edge_in, edge_at}
use Rattle.automata_records.proofs.PlacesRead.{most-locations}
use Rattle.answers.specs.Answers.{reason_of}
use Rattle.automata_steps.specs.declared.edges.Tally.{Tally}
use Rattle.automata_steps.specs.declared.edges.Tally.TheVariants.{Nothing}
use Rattle.answers.specs.declared.Reason.{Reason}
use Rattle.std.specs.Prelude.{Result, Ok, Err}
use Rattle.automata_steps.specs.StepOf.{bare_run, edge_open, one_open, counted_of}
use Rattle.automata_steps.proofs.IndexWalk.{walk_from, walk_at, walk-rises, walk_more, walk_ends, walk-done}
use Rattle.automata_steps.proofs.IndexRecords.{few-records, own_edge, leaving-none}
use Rattle.automata_steps.proofs.StepOfOpen.{count_on, counted, count_none, all-leaving}
use Rattle.automata_steps.proofs.edges.open_edge.Goals as goal

-- what the record at the walk counts, as the walk's step has it
here-counted : (s : List ℕ) (sh : Shape) (isOpen : ℕ → Out Bool) (automaton n start : ℕ) (t : Tally) (c : Result Tally Reason) → start ≡ first_edge sh → first_edge sh ≤ n →
    ((es : List ℕ) → counted_of isOpen c es ≡ one_open isOpen t (cond (eqb (edge_at s sh (n - start)).automaton automaton) ((n - start) ∷ es) es)) → (rest : List ℕ) →
    count_on isOpen (first_edge sh) (own_edge s automaton) (n ∷ rest) t ≡ counted_of isOpen c (map (λ k. k - first_edge sh) (keep (own_edge s automaton) rest))
here-counted s sh isOpen automaton n start t c q l h rest =
    let e : first_edge sh + (n - first_edge sh) ≡ n = omega arith in
    counted isOpen (first_edge sh) (own_edge s automaton) n t c
    (λ es.
    h es
    ∙ ap (λ k. one_open isOpen t (cond (eqb (edge_at s sh (n - k)).automaton automaton) ((n - k) ∷ es) es)) q
    ∙ ap (λ k. one_open isOpen t (cond (eqb (edge_in s k).automaton automaton) ((n - first_edge sh) ∷ es) es)) e)
    rest

pub first_edge-start-requires : goal.first_edge-start-requires
first_edge-start-requires c =
    few-records c.args.s.now c.args.shape c.requires.0.shape

pub bounds-first-location : goal.bounds-first-location
bounds-first-location c =
    let few-locations : c.args.location < 128 = omega (arith, c.if-shape-location.false, most-locations c.args.s.now c.args.shape c.requires.0.shape) in
    omega (arith, few-locations)

pub loop-n-init : goal.loop-n-init
loop-n-init c =
    let small : first_literal c.args.shape ≤ table_records = let f = few-records c.args.s.now c.args.shape c.requires.0.shape in omega arith in
    let few-locations : c.args.location < 128 = omega (arith, c.if-shape-location.false, most-locations c.args.s.now c.args.shape c.requires.0.shape) in
    let x = c.args in (
      tt,
      walk_from small Nothing _ (ap (λ k. get_or x.first.now k 0) (sym (zero-add x.location)) ∙ c.requires.1.edges.first_of x.location few-locations)
          (all-leaving x.s.now x.shape c.requires.0.shape (bare_run x.clocks.now x.vars.now x.events) x.automaton x.location),
    )

pub loop-n-smaller : goal.loop-n-smaller
loop-n-smaller c =
    let small : first_literal c.args.shape ≤ table_records = let f = few-records c.args.s.now c.args.shape c.requires.0.shape in omega arith in
    omega (arith, walk-rises small c.loop-n.invariant.1 c.loop-n-test.true c.args.next.now c.requires.1.edges.next_of)

pub loop-n-preserved : goal.loop-n-preserved
loop-n-preserved c =
    let x = c.args in
    let l = c.loop-n in
    let small : first_literal x.shape ≤ table_records = let f = few-records x.s.now x.shape c.requires.0.shape in omega arith in
    let place = walk_at small l.invariant.1 c.loop-n-test.true in (
      c.in_ok-tally.ensures.counted_in,
      walk_more small l.invariant.1 c.loop-n-test.true x.next.now c.requires.1.edges.next_of c.in_ok-tally.tally
          (here-counted x.s.now x.shape (edge_open (read_automata x.s.now) (bare_run x.clocks.now x.vars.now x.events)) x.automaton l.n c.first_edge-start.result l.tally (Ok c.in_ok-tally.tally)
          c.first_edge-start.ensures place.0 c.in_ok-tally.ensures.by_index),
    )

pub returns-in_err-tally-clause-result_value : goal.returns-in_err-tally-clause-result_value
returns-in_err-tally-clause-result_value c =
    let x = c.args in
    let l = c.loop-n in
    let small : first_literal x.shape ≤ table_records = let f = few-records x.s.now x.shape c.requires.0.shape in omega arith in
    let place = walk_at small l.invariant.1 c.loop-n-test.true in
    let p = err_from_is_err_and c.from_residual.result c.from_residual.ensures.1 in
    rw (p.1, p.2)
    (sym
    (walk_ends small l.invariant.1 c.loop-n-test.true (fault (reason_of c.in_err-tally.field-0.0))
    (here-counted x.s.now x.shape (edge_open (read_automata x.s.now) (bare_run x.clocks.now x.vars.now x.events)) x.automaton l.n c.first_edge-start.result l.tally (Err c.in_err-tally.field-0.0)
    c.first_edge-start.ensures place.0 c.in_err-tally.ensures.by_index)))

pub returns-then-shape-location-clause-result_value : goal.returns-then-shape-location-clause-result_value
unfolding opens
returns-then-shape-location-clause-result_value c =
    let x = c.args in
    sym (ap (λ es. opens (edge_open (read_automata x.s.now) (bare_run x.clocks.now x.vars.now x.events)) es >>= the_one) (leaving-none x.s.now x.shape c.requires.0 x.automaton x.location c.if-shape-location.true))

pub returns-clause-result_value : goal.returns-clause-result_value
returns-clause-result_value c =
    let x = c.args in
    let l = c.loop-n in
    c.choice_for.ensures.result_value
    ∙ sym
    (walk-done l.invariant.1 c.loop-n-test.false
    ∙ count_none (edge_open (read_automata x.s.now) (bare_run x.clocks.now x.vars.now x.events)) (first_edge x.shape) (own_edge x.s.now x.automaton) l.tally)
