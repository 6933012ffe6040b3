use mathlib.Core.Path.{◌≡◌, refl, sym, ap, ◌∙◌}
use mathlib.Core.List.{List}
use Prim.Native.Nat.{ℕ, ◌+◌, ◌-◌}
use native.Mathlib.Omega.{arith}
use lib.IntN.{ℤ}
use lib.ListN.{get_or}
use Rattle.std.specs.Prelude.{Result, Ok, Err, is_err, true, false}
use Rattle.prelude.proofs.Counts.{impossible}
use Rattle.records.specs.Refusal.{Out, val, fault, cycles_done}
use Rattle.model.specs.Runs.{Run, Machine, cycle, give}
use Rattle.model.specs.AutomataTable.{read_automata}
use Rattle.model.specs.Automata.{automata}
use Rattle.automata_records.specs.declared.Shape.{Shape}
use Rattle.automata_records.specs.Accepted.{Accepted}
use Rattle.automata_records.proofs.PlacesRead.{length-initial}
use Rattle.answers.specs.declared.Reason.{Reason}
use Rattle.answers.specs.Answers.{reason_of}
use Rattle.machines.specs.Turns.{after, finish}
use Rattle.machines.specs.Playing.{played}
use Rattle.machines.proofs.Turns.{cycle-given}
use Rattle.machines.proofs.Playing.{played_after-more, played_after-stop, played_after-all}
use Rattle.machines.specs.Worlds.{moment, run_in}
use Rattle.automata.specs.declared.runs.Run as declared-run
use Rattle.automata.specs.RunOf.{run_of}
use Rattle.automata.specs.TurnOf.{cycled_of}
use Rattle.automata.specs.PlayedOf.{BetweenCycles}
use Rattle.automata.proofs.TurnOf.{ready}
use Rattle.automata.proofs.PlayedOf.{rested-fine, rested-done, rested-next, rested-few, rest_of}
use Rattle.automata.proofs.plays.further_cycles.Goals as goal

-- the run that is given
given_is : (m : Machine) (r : declared-run.Run) → BetweenCycles m (run_of r) → run_of r ≡ run_in r.locations r.clocks r.variables 0 (moment 1 r.cycles)
given_is m r b = λ i. run_in r.locations r.clocks r.variables (b.events i) (moment (b.position i) r.cycles)

-- the cycle of the present run, by what it comes to in the places
cycling : (s : List ℕ) (sh : Shape) → Accepted s sh → (at clocks : List ℕ) (vars : List ℤ) (cycles given : ℕ) {o : Out Run} →
    BetweenCycles (automata (read_automata s)) (run_in at clocks vars 0 (moment 1 cycles)) → (cycles ≡ 1_000_000 → ⊥) →
    o ≡ after (automata (read_automata s)) (sh.automata + 2 - 1) (run_in at clocks vars given (moment 1 cycles)) →
    cycle (automata (read_automata s)) given (run_in at clocks vars 0 (moment 1 cycles)) ≡ finish o
cycling s sh ok at clocks vars cycles given b n e =
    let q = run_in at clocks vars 0 (moment 1 cycles) in
    cycle-given (automata (read_automata s)) sh.automata (length-initial s sh ok.shape) given q (give given q) (rested-fine s sh ok given q b n) refl ∙ ap finish (sym e)

not_done : (o : Result (Unit {0}) Reason) → is_err o ≡ true → (w : Reason) × (o ≡ Err w)
not_done (Ok x) e = impossible (sym e)
not_done (Err w) e = (w, refl)

is_done : (o : Result (Unit {0}) Reason) → is_err o ≡ false → (r : Run) → cycled_of o r ≡ val r
is_done (Ok x) e r = refl
is_done (Err w) e r = impossible e

pub cycle_or_none-done-requires-clause-ready : goal.cycle_or_none-done-requires-clause-ready
cycle_or_none-done-requires-clause-ready c =
    let x = c.args in
    let l = c.loop-k in
    let ok = c.requires.prepared.accepted in
    let q = run_in l.locations l.clocks l.variables 0 (moment 1 l.cycles) in
    let given = get_or x.masks.now l.k 0 in
    ready x.s.now x.shape ok given q (rested-fine x.s.now x.shape ok given q l.invariant.1 c.if-cycles-eq-MOST_CYCLES.false)

pub returns-then-cycles-eq-MOST_CYCLES : goal.returns-then-cycles-eq-MOST_CYCLES
returns-then-cycles-eq-MOST_CYCLES c =
    let x = c.args in
    let l = c.loop-k in
    let ok = c.requires.prepared.accepted in
    let m = automata (read_automata x.s.now) in
    let r₀ = run_in x.run.locations x.run.clocks x.run.variables 0 (moment 1 x.run.cycles) in
    let q = run_in l.locations l.clocks l.variables 0 (moment 1 l.cycles) in
    rest_of _ _
    (ap (played m x.masks.now) (given_is m x.run c.requires.between_cycles)
    ∙ played_after-stop m x.masks.now r₀ l.k q cycles_done c.loop-k-test.true l.invariant.0
    (rested-done x.s.now x.shape ok (get_or x.masks.now l.k 0) q l.invariant.1 c.if-cycles-eq-MOST_CYCLES.true))
    _ _ c.further_to.ensures.0 c.further_to.ensures.1 (omega (arith, rested-few x.s.now x.shape ok q l.invariant.1, l.invariant.2))

pub returns-then-is_err : goal.returns-then-is_err
returns-then-is_err c =
    let x = c.args in
    let l = c.loop-k in
    let ok = c.requires.prepared.accepted in
    let m = automata (read_automata x.s.now) in
    let r₀ = run_in x.run.locations x.run.clocks x.run.variables 0 (moment 1 x.run.cycles) in
    let q = run_in l.locations l.clocks l.variables 0 (moment 1 l.cycles) in
    let given = get_or x.masks.now l.k 0 in
    let y = c.cycle_or_none-done in
    let p = run_in y.new.locations y.new.clocks y.new.vars 0 (moment 1 (l.cycles + 1)) in
    let w = not_done y.result (sym c.is_err.ensures.value ∙ c.if-is_err.true) in
    let stops : cycle m given q ≡ fault (reason_of w.0) =
    cycling x.s.now x.shape ok l.locations l.clocks l.variables l.cycles given l.invariant.1 c.if-cycles-eq-MOST_CYCLES.false y.ensures.cycles_after ∙ ap (λ o. finish (cycled_of o p)) w.1 in
    rest_of _ _
    (ap (played m x.masks.now) (given_is m x.run c.requires.between_cycles)
    ∙ played_after-stop m x.masks.now r₀ l.k q (reason_of w.0) c.loop-k-test.true l.invariant.0 stops)
    _ _ c.further_to-then-is_err.ensures.0 (c.further_to-then-is_err.ensures.1 ∙ ap (λ f. f 0 (moment 1 l.cycles)) (y.ensures.vars_unchanged w.0 w.1))
    (omega (arith, rested-few x.s.now x.shape ok q l.invariant.1, l.invariant.2))

pub loop-k-preserved : goal.loop-k-preserved
loop-k-preserved c =
    let x = c.args in
    let l = c.loop-k in
    let y = c.cycle_or_none-done in
    let ok = c.requires.prepared.accepted in
    let m = automata (read_automata x.s.now) in
    let r₀ = run_in x.run.locations x.run.clocks x.run.variables 0 (moment 1 x.run.cycles) in
    let q = run_in l.locations l.clocks l.variables 0 (moment 1 l.cycles) in
    let given = get_or x.masks.now l.k 0 in
    let p = run_in y.new.locations y.new.clocks y.new.vars 0 (moment 1 (l.cycles + 1)) in
    let done = cycling x.s.now x.shape ok l.locations l.clocks l.variables l.cycles given l.invariant.1 c.if-cycles-eq-MOST_CYCLES.false y.ensures.cycles_after
    ∙ ap finish (is_done y.result (sym c.is_err.ensures.value ∙ c.if-is_err.false) p) in (
      played_after-more m x.masks.now r₀ l.k q p c.loop-k-test.true l.invariant.0 done,
      (rested-next x.s.now x.shape ok given q p done).0,
      omega (arith, l.invariant.2),
    )

pub returns : goal.returns
returns c =
    let x = c.args in
    let l = c.loop-k in
    let m = automata (read_automata x.s.now) in
    let r₀ = run_in x.run.locations x.run.clocks x.run.variables 0 (moment 1 x.run.cycles) in
    let q = run_in l.locations l.clocks l.variables 0 (moment 1 l.cycles) in
    let count : c.further_to-2.result.count ≡ l.k = omega arith in
    rest_of _ _
    (ap (played m x.masks.now) (given_is m x.run c.requires.between_cycles) ∙ played_after-all m x.masks.now r₀ l.k q (omega arith) l.invariant.0)
    _ _ count c.further_to-2.ensures.1 (omega (arith, rested-few x.s.now x.shape c.requires.prepared.accepted q l.invariant.1, l.invariant.2))
