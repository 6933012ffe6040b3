use mathlib.Core.Path.{◌≡◌, refl, sym, ap, ◌∙◌}
use mathlib.Core.List.{List}
use Prim.Native.Nat.{ℕ, ◌+◌, ◌<◌}
use native.Mathlib.Omega.{arith}
use Rattle.std.proofs.lemmas.Result.{err_from_is_err_and}
use lib.IntN.{ℤ}
use Rattle.records.specs.Refusal.{Out, val, ◌>>=◌}
use Rattle.model.specs.Runs.{Run, Answer, moved, stepped, taken}
use Rattle.model.specs.AutomataTable.{read_automata}
use Rattle.model.specs.Automata.{automata, edge_step}
use Rattle.automata_records.specs.declared.Shape.{Shape}
use Rattle.automata_records.specs.Accepted.{Accepted}
use Rattle.automata_records.proofs.PlacesRead.{length-initial}
use Rattle.answers.specs.Answers.{reason_of}
use Rattle.machines.proofs.Turns.{cycle-more, cycle-stop, cycle-end}
use Rattle.machines.specs.Worlds.{moment, run_in}
use Rattle.automata.proofs.TurnOf.{ready-next, part-stepped}
use Rattle.automata.proofs.cycles.automata_turns.Goals as goal

-- the turn of the present run, by what the automaton's turn comes to
stepping : (s : List ℕ) (sh : Shape) → Accepted s sh → (at clocks : List ℕ) (vars : List ℤ) (events a cycles : ℕ) {o : Out (Answer × Run)} → a < sh.automata →
    o ≡ edge_step (read_automata s) a (run_in at clocks vars events (moment (a + 1) cycles)) →
    stepped (automata (read_automata s)) (run_in at clocks vars events (moment (a + 1) cycles)) ≡ (o >>= λ y. val (y.0, moved y.1))
stepping s sh ok at clocks vars events a cycles h e =
    part-stepped s sh ok a (run_in at clocks vars events (moment (a + 1) cycles)) refl h ∙ ap (λ o. o >>= λ y. val (y.0, moved y.1)) (sym e)

pub returns-in_err-after-clause-cycles_after : goal.returns-in_err-after-clause-cycles_after
returns-in_err-after-clause-cycles_after c =
    let x = c.args in
    let l = c.loop-automaton in
    let ok = c.requires.prepared.accepted in
    let at = run_in l.locations l.clocks l.vars l.present (moment (l.automaton + 1) x.cycles) in
    let is = stepping x.s.now x.shape ok l.locations l.clocks l.vars l.present l.automaton x.cycles c.loop-automaton-test.true (c.in_err-after.ensures.m_after (moment (l.automaton + 1) x.cycles)) in
    let p = err_from_is_err_and c.from_residual.result c.from_residual.ensures.1 in
    rw (p.1, p.2)
    (sym
    (l.invariant.1
    ∙ cycle-stop (automata (read_automata x.s.now)) x.shape.automata (length-initial x.s.now x.shape ok.shape) at (reason_of c.in_err-after.field-0.0) (omega (arith, c.loop-automaton-test.true)) is))

pub loop-automaton-preserved : goal.loop-automaton-preserved
loop-automaton-preserved c =
    let x = c.args in
    let l = c.loop-automaton in
    let y = c.edge_step in
    let ok = c.requires.prepared.accepted in
    let h = c.loop-automaton-test.true in
    let at = run_in l.locations l.clocks l.vars l.present (moment (l.automaton + 1) x.cycles) in
    let q = run_in y.new.locations y.new.clocks y.new.vars c.in_ok-after.after (moment (l.automaton + 1 + 1) x.cycles) in
    let a = taken c.in_ok-after.field-0-0 in
    let is : stepped (automata (read_automata x.s.now)) at ≡ val (a, q) = stepping x.s.now x.shape ok l.locations l.clocks l.vars l.present l.automaton x.cycles h (c.in_ok-after.ensures.m_after (moment (l.automaton + 1) x.cycles)) in (
      (ready-next x.s.now x.shape ok at (a, q) l.invariant.0 (omega (arith, h)) is).0,
      l.invariant.1 ∙ cycle-more (automata (read_automata x.s.now)) x.shape.automata (length-initial x.s.now x.shape ok.shape) at a q (omega (arith, h)) refl is,
      c.in_ok-after.ensures.clocks_len_unchanged ∙ l.invariant.2,
    )

pub returns-clause-cycles_after : goal.returns-clause-cycles_after
returns-clause-cycles_after c =
    let x = c.args in
    let l = c.loop-automaton in
    let r = run_in l.locations l.clocks l.vars l.present (moment (l.automaton + 1) x.cycles) in
    sym
    (l.invariant.1
    ∙ cycle-end (automata (read_automata x.s.now)) x.shape.automata (length-initial x.s.now x.shape c.requires.prepared.accepted.shape) r (omega (arith, l.invariant.0.within, c.loop-automaton-test.false)))
