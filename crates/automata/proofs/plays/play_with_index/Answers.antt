use mathlib.Core.Path.{◌≡◌, sym, ap, ◌∙◌, subst}
use Prim.Native.Nat.{◌+◌, ◌-◌, ◌<◌}
use native.Mathlib.Omega.{arith}
use Rattle.std.proofs.lemmas.Bool.Decides.{nat_tests}
use lib.ListN.{length, get_or, drop, length-drop}
use lib.Seq.{take_all}
use Rattle.records.specs.Refusal.{val, fault}
use Rattle.model.specs.Outcome.{settled}
use Rattle.model.specs.Runs.{cycle}
use Rattle.model.specs.AutomataTable.{read_automata}
use Rattle.model.specs.Automata.{automata}
use Rattle.answers.specs.Answers.{stop_of}
use Rattle.machines.specs.Playing.{played, stopped_at}
use Rattle.machines.proofs.Playing.{played_after-none, played_after-more, played_after-stop, played_after-all}
use Rattle.machines.specs.Worlds.{moment, run_in}
use Rattle.automata.specs.RunOf.{run_of}
use Rattle.automata.specs.PlayedOf.{BetweenCycles}
use Rattle.automata.proofs.PlayedOf.{rested-next, rested-few, told-later}
use Rattle.automata.proofs.plays.play_with_index.Goals as goal

pub returns-then-is_empty : goal.returns-then-is_empty
returns-then-is_empty c =
    let x = c.args in
    let m = automata (read_automata x.s.now) in
    sym
    (ap (λ p. settled (run_of x.run) (stopped_at p.count p.run p.stop))
    (played_after-all m x.masks.now (run_of x.run) 0 (run_of x.run) (grind (arith, nat_tests, c.if-is_empty.ensures)) (played_after-none m x.masks.now (run_of x.run))))

pub overflow_add-run : goal.overflow_add-run
overflow_add-run c =
    let x = c.args in
    let y = c.cycle_after_checks.new in
    let ok = c.requires.prepared.accepted in
    let p = run_in y.locations y.clocks y.vars 0 (moment 1 (x.run.cycles + 1)) in
    let done : cycle (automata (read_automata x.s.now)) (get_or x.masks.now 0 0) (run_of x.run) ≡ val (tt, p) = sym c.in-Ok.ensures in
    omega (arith, rested-few x.s.now x.shape ok p (rested-next x.s.now x.shape ok (get_or x.masks.now 0 0) (run_of x.run) p done).0)

pub further_cycles-rest-requires-clause-between_cycles : goal.further_cycles-rest-requires-clause-between_cycles
further_cycles-rest-requires-clause-between_cycles c =
    let x = c.args in
    let y = c.cycle_after_checks.new in
    let p = run_in y.locations y.clocks y.vars 0 (moment 1 (x.run.cycles + 1)) in
    let done : cycle (automata (read_automata x.s.now)) (get_or x.masks.now 0 0) (run_of x.run) ≡ val (tt, p) = sym c.in-Ok.ensures in
    subst (BetweenCycles (automata (read_automata x.s.now))) (sym c.run_in-after.ensures) (rested-next x.s.now x.shape c.requires.prepared.accepted (get_or x.masks.now 0 0) (run_of x.run) p done).0

pub returns-in-Ok : goal.returns-in-Ok
returns-in-Ok c =
    let x = c.args in
    let some-mask : 0 < length x.masks.now = grind (arith, nat_tests, c.if-is_empty.ensures) in
    let done : cycle (automata (read_automata x.s.now)) (get_or x.masks.now 0 0) (run_of x.run) ≡ val (tt, run_of c.run_in-after.result) = sym c.in-Ok.ensures ∙ ap (λ r. val (tt, r)) (sym c.run_in-after.ensures) in
    let m = automata (read_automata x.s.now) in
    let masks = x.masks.now in
    let q = run_of c.run_in-after.result in
    let y = c.further_cycles-rest in
    let rest = take_all (length masks - 1) (drop 1 masks) (omega (arith, length-drop 1 masks)) in
    let p = played m (drop 1 masks) q in
    let number : y.result.count ≡ p.count = y.ensures.number ∙ ap (λ l. (played m l q).count) rest in
    let run : run_of y.result.run ≡ p.run = y.ensures.run ∙ ap (λ l. (played m l q).run) rest in
    ap (λ r. record { answer = val (y.result.count + 1); lent = r }) run
    ∙ ap (settled (run_of x.run)) (told-later p.count (y.result.count + 1) p.run p.stop (ap (λ n. n + 1) number))
    ∙ sym
    (ap (λ p. settled (run_of x.run) (stopped_at p.count p.run p.stop))
    (played_after-more m masks (run_of x.run) 0 (run_of x.run) q some-mask (played_after-none m masks (run_of x.run)) done))

pub returns-in-Err : goal.returns-in-Err
returns-in-Err c =
    let x = c.args in
    let some-mask : 0 < length x.masks.now = grind (arith, nat_tests, c.if-is_empty.ensures) in
    let m = automata (read_automata x.s.now) in
    let stops : cycle m (get_or x.masks.now 0 0) (run_of x.run) ≡ fault (stop_of c.in-Err.w) = sym c.in-Err.ensures in
    sym
    (ap (λ p. settled (run_of x.run) (stopped_at p.count p.run p.stop))
    (played_after-stop m x.masks.now (run_of x.run) 0 (run_of x.run) (stop_of c.in-Err.w) some-mask (played_after-none m x.masks.now (run_of x.run)) stops))
