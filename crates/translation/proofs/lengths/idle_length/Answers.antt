use mathlib.Core.Path.{sym, ap}
use mathlib.Core.Bool.{cond}
use Prim.Native.Nat.{◌+◌, ◌*◌}
use native.Mathlib.Omega.{arith}
use borrow.Author.Tests.{eq-eqb, ne_eqb}
use Rattle.translation.proofs.lengths.idle_length.Goals as goal

pub returns-then-waiting-eq0 : goal.returns-then-waiting-eq0
returns-then-waiting-eq0 c =
    let x = c.args in
    (sym (ap (λ b. cond b (x.leaving + 1) (2 * x.leaving + x.waiting + 5)) (eq-eqb x.waiting 0 c.if-waiting-eq0.true)), omega arith)

pub returns-else-waiting-eq0 : goal.returns-else-waiting-eq0
returns-else-waiting-eq0 c =
    let x = c.args in
    (sym (ap (λ b. cond b (x.leaving + 1) (2 * x.leaving + x.waiting + 5)) (ne_eqb x.waiting 0 c.if-waiting-eq0.false)), omega arith)
