use mathlib.Core.Path.{sym, subst}
use native.Mathlib.Omega.{arith}
use Rattle.model.specs.Replay.{chosen}
use Rattle.records.specs.Wrote.{Wrote}
use Rattle.lines.specs.Text.{chosen_of}
use Rattle.lines.proofs.Digits.{decimal_of_16_bits}
use Rattle.records.proofs.Wrote.{wrote-near}
use Rattle.lines.proofs.put_chosen.Goals as goal

pub returns-in-Some : goal.returns-in-Some
returns-in-Some c =
    let a = c.args in
    let called = c.put_decimal in (
      subst (λ x. Wrote a.out.now a.at (chosen (chosen_of x)) called.new.out called.result) (sym c.in-Some.is) called.ensures,
      wrote-near 5 called.ensures (decimal_of_16_bits c.in-Some.t (omega arith)),
    )
