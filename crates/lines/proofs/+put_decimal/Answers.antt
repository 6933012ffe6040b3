use mathlib.Core.Path.{◌≡◌, sym, subst}
use Prim.Native.Nat.{◌+◌, ◌/◌}
use native.Mathlib.Omega.{arith}
use lib.ListN.{length}
use Rattle.model.specs.Replay.{decimal}
use Rattle.records.specs.Wrote.{Wrote}
use Rattle.records.proofs.Wrote.{wrote_then}
use Rattle.lines.proofs.Digits.{decimal-one, decimal-more, length_digits}
use Rattle.lines.proofs.+put_decimal.Goals as goal

pub put_char-requires-else-n-lt10 : goal.put_char-requires-else-n-lt10
put_char-requires-else-n-lt10 t c =
    let e : c.put_decimal-next.result ≡ c.args.at + length (decimal (c.args.n / 10)) = c.put_decimal-next.ensures.behind in
    omega (arith, length_digits 20 (c.args.n / 10))

pub returns-then-n-lt10 : goal.returns-then-n-lt10
returns-then-n-lt10 t c =
    subst (λ text. Wrote c.args.out.now c.args.at text c.put_char.new.out c.put_char.result) (sym (decimal-one c.args.n c.if-n-lt10.true)) c.put_char.ensures

pub returns-else-n-lt10 : goal.returns-else-n-lt10
returns-else-n-lt10 t c =
    subst (λ text. Wrote c.args.out.now c.args.at text c.put_char-else-n-lt10.new.out c.put_char-else-n-lt10.result)
    (sym (decimal-more c.args.n c.if-n-lt10.false c.ranges.n.fits))
    (wrote_then c.put_decimal-next.ensures c.put_char-else-n-lt10.ensures)
