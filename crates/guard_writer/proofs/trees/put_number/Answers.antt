use mathlib.Core.Path.{◌≡◌, sym, ap, ◌∙◌}
use mathlib.Core.List.{[], ◌∷◌}
use Prim.Native.Nat.{◌+◌, ◌%◌}
use native.Mathlib.Omega.{arith}
use Rattle.lines.proofs.Digits.{decimal-one}
use Rattle.guard_writer.proofs.Texts.{wrote_as}
use Rattle.guard_writer.proofs.trees.put_number.Goals as goal

pub returns-then-n-lt10 : goal.returns-then-n-lt10
returns-then-n-lt10 c =
    let few = c.if-n-lt10.true in
    let e : c.args.n ≡ c.args.n % 10 = omega arith in
    wrote_as c.put_char.ensures (ap (λ k. (48 + k) ∷ []) e ∙ sym (decimal-one c.args.n few))
