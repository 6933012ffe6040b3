use mathlib.Core.Path.{◌≡◌, subst}
use Prim.Native.Nat.{◌+◌, ◌*◌, ◌-◌}
use native.Mathlib.Omega.{arith}
use lib.ListN.{take, drop}
use Rattle.records.specs.Wrote.{Begins}
use Rattle.listing.specs.Listing.{guard_text}
use Rattle.listing.proofs.guard_into.Goals as goal

pub returns : goal.returns
returns c =
    let a = c.args in
    let known = c.requires in
    let sixteen : 16 * a.n + 16 - 16 * a.n ≡ 16 = omega arith in
    (subst (λ t. Begins a.out.now t c.put_alone.new.out c.put_alone.result) (λ x. guard_text (known.0.same x) (known.2 x) (take (sixteen x) (drop (16 * a.n) a.s.now))) c.put_alone.ensures.0, c.put_alone.ensures.1)
