use mathlib.Core.Path.{◌≡◌, sym, ap, ◌∙◌}
use Prim.Native.Nat.{◌<◌, ◌≤◌}
use native.Mathlib.Omega.{arith}
use lib.Dec.{leb→le, nleb→lt}
use lib.ListN.{length}
use Rattle.records.specs.Refusal.{val}
use Rattle.model.specs.Outcome.{settled}
use Rattle.model.specs.Translation.{twin_bytes}
use Rattle.prelude.proofs.Bools.{of-true, not-false}
use Rattle.translation.proofs.TextsFile.{too_short, long-enough, from_start}
use Rattle.translation.proofs.translate.Goals as goal

pub returns-then-not-has_room : goal.returns-then-not-has_room
returns-then-not-has_room c =
    let x = c.args in
    let text = twin_bytes x.s.now in
    let h : length x.out.now < length text = nleb→lt (length text) (length x.out.now) (not-false (sym c.has_room.ensures ∙ c.if-not-has_room.true)) in
    sym (ap (settled x.out.now) (too_short text x.out.now h))

pub returns : goal.returns
returns c =
    let x = c.args in
    let text = twin_bytes x.s.now in
    let h : length text ≤ length x.out.now = leb→le (length text) (length x.out.now) (of-true (sym c.has_room.ensures ∙ c.if-not-has_room.false)) in
    let answer : c.put_twin.result ≡ length text = omega (arith, c.put_twin.ensures.wrote.behind) in
    (λ i. settled x.out.now (val (answer i, (c.put_twin.ensures.wrote.written ∙ from_start text x.out.now h) i)))
    ∙ sym (ap (settled x.out.now) (long-enough text x.out.now h))
