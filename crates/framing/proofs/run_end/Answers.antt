use mathlib.Core.Path.{◌≡◌, sym, subst}
use mathlib.Core.List.{List}
use Prim.Native.Nat.{ℕ, ◌*◌, ◌/◌, ◌≤◌, ◌<◌}
use native.Mathlib.Omega.{arith}
use lib.ListN.{length}
use Rattle.std.specs.Prelude.{Option, Some, None, MatchOption}
use Rattle.std.specs.Option.{unwrap_or}
use Rattle.std.proofs.lemmas.Iterator.{first_from_Range}
use Rattle.std.proofs.Common.{rules, tests}
use Rattle.records.specs.Bytes.{byte}
use Rattle.framing.specs.Frame.{IsRun}
use Rattle.framing.proofs.run_end.Goals as goal

module _ (s : List ℕ) (start k : ℕ) (l : start ≤ length s / 16) where
  run-by : (r : Option ℕ) → MatchOption r ((j : ℕ) → start ≤ j → j < length s / 16 → byte s (16 * j) ≡ k)
      (λ i. (start ≤ i) × (i < length s / 16) × (byte s (16 * i) ≡ k → ⊥) × ((j : ℕ) → start ≤ j → j < i → byte s (16 * j) ≡ k)) → IsRun s start k (unwrap_or r (length s / 16))
  run-by None h = record { after = l; within = omega arith; same = h; other = λ b. absurd (omega (arith, b)) }
  run-by (Some i) h = record { after = h.0; within = omega (arith, h.1); same = h.3; other = λ b. h.2 }

pub returns : goal.returns
returns c =
    let a = c.args in
    let s = a.s.now in
    subst (IsRun s a.start a.kind) (sym c.unwrap_or.ensures)
    (run-by s a.start a.kind c.requires _
    (first_from_Range _ _ _ c.find.result (λ i. byte s (16 * i) ≡ a.kind → ⊥) (λ i. byte s (16 * i) ≡ a.kind) c.find.ensures.ran
    (λ x q k. search (rules, tests))
    (λ x q k. search (rules, tests))))
