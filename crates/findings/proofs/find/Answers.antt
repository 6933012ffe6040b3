use mathlib.Core.Path.{◌≡◌}
use mathlib.Core.Bool.{Bool, true, false}
use mathlib.Core.List.{List}
use Prim.Native.Nat.{ℕ, ◌/◌, ◌≤◌, ◌<◌, zero-le}
use lib.ListN.{length}
use Rattle.std.specs.Prelude.{Option, Some, None, MatchOption}
use Rattle.std.proofs.lemmas.Iterator.{first_from_Range}
use Rattle.std.proofs.Common.{rules, tests}
use Rattle.findings.specs.Found.{test_of, record_in, FoundIn}
use Rattle.findings.proofs.find.Goals as goal

found-by : (test : List ℕ → Bool) (s : List ℕ) (r : Option ℕ) → MatchOption r ((k : ℕ) → 0 ≤ k → k < length s / 16 → test (record_in s k) ≡ true)
    (λ i. (0 ≤ i) × (i < length s / 16) × (test (record_in s i) ≡ false) × ((k : ℕ) → 0 ≤ k → k < i → test (record_in s k) ≡ true)) → FoundIn test s r
found-by test s None h = λ j l. h j zero-le l
found-by test s (Some i) h = (h.1, λ j l. h.3 j zero-le l, h.2)

pub returns : goal.returns
returns c =
    let s = c.args.s.now in
    let test = test_of c.args.rule in
    found-by test s _
    (first_from_Range _ _ _ c.find.result (λ x. test (record_in s x) ≡ false) (λ x. test (record_in s x) ≡ true) c.find.ensures.ran
    (λ x q k. search (rules, tests))
    (λ x q k. search (rules, tests)))
