use mathlib.Core.Path.{◌≡◌, refl, sym, ap, ◌∙◌}
use mathlib.Core.Bool.{Bool, ◌||◌}
use mathlib.Core.List.{List}
use Prim.Native.Nat.{ℕ, zero, suc, ◌+◌}
use native.Mathlib.Omega.{arith}
use borrow.Author.Tests.{ne_eqb}
use lib.Dec.{ltb}
use lib.ListN.{length, get_or, take, length-take}
use lib.Seq.{get_or-take}
use Rattle.std.proofs.Common.{rules, tests}
use Rattle.std.specs.List.{range_with_len, list_any}
use Rattle.std.proofs.lemmas.Iterator.{YieldsList-from_range}
use Rattle.std.proofs.lemmas.Iterator.Search.{any_from_yields_List}
use Rattle.framing.proofs.FramingLaws.{over, over-one, over_none}
use Rattle.framing.proofs.wrong_amounts.Goals as goal

module _ (ns most : List ℕ) where
  abbrev exceeded : ℕ → ℕ → Bool
  exceeded j m = ltb m (get_or ns j 0)

  -- a pass over the limits from kind k on, by the numbers of the kinds
  by-number : (n k : ℕ) → k + n ≡ length (take 9 most) → over exceeded k (take 9 most) ≡ list_any (λ j. exceeded j (get_or most j 0)) (range_with_len k n)
  by-number zero k e = over_none exceeded k (take 9 most) (omega arith)
  by-number (suc n) k e =
      over-one exceeded k (take 9 most) (omega arith)
      ∙ ap (λ m. exceeded k m || over exceeded (k + 1) (take 9 most)) (get_or-take 9 most k 0 (omega (arith, length-take 9 most)))
      ∙ ap (λ b. exceeded k (get_or most k 0) || b) (by-number n (k + 1) (omega arith))

pub returns-else-counts-eq0 : goal.returns-else-counts-eq0
returns-else-counts-eq0 c =
    let a = c.args in
    let kinds = length (take 9 a.most.now) in
    any_from_yields_List (λ j. exceeded a.counts a.most.now j (get_or a.most.now j 0)) _ _ _ c.any.ensures.ran (YieldsList-from_range 0 _ kinds refl (omega arith)) (λ x b q k. search (rules, tests))
    ∙ sym (by-number a.counts a.most.now kinds 0 (omega arith))
    ∙ sym (ap (λ b. b || over (exceeded a.counts a.most.now) 0 (take 9 a.most.now)) (ne_eqb (get_or a.counts 0 0) 0 c.if-counts-eq0.false))
