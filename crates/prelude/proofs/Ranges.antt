-- What `all` over the numbers below a size answers. Assumes nothing.
use mathlib.Core.Path.{◌≡◌, refl, ap, ◌∙◌}
use mathlib.Core.Bool.{Bool, true, false, ◌&&◌}
use mathlib.Core.List.{List}
use Prim.Native.Nat.{ℕ, zero, suc, ◌+◌}
use native.Mathlib.Nat.{sub-zero}
use native.Mathlib.Omega.{arith}
use denote.Param.Members.{Mut}
use Rattle.std.specs.Prelude.{Option}
use Rattle.std.specs.declared.ops.Range.{Range}
use Rattle.std.proofs.iter.Yields.{nat_range_steps}
use Rattle.std.specs.Fn.{Called}
use Rattle.std.specs.Iterator.{YieldsThen}
use Rattle.std.specs.List.{range_with_len, FoldsTo, list_all}
use Rattle.std.specs.Option.{MatchOption}
use Rattle.std.proofs.lemmas.Iterator.{YieldsList-from_range}
use Rattle.std.proofs.lemmas.Iterator.Search.{all_from_yields_List}
use Rattle.prelude.specs.Lists.{all, from, upto}

list_all-from : (p : ℕ → Bool) (a n : ℕ) → list_all p (range_with_len a n) ≡ all p (from a n)
unfolding all from
list_all-from p a zero = refl
list_all-from p a (suc n) =
    let next : a + 1 ≡ suc a = omega arith in
    ap (λ b. p a && b) (list_all-from p (a + 1) n ∙ ap (λ j. all p (from j n)) next)

-- Of a closure that answers p of each number: the range, what `all` leaves of it, the closure, and the answer stand in its clause `ran`.
pub all_upto : {F : Type 0} {g : Mut F (ℕ × Unit {0}) Bool} {s : Range ℕ} (p : ℕ → Bool) (n : ℕ) (u : Range ℕ) (f : F) (r : Bool) →
    (xs : List ℕ) × (o : Option ℕ) × (j : F) × YieldsThen nat_range_steps s xs o u × FoldsTo (λ q x t. Called g q (x, tt) true t) f xs j
    × MatchOption o (r ≡ true) (λ x. (r ≡ false) × ((h : F) × Called g j (x, tt) false h)) →
    s ≡ record { start = 0; end = n } →
    ((x : ℕ) (b : Bool) (q : F) → Called g f (x, tt) b q → (q ≡ f) × (b ≡ p x)) →
    r ≡ all p (upto n)
all_upto p n u f r ran e answers = all_from_yields_List p u f r ran (YieldsList-from_range 0 n n e (sub-zero n)) answers ∙ list_all-from p 0 n
