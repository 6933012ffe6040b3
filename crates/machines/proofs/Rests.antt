-- What `all` over the places of a list behind the first n answers. Assumes nothing.
use mathlib.Core.Path.{◌≡◌, refl, ap, ◌∙◌}
use mathlib.Core.Bool.{Bool, true, false, ◌&&◌}
use mathlib.Core.List.{List, [], ◌∷◌}
use Prim.Native.Nat.{ℕ}
use lib.ListN.{drop}
use denote.Param.Members.{Mut}
use denote.Ref.{Bor}
use Rattle.std.specs.Prelude.{Option}
use Rattle.std.specs.declared.slice.Iter.{Iter}
use Rattle.std.specs.declared.iter.Skip.{Skip}
use Rattle.std.specs.Fn.{Called}
use Rattle.std.specs.Iterator.{YieldsThen}
use Rattle.std.specs.Iterator.Adapters.{skip_steps, skip_source, skip_count}
use Rattle.std.specs.List.{FoldsTo, list_all}
use Rattle.std.specs.Option.{MatchOption}
use Rattle.std.specs.Slice.Iter.{iter_rest}
use Rattle.std.proofs.iter.Yields.{fronts}
use Rattle.std.proofs.lemmas.Iterator.{YieldsList-from_slice}
use Rattle.std.proofs.lemmas.Iterator.Adapters.{YieldsList-from_skip}
use Rattle.std.proofs.lemmas.Iterator.Search.{all_from_yields_List}
use Rattle.prelude.specs.Lists.{all}

list_all-all : {A : Type 0} (p : A → Bool) (xs : List A) → list_all p xs ≡ all p xs
unfolding all
list_all-all p [] = refl
list_all-all p (x ∷ xs) = ap (λ b. p x && b) (list_all-all p xs)

-- Of a closure that answers p of each place: the iterator, what `all` leaves of it, the closure, and the answer stand in its clause `ran`.
pub all_behind : {A F : Type 0} {g : Mut F (Bor A × Unit {0}) Bool} {s : Skip (Iter A)} (p : A → Bool) (n : ℕ) (l : List A) (u : Skip (Iter A)) (f : F) (r : Bool) →
    (xs : List (Bor A)) × (o : Option (Bor A)) × (j : F) × YieldsThen (skip_steps fronts) s xs o u × FoldsTo (λ q x t. Called g q (x, tt) true t) f xs j
    × MatchOption o (r ≡ true) (λ x. (r ≡ false) × ((h : F) × Called g j (x, tt) false h)) →
    skip_count s ≡ n →
    iter_rest (skip_source s) ≡ l →
    ((x : Bor A) (b : Bool) (q : F) → Called g f (x, tt) b q → (q ≡ f) × (b ≡ p x.now)) →
    r ≡ all p (drop n l)
all_behind p n l u f r ran count rest answers =
    all_from_yields_List p u f r ran (YieldsList-from_skip n (YieldsList-from_slice l rest) count) answers ∙ list_all-all p (drop n l)
