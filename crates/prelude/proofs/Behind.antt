-- A test of all places behind the first n, by a loop that counts up. Assumes nothing.
use mathlib.Core.Path.{◌≡◌, sym, ap, ◌∙◌}
use mathlib.Core.Bool.{Bool, true, false, ◌&&◌, and_assoc, and-true}
use mathlib.Core.List.{List}
use Prim.Native.Nat.{ℕ, ◌+◌, ◌≤◌, ◌<◌}
use native.Mathlib.Numerals.{add-one}
use lib.ListN.{length, get_or, drop, drop_of_length-le}
use lib.Seq.{drop-cons}
use Rattle.prelude.specs.Lists.{all}

module _ {A : Type 0} (p : A → Bool) (d : A) (n : ℕ) (l : List A) where
  -- those up to k passed: the test is that of the others
  abbrev pub Behind : ℕ → Type 0
  Behind k = all p (drop n l) ≡ all p (drop k l)

  one : (k : ℕ) → k < length l → all p (drop k l) ≡ (p (get_or l k d) && all p (drop (k + 1) l))
  unfolding all
  one k h = ap (all p) (drop-cons l k d h) ∙ ap (λ j. p (get_or l k d) && all p (drop j l)) (sym (add-one k))

  pub behind_more : (k : ℕ) → Behind k → k < length l → p (get_or l k d) ≡ true → Behind (k + 1)
  behind_more k b h e = b ∙ one k h ∙ ap (λ t. t && all p (drop (k + 1) l)) e

  pub behind-not : (k : ℕ) → Behind k → k < length l → p (get_or l k d) ≡ false → all p (drop n l) ≡ false
  behind-not k b h e = b ∙ one k h ∙ ap (λ t. t && all p (drop (k + 1) l)) e

  pub behind-all : (k : ℕ) → Behind k → length l ≤ k → all p (drop n l) ≡ true
  unfolding all
  behind-all k b h = b ∙ ap (all p) (drop_of_length-le l {i = k} h)

  -- a truth that those up to k came to
  abbrev pub BehindBy : Bool → ℕ → Type 0
  BehindBy b k = (b && all p (drop k l)) ≡ all p (drop n l)

  pub by-more : (b : Bool) (k : ℕ) → BehindBy b k → k < length l → BehindBy (b && p (get_or l k d)) (k + 1)
  by-more b k h r = and_assoc b (p (get_or l k d)) (all p (drop (k + 1) l)) ∙ ap (◌&&◌ b) (sym (one k r)) ∙ h

  pub by_all : (b : Bool) (k : ℕ) → BehindBy b k → length l ≤ k → b ≡ all p (drop n l)
  unfolding all
  by_all b k h r = sym (and-true b) ∙ ap (λ x. b && all p x) (sym (drop_of_length-le l {i = k} r)) ∙ h
