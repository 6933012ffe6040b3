-- Laws of lists gathered: of the numbers below one more, of lists gathered before. Assumes nothing.
use mathlib.Core.Path.{◌≡◌, refl, sym, ap, ◌∙◌}
use mathlib.Core.List.{List, [], ◌∷◌, ◌++◌, append-nil}
use Prim.Native.Nat.{ℕ, zero, suc, ◌+◌, ◌≤◌, ◌<◌}
use native.Mathlib.Nat.{add-zero}
use native.Mathlib.Omega.{arith}
use Rattle.prelude.specs.Lists.{gather, from, upto}
use Rattle.prelude.proofs.Lists.{gather_append}

module _ {A B : Type 0} (f : A → List B) where
  pub gather_none : gather f [] ≡ []
  unfolding gather
  gather_none = refl

  pub gather-one : (x : A) → gather f (x ∷ []) ≡ f x
  unfolding gather
  gather-one x = append-nil (f x)

  pub gather-cons : (x : A) (xs : List A) → gather f (x ∷ xs) ≡ f x ++ gather f xs
  unfolding gather
  gather-cons x xs = refl

pub gather-gather : {A B C : Type 0} (g : B → List C) (f : A → List B) (xs : List A) → gather g (gather f xs) ≡ gather (λ x. gather g (f x)) xs
unfolding gather
gather-gather g f [] = refl
gather-gather g f (x ∷ xs) = gather_append g (f x) (gather f xs) ∙ ap (λ l. gather g (f x) ++ l) (gather-gather g f xs)

-- where nothing is given
pub gather-empty : {A B : Type 0} (xs : List A) → gather {B = B} (λ x. []) xs ≡ []
unfolding gather
gather-empty [] = refl
gather-empty (x ∷ xs) = gather-empty xs

-- ---- numbers

pub from-append : (k n m : ℕ) → from k (n + m) ≡ from k n ++ from (k + n) m
unfolding from
from-append k zero m = (λ i. from (sym (add-zero k) i) (zero_left m i))
  where
    zero_left : (m : ℕ) → 0 + m ≡ m
    zero_left m = omega arith
from-append k (suc n) m =
    ap (from k) (let e : suc n + m ≡ suc (n + m) = omega arith in e)
    ∙ ap (λ l. k ∷ l) (from-append (suc k) n m ∙ ap (λ j. from (suc k) n ++ from j m) (let e : suc k + n ≡ k + suc n = omega arith in e))

pub upto-more : (n : ℕ) → upto (n + 1) ≡ upto n ++ (n ∷ [])
unfolding from
upto-more n = from-append 0 n 1 ∙ ap (λ j. upto n ++ (j ∷ [])) (let e : 0 + n ≡ n = omega arith in e)

module _ {B : Type 0} where
  pub gather-more : (f : ℕ → List B) (n : ℕ) → gather f (upto (n + 1)) ≡ gather f (upto n) ++ f n
  gather-more f n = ap (gather f) (upto-more n) ∙ gather_append f (upto n) (n ∷ []) ∙ ap (λ l. gather f (upto n) ++ l) (gather-one f n)

  -- what two give that agree on the numbers
  pub gather-alike : (f g : ℕ → List B) (k n : ℕ) → ((i : ℕ) → k ≤ i → i < k + n → f i ≡ g i) → gather f (from k n) ≡ gather g (from k n)
  unfolding gather from
  gather-alike f g k zero h = refl
  gather-alike f g k (suc n) h = λ j. h k (omega arith) (omega arith) j ++ gather-alike f g (suc k) n (λ i a b. h i (omega arith) (omega arith)) j

  pub gather-below : (f g : ℕ → List B) (n : ℕ) → ((i : ℕ) → i < n → f i ≡ g i) → gather f (upto n) ≡ gather g (upto n)
  gather-below f g n h = gather-alike f g 0 n (λ i a b. h i (omega arith))

  -- from k on, by the numbers from 0
  pub gather-shift : (f : ℕ → List B) (k j n : ℕ) → gather f (from (k + j) n) ≡ gather (λ i. f (k + i)) (from j n)
  unfolding gather from
  gather-shift f k j zero = refl
  gather-shift f k j (suc n) =
      ap (λ l. f (k + j) ++ l) (ap (λ i. gather f (from i n)) (let e : suc (k + j) ≡ k + suc j = omega arith in e) ∙ gather-shift f k (suc j) n)
