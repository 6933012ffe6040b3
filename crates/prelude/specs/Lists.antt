-- Words about lists that the definitions share. Assumes nothing: these are definitions.
use Rattle.std.specs.Prelude.{Bool, true, false, not, cond, ◌&&◌, ◌||◌, ℕ, zero, suc, ◌-◌, leb, eqb, length, replicate}
use mathlib.Core.List.{List, [], ◌∷◌, ◌++◌}

module _ {A : Type 0} where
  -- those that pass the test, in order
  unfoldable pub keep : (A → Bool) → List A → List A
  keep p [] = []
  keep p (x ∷ xs) = cond (p x) (x ∷ keep p xs) (keep p xs)

  unfoldable pub all : (A → Bool) → List A → Bool
  all p [] = true
  all p (x ∷ xs) = p x && all p xs

  unfoldable pub any : (A → Bool) → List A → Bool
  any p [] = false
  any p (x ∷ xs) = p x || any p xs

  -- how many pass the test (the `let` keeps both branches from computing the rest)
  unfoldable pub count : (A → Bool) → List A → ℕ
  count p [] = 0
  count p (x ∷ xs) = let rest = count p xs in cond (p x) (suc rest) rest

  -- sorted by a key, ascending, equal keys in the order given
  unfoldable pub insert : (A → ℕ) → A → List A → List A
  insert key x [] = x ∷ []
  insert key x (y ∷ ys) = cond (leb (key x) (key y)) (x ∷ y ∷ ys) (y ∷ insert key x ys)

  unfoldable pub sorted : (A → ℕ) → List A → List A
  unfolding insert
  sorted key [] = []
  sorted key (x ∷ xs) = insert key x (sorted key xs)

  -- the list, then d up to n places
  abbrev pub padded : ℕ → A → List A → List A
  padded n d xs = xs ++ replicate (n - length xs) d

module _ {A B : Type 0} where
  -- the lists that f gives, one after the other
  unfoldable pub gather : (A → List B) → List A → List B
  gather f [] = []
  gather f (x ∷ xs) = f x ++ gather f xs

  -- each with its number, counted from k
  unfoldable pub map_from : ℕ → (ℕ → A → B) → List A → List B
  map_from k f [] = []
  map_from k f (x ∷ xs) = f k x ∷ map_from (suc k) f xs

-- k, k + 1, …: n of them
unfoldable pub from : ℕ → ℕ → List ℕ
from k zero = []
from k (suc n) = k ∷ from (suc k) n

-- the numbers below n
abbrev pub upto : ℕ → List ℕ
upto n = from 0 n

unfoldable pub mem : ℕ → List ℕ → Bool
mem n [] = false
mem n (x ∷ xs) = eqb x n || mem n xs

unfoldable pub distinct : List ℕ → Bool
unfolding mem
distinct [] = true
distinct (x ∷ xs) = not (mem x xs) && distinct xs

-- none is below the one before it
unfoldable pub ascending : List ℕ → Bool
ascending [] = true
ascending (x ∷ []) = true
ascending (x ∷ y ∷ ys) = leb x y && ascending (y ∷ ys)

-- a table of codes: the entry of code n, or d where there is none
unfoldable pub case_of : {A : Type 0} → ℕ → List (ℕ × A) → A → A
case_of n [] d = d
case_of n (x ∷ xs) d = cond (eqb n x.0) x.1 (case_of n xs d)

-- 1 for true, 0 for false
abbrev pub bit : Bool → ℕ
bit true = 1
bit false = 0

-- what a proof that computes with these opens
unfoldable pub Lists : Type 0
unfolding keep all any count insert sorted gather map_from from mem distinct ascending case_of
Lists = Unit
