-- Things that belong to a numbered owner stand in one list, each with its owner's number, as their records stand in a file. Assumes nothing: these are
-- definitions.
use Rattle.std.specs.Prelude.{List, map, ℕ, eqb}
use Rattle.prelude.specs.Lists.{keep, gather, upto}

-- those of one owner, in file order
abbrev pub of : {A : Type 0} → ℕ → List (ℕ × A) → List A
of n xs = map (λ x. x.1) (keep (λ x. eqb x.0 n) xs)

-- the other way, for n owners: the things of owner 0, then those of owner 1, …
abbrev pub by_owner : {A : Type 0} → ℕ → (ℕ → List A) → List (ℕ × A)
by_owner n f = gather (λ k. map (λ x. (k, x)) (f k)) (upto n)
