-- Answers as one number: a value below 2^32, a fault from there on. Assumes nothing.
use mathlib.Core.Path.{◌≡◌, sym, ap, ◌∙◌}
use mathlib.Core.Bool.{cond}
use mathlib.Core.List.{List}
use Prim.Native.Nat.{ℕ, ◌≤◌, ◌<◌}
use borrow.Author.Tests.{le-leb, lt-leb}
use lib.IntN.{ℤ}
use Rattle.records.specs.Refusal.{val, fault, ◌>>=◌}
use Rattle.machines.specs.Worlds.{Moment, coded_fault, coded, code_of, IsCode, world_in, world_by}

pub coded-value : (n : ℕ) → n ≤ 4_294_967_295 → coded n ≡ val n
coded-value n h = ap (λ b. cond b (val n) (fault (coded_fault n))) (le-leb n 4_294_967_295 h)

pub coded-fault : (n : ℕ) → 4_294_967_295 < n → coded n ≡ fault (coded_fault n)
coded-fault n h = ap (λ b. cond b (val n) (fault (coded_fault n))) (lt-leb n 4_294_967_295 h)

pub is_code : (n : ℕ) → n ≤ 4_294_967_295 → IsCode n
is_code n h = ap code_of (coded-value n h)

-- one number for each outcome
pub one_code : (a b : ℕ) → IsCode a → IsCode b → coded a ≡ coded b → a ≡ b
one_code a b x y e = sym x ∙ ap code_of e ∙ y

-- the same of events
module _ (n : ℕ) (vars : List ℤ) (m : Moment) where
  pub world-value : n ≤ 4_294_967_295 → world_by n vars m ≡ val (world_in vars n m)
  world-value h = ap (λ o. o >>= λ events. val (world_in vars events m)) (coded-value n h)

  pub world-fault : 4_294_967_295 < n → world_by n vars m ≡ fault (coded_fault n)
  world-fault h = ap (λ o. o >>= λ events. val (world_in vars events m)) (coded-fault n h)
