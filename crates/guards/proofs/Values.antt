-- What a computation that came to a value went through. Assumes nothing.
use mathlib.Core.Path.{◌≡◌, refl}
use mathlib.Core.Bool.{Bool, true, false, cond}
use Prim.Native.Nat.{ℕ}
use native.Mathlib.Omega.{arith}
use borrow.Author.Tests.{eqb-true}
use lib.Dec.{eqb}
use Rattle.records.specs.Refusal.{Refusal, Out, val, fault, ◌>>=◌, ◌>>◌, fault_if}

pub val_same : {A : Type 0} {a b : A} → val a ≡ val b → a ≡ b
val_same e = cc

pub no_value : {A X : Type 0} {w : Refusal} {a : A} → fault w ≡ val a → X
no_value e = let z : ◌≡◌ {A = ℕ} 0 1 = cc in absurd (omega arith)

pub bound : {A B X : Type 0} (m : Out A) (f : A → Out B) {b : B} → (m >>= f) ≡ val b → ((a : A) → m ≡ val a → f a ≡ val b → X) → X
bound (val a) f e g = g a refl e
bound (fault w) f e g = no_value e

pub passed : {B : Type 0} (t : Bool) (w : Refusal) (k : Out B) {b : B} → (fault_if t w >> k) ≡ val b → (t ≡ false) × (k ≡ val b)
passed true w k e = no_value e
passed false w k e = (refl, e)

-- one entry of a table of codes, or those behind it
pub case-by : {A X : Type 0} (n c : ℕ) (a rest y : A) → cond (eqb n c) a rest ≡ y → (n ≡ c → a ≡ y → X) → (rest ≡ y → X) → X
case-by {X} n c a rest y e f g = go (eqb n c) refl e
  where
    go : (t : Bool) → eqb n c ≡ t → cond t a rest ≡ y → X
    go true h e = f (eqb-true n c h) e
    go false h e = g e
