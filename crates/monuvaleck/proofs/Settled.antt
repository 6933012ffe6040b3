-- What is settled by a refusal keeps what was lent. Assumes nothing.
use mathlib.Core.Path.{◌≡◌, refl}
use Prim.Native.Nat.{ℕ}
use native.Mathlib.Omega.{arith}
use Rattle.records.specs.Refusal.{Refusal, Out, val, fault}
use Rattle.model.specs.Outcome.{settled}

pub settled-kept : {A L : Type 0} (lent : L) (o : Out (A × L)) (w : Refusal) → (settled lent o).answer ≡ fault w → (settled lent o).lent ≡ lent
settled-kept lent (val x) w e = let z : ◌≡◌ {A = ℕ} 0 1 = cc in absurd (omega arith)
settled-kept lent (fault v) w e = refl
