-- What a call answers, and what was lent to it afterwards. Assumes nothing: these are definitions.
use Rattle.records.specs.Refusal.{Out, val, fault}

pub record Outcome (A L : Type 0) : Type 0 where
  pub answer : Out A
  pub lent : L

-- "Every refusal returns its number alone; everything lent keeps its contents."
abbrev pub settled : {A L : Type 0} → L → Out (A × L) → Outcome A L
settled lent (val x) = record { answer = val x.0; lent = x.1 }
settled lent (fault w) = record { answer = fault w; lent = lent }
