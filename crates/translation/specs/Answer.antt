-- What the translator answers, in the words of the model. Assumes nothing: these are definitions.
use Rattle.std.specs.Prelude.{List, ℕ, Result}
use Rattle.records.specs.Refusal.{Out}
use Rattle.records.specs.RefusalOf.{refusal_of, out_of}
use Rattle.records.specs.declared.refusals.Refusal.{Refusal}
use Rattle.model.specs.Outcome.{Outcome}

abbrev pub answer_of : Result ℕ Refusal → Out ℕ
answer_of r = out_of refusal_of r

-- the answer, and the lent buffer afterwards
abbrev pub translated_of : Result ℕ Refusal → List ℕ → Outcome ℕ (List ℕ)
translated_of r out = record { answer = answer_of r; lent = out }
