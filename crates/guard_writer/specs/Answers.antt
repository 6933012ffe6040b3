-- What the writer answers, in the words of the refusal table and of the calls. Assumes nothing: these are definitions.
use Rattle.std.specs.Prelude.{◌≡◌, Result, Ok, List, ℕ, ◌-◌, ◌/◌, length}
use Rattle.std.proofs.Math.Option.{Option}
use Rattle.records.specs.Refusal as R
use Rattle.records.specs.RefusalOf.{refusal_of, out_of, error_of}
use Rattle.records.specs.declared.refusals.Refusal.{Refusal}
use Rattle.model.specs.Outcome.{Outcome}
use Rattle.expressions.specs.Nodes.{node_at}
use Rattle.guards.specs.Lists.{list_refusal}

abbrev pub listed_of : Result ℕ Refusal → Option R.Refusal
listed_of r = error_of refusal_of r

-- Refused as the definition refuses, and of what is accepted the root that is answered is the last node.
pub record IsListed (nodes : List ℕ) (r : Result ℕ Refusal) : Type 0 where
  pub answer : listed_of r ≡ list_refusal (node_at nodes) (length nodes / 16)
  pub root : (n : ℕ) → r ≡ Ok n → n ≡ length nodes / 16 - 1

abbrev pub answer_of : Result ℕ Refusal → R.Out ℕ
answer_of r = out_of refusal_of r

-- the answer, and the lent buffer afterwards
abbrev pub written_of : Result ℕ Refusal → List ℕ → Outcome ℕ (List ℕ)
written_of r text = record { answer = answer_of r; lent = text }
