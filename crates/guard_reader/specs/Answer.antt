-- Of the code: the tree of a whole line, and its answer read as the outcome of document 02. Assumes nothing: these are definitions.
use Rattle.std.specs.Prelude.{◌≡◌, Option, Some, None, Result, List, ℕ, ◌≤◌, length}
use Rattle.std.proofs.lemmas.List.Edits.{sets}
use Rattle.records.specs.Refusal.{Out, val}
use Rattle.records.specs.RefusalOf.{refusal_of, out_of}
use Rattle.records.specs.declared.refusals.Refusal.{Refusal}
use Rattle.model.specs.Outcome.{Outcome}
use Rattle.guards.specs.Trees.{Tree, is_truth, fits, node_count, nodes_from, records_of}
use Rattle.guards.specs.Grammar.{outside, line_tree}
use Rattle.guard_reader.specs.declared.trees.Part.{Part}

pub record HasLine (text before after : List ℕ) (p : Part) : Type 0 where
  pub tree : Tree
  pub same : line_tree text ≡ val tree
  pub counted : p.size ≡ node_count tree
  pub fitting : p.fits ≡ fits tree
  pub truthful : p.truth ≡ is_truth tree
  pub written : after ≡ sets before 0 (records_of (nodes_from 0 tree))
  pub few : p.size ≤ length text
  pub short : length text ≤ 256

abbrev pub IsLine : List ℕ → List ℕ → List ℕ → Option Part → Type 0
IsLine text before after (Some p) = HasLine text before after p
IsLine text before after None = line_tree text ≡ outside

abbrev pub answer_of : Result ℕ Refusal → Out ℕ
answer_of r = out_of refusal_of r

abbrev pub guard_of : Result ℕ Refusal → List ℕ → Outcome ℕ (List ℕ)
guard_of r lent = record { answer = answer_of r; lent = lent }
