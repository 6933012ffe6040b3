-- What a call of the writer wrote, handed to the reader: the line is read as the tree of the list, in the reader's numbering. Assumes nothing.
use mathlib.Core.Path.{◌≡◌, refl, ap, ◌∙◌}
use mathlib.Core.Bool.{Bool, true, false, not, ◌&&◌}
use mathlib.Core.Option.{Option, some, none}
use mathlib.Core.List.{List, ◌++◌}
use Prim.Native.Nat.{ℕ, ◌-◌, ◌/◌, ◌≤◌}
use native.Mathlib.Omega.{arith}
use lib.Dec.{ltb}
use lib.ListN.{length, take, drop}
use lib.Seq.{take_at}
use Rattle.records.specs.Refusal.{Refusal, wrong_sort, short_space, Out, val, ◌>>=◌, ◌>>◌, fault_if, unless_refused}
use Rattle.records.proofs.RoundTrips.{OfBytes}
use Rattle.model.specs.Outcome.{settled}
use Rattle.expressions.specs.Nodes.{node_at}
use Rattle.guards.specs.Trees.{Tree, is_truth, fits, node_count, nodes_from, records_of}
use Rattle.guards.specs.Grammar.{line_tree}
use Rattle.guards.specs.Texts.{text_of}
use Rattle.guards.specs.Lists.{list_refusal, tree_of}
use Rattle.guards.specs.Calls.{written, read_guard, written_line, write_guard}
use Rattle.guards.proofs.AcceptedLists.{list_refusal-held}
use Rattle.guards.proofs.AcceptedSizes.{list_refusal-size}
use Rattle.guards.proofs.WrittenLines.{text_of-read}

-- ---- what an answer of the writer says

-- the list was taken, and its line stands in front of what was lent
pub record WasWritten (nodes lent : List ℕ) (n : ℕ) : Type 0 where
  pub taken : list_refusal (node_at nodes) (length nodes / 16) ≡ none
  pub size : length (written_line nodes) ≡ n
  pub lent_then : (write_guard nodes lent).lent ≡ written_line nodes ++ drop (length (written_line nodes)) lent

module _ (nodes lent : List ℕ) (n : ℕ) where
  abbrev line_by : Option Refusal → Bool → Out (ℕ × List ℕ)
  line_by o narrow = unless_refused o (fault_if narrow short_space >> val (written (length (written_line nodes)) (written_line nodes) lent))

  abbrev narrow : Bool
  narrow = ltb (length lent) (length (written_line nodes))

  line_by-answer : (o : Option Refusal) (b : Bool) → (settled lent (line_by o b)).answer ≡ val n → (o ≡ none) × (b ≡ false) × (length (written_line nodes) ≡ n)
  line_by-answer none false h = (refl, refl, cc)
  line_by-answer none true h = let z : ◌≡◌ {A = ℕ} 0 1 = cc in absurd (omega arith)
  line_by-answer (some w) b h = let z : ◌≡◌ {A = ℕ} 0 1 = cc in absurd (omega arith)

  pub write_guard-answer : (write_guard nodes lent).answer ≡ val n → WasWritten nodes lent n
  write_guard-answer h =
      let x = line_by-answer (list_refusal (node_at nodes) (length nodes / 16)) narrow h in
      record { taken = x.0; size = x.2; lent_then = λ i. (settled lent (line_by (x.0 i) (x.1 i))).lent }

-- ---- handed to the reader

-- the line that the writer wrote, without what lies beyond
abbrev pub line_written : List ℕ → List ℕ → ℕ → List ℕ
line_written nodes lent n = take n (write_guard nodes lent).lent

module _ (nodes lent : List ℕ) (n : ℕ) (was : WasWritten nodes lent n) where
  abbrev pub list_tree : Tree
  list_tree = tree_of (node_at nodes) (length nodes / 16 - 1)

  pub line_written-text : line_written nodes lent n ≡ text_of list_tree
  line_written-text = ap (take n) was.lent_then ∙ take_at (written_line nodes) (drop (length (written_line nodes)) lent) n was.size

  -- "every written line that fits in 256 bytes is read back as its tree", and "too little space for nodes .. is 24" is the only refusal left
  pub read_guard-rewritten : OfBytes nodes → n ≤ 256 → (out : List ℕ) →
      read_guard (line_written nodes lent n) out ≡ settled out (fault_if (ltb (length out / 16) (length nodes / 16)) short_space >> val (written (length nodes / 16) (records_of (nodes_from 0 list_tree)) out))
  read_guard-rewritten bytes few out =
      let held = list_refusal-held nodes bytes (length nodes / 16) was.taken in
      let size : node_count list_tree ≡ length nodes / 16 = list_refusal-size nodes (length nodes / 16) was.taken in
      let line : line_tree (line_written nodes lent n) ≡ val list_tree = ap line_tree line_written-text ∙ text_of-read list_tree held.0 (let e : length (text_of list_tree) ≡ n = was.size in omega arith) in
      ap (λ o. settled out (o >>= λ t. fault_if (not (fits t && is_truth t)) wrong_sort >> (fault_if (ltb (length out / 16) (node_count t)) short_space >> val (written (node_count t) (records_of (nodes_from 0 t)) out)))) line
      ∙ (λ i. settled out (fault_if (not (held.1 i && held.2 i)) wrong_sort >> (fault_if (ltb (length out / 16) (size i)) short_space >> val (written (size i) (records_of (nodes_from 0 list_tree)) out))))
